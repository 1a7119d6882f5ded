-- The steps of a sum and a product give the sum and the product.
use Rattle.std.proofs.Common.{◌≡◌, ◌≤◌, ◌↔◌, ℕ, sym, ap, ap₂, ◌∙◌, arith, to_z, of_z}
use Rattle.std.proofs.{lemmas.Int.ints}
use Rattle.std.specs.Prelude.{ℤ, pos, ◌+ℤ◌, ◌*ℤ◌, unsigned_abs, int_div, Result, IsOk, IfOk}
use Rattle.std.specs.Int.{w128}
use Rattle.vipr_spec.specs.Fraction.{ℚ, over, whole, most, ◌+ℚ◌, ◌*ℚ◌, IsBounded, IsWhole, SumFits}
use Rattle.vipr_spec.specs.Fraction.{ProductFits}
use Rattle.vipr_spec.specs.{Lowest.IsLowest, Lowest.abs_div}
use Rattle.vipr_spec.proofs.Laws.{whole-add, whole-mul, sum_is, sum_lowest, product_is, parts_of}
use Rattle.vipr_frac.specs.Parts.{IsReduced, left_part, right_part, both_parts, sum_gcd, sum_denom}
use Rattle.vipr_frac.specs.Parts.{product_numer, product_denom, FitsSum, FitsProduct}
use Rattle.vipr_frac.proofs.{Steps.gcd-one, Views.over-self, Views.passed-on, Views.WholeFacts}

-- ---- the sum
sum-lowest : (x y : ℚ) → IsLowest (int_div (both_parts x y) (pos (sum_gcd x y))) (sum_denom x y)
sum-lowest x y = sum_lowest x.numer y.numer x.denom y.denom x.lowest y.lowest

pub sum-is : (x y : ℚ)
    → x +ℚ y ≡ over (int_div (both_parts x y) (pos (sum_gcd x y))) (sum_denom x y)
sum-is x y = sum_is x y

pub sum-numer : (x y : ℚ) → (x +ℚ y).numer ≡ int_div (both_parts x y) (pos (sum_gcd x y))
sum-numer x y = ap (λ (z : ℚ). z.numer) (sum-is x y) ∙ (parts_of _ _ (sum-lowest x y)).0

pub sum-denom : (x y : ℚ) → (x +ℚ y).denom ≡ sum_denom x y
sum-denom x y = ap (λ (z : ℚ). z.denom) (sum-is x y) ∙ (parts_of _ _ (sum-lowest x y)).1

pub IsReduced-sum : (x y : ℚ) → FitsSum x y
    → IsReduced (int_div (both_parts x y) (pos (sum_gcd x y))) (sum_denom x y)
IsReduced-sum x y f = grind (arith, sum-lowest, abs_div)

pub SumFits-parts : (x y : ℚ) → FitsSum x y → SumFits x y
SumFits-parts x y f = (f.left, f.right, f.both, rw (sum-denom x y) f.below)

pub FitsSum-from : (x y : ℚ) → SumFits x y → FitsSum x y
FitsSum-from x y f = record { left = f.0; right = f.1; both = f.2; below = rw (sum-denom x y) at f.3 }

-- ---- the product
pub product-is : (x y : ℚ) → x *ℚ y ≡ over (product_numer x y) (product_denom x y)
product-is x y = (product_is x y).1

product-parts : (x y : ℚ)
    → ((x *ℚ y).numer ≡ product_numer x y) × ((x *ℚ y).denom ≡ product_denom x y)
product-parts x y = grind (arith, parts_of, product_is, product-is)

pub IsReduced-product : (x y : ℚ) → FitsProduct x y
    → IsReduced (product_numer x y) (product_denom x y)
IsReduced-product x y f = record { lowest = (product_is x y).0; numer_bounded = f.numer; denom_bounded = f.below }

pub ProductFits-parts : (x y : ℚ) → FitsProduct x y → ProductFits x y
ProductFits-parts x y f = let parts = product-parts x y in (rw parts.0 f.numer, rw parts.1 f.below)

pub FitsProduct-from : (x y : ℚ) → ProductFits x y → FitsProduct x y
FitsProduct-from x y f =
    let parts = product-parts x y in
    record { numer = rw parts.0 at f.0; below = rw parts.1 at f.1 }

-- ---- whole numbers
pub is-whole : (x : ℚ) → x.denom ≡ 1 → x ≡ whole x.numer
is-whole x e = sym (over-self x) ∙ ap (over x.numer) e

pub sum-whole : (x y : ℚ) → x.denom ≡ 1 → y.denom ≡ 1 → x +ℚ y ≡ whole (x.numer +ℤ y.numer)
sum-whole x y e f = ap₂ (λ u v. u +ℚ v) (is-whole x e) (is-whole y f) ∙ whole-add x.numer y.numer

pub product-whole : (x y : ℚ) → x.denom ≡ 1 → y.denom ≡ 1 → x *ℚ y ≡ whole (x.numer *ℤ y.numer)
product-whole x y e f = ap₂ (λ u v. u *ℚ v) (is-whole x e) (is-whole y f) ∙ whole-mul x.numer y.numer

one-lowest : (k : ℤ) → IsLowest k 1
one-lowest k = record { positive = omega arith; apart = gcd-one (unsigned_abs k) }

whole-denom : (k : ℤ) → (whole k).denom ≡ 1
whole-denom k = (parts_of k 1 (one-lowest k)).1

whole-numer : (k : ℤ) → (whole k).numer ≡ k
whole-numer k = (parts_of k 1 (one-lowest k)).0

pub denom-whole : (x : ℚ) → IsWhole x → x.denom ≡ 1
denom-whole x w = ap (λ (y : ℚ). y.denom) w.1 ∙ whole-denom w.0

times-one : (z : ℤ) → z *ℤ pos 1 ≡ z
times-one z = omega (arith, ints)

part-whole : (x y : ℚ) → x.denom ≡ 1 → y.denom ≡ 1
    → (left_part x y ≡ x.numer) × (right_part x y ≡ y.numer)
part-whole x y e f = (rw (e, f, gcd-one 1) (times-one x.numer), rw (e, f, gcd-one 1) (times-one y.numer))

pub FitsSum-whole : (x y : ℚ) → x.denom ≡ 1 → y.denom ≡ 1 → IsBounded x → IsBounded y
    → unsigned_abs (x.numer +ℤ y.numer) ≤ most → FitsSum x y
FitsSum-whole x y e f bx b_y h = grind (arith, gcd-one)

pub FitsSum-whole_back : (x y : ℚ) → x.denom ≡ 1 → y.denom ≡ 1 → FitsSum x y
    → unsigned_abs (x.numer +ℤ y.numer) ≤ most
FitsSum-whole_back x y e f h = grind (arith, part-whole)

pub ProductFits-whole : (x y : ℚ) → x.denom ≡ 1 → y.denom ≡ 1
    → unsigned_abs (x.numer *ℤ y.numer) ≤ most → ProductFits x y
ProductFits-whole x y e f h = grind (arith, product-whole, whole-numer, whole-denom)

pub ProductFits-whole_back : (x y : ℚ) → x.denom ≡ 1 → y.denom ≡ 1 → ProductFits x y
    → unsigned_abs (x.numer *ℤ y.numer) ≤ most
ProductFits-whole_back x y e f h = rw (product-whole x y e f, whole-numer (x.numer *ℤ y.numer)) at h.0

-- ---- an operation that is done on parts

-- on the numerators of whole numbers
pub by_numerators : {E : Type 0} (x y z : ℚ) (p r : ℤ) (op : ℤ → ℤ → ℤ) (Fits : Type 0)
    (s : Result ℚ E) → WholeFacts x p → WholeFacts y r → z ≡ whole (op x.numer y.numer)
    → (unsigned_abs (op x.numer y.numer) ≤ most) ↔ Fits
    → IsOk s ↔ (unsigned_abs (op (to_z w128 (of_z w128 p)) (to_z w128 (of_z w128 r))) ≤ most)
    → IfOk s (λ f. f ≡ whole (op (to_z w128 (of_z w128 p)) (to_z w128 (of_z w128 r))))
    → (IsOk s ↔ Fits) × IfOk s (λ f. f ≡ z)
by_numerators x y z p r op Fits s a b z_is fits ok value = grind arith

-- on two fractions whose parts are passed on
pub passed_both : (P : ℚ → ℚ → Type 0) (x y : ℚ) (p r : ℤ) (q s : ℕ) → p ≡ x.numer → q ≡ x.denom
    → IsReduced p q → r ≡ y.numer → s ≡ y.denom → IsReduced r s
    → P (over (to_z w128 (of_z w128 p)) q) (over (to_z w128 (of_z w128 r)) s) → P x y
passed_both P x y p r q s a b c d e f h = grind (arith, passed-on x p q a b c, passed-on y r s d e f)
