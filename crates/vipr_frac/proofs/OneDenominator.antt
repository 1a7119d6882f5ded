-- A sum fits if its parts over some common denominator are in bound.
use Rattle.std.proofs.Common.{◌≡◌, ℕ, zero, suc, ◌*◌, ◌/◌, ◌<◌, ◌≤◌, ◌^◌, refl, sym, ap, ap₂, subst}
use Rattle.std.proofs.Common.{◌∙◌, arith, FitsSigned, lit≤}
use Rattle.std.proofs.Math.Nat.{le_trans, div-mul_cancel, dvd-mul_right, dvd_trans, mul_comm}
use Rattle.std.proofs.Math.Nat.{mul_assoc, mul-pos, mul-dvd-mul_left, mul-le-mul, mul-le-mul_left}
use Rattle.std.proofs.Math.Nat.{le_of_mul-le-mul_right}
use Rattle.std.proofs.{lemmas.Int.ints, lemmas.Int.unsigned_abs-mul, lemmas.Nat.Gcd.le_of_dvd}
use Rattle.std.specs.Prelude.{ℤ, pos, ◌+ℤ◌, ◌*ℤ◌, unsigned_abs}
use Rattle.std.specs.Int.{◌∣◌, w64, w128, int_wrapping_add}
use Rattle.vipr_spec.specs.Fraction.{ℚ, over, most, ◌+ℚ◌, ◌*ℚ◌, zero_ℚ, IsBounded, SumFits}
use Rattle.vipr_spec.specs.Fraction.{ProductFits}
use Rattle.vipr_spec.specs.{Gcd.gcd, GcdLaws.gcd_is, GcdLaws.gcd-scaled, Lowest.abs_div}
use Rattle.vipr_spec.proofs.Laws.{Is, is_one, is_over, is_zero, over_equal}
use Rattle.vipr_frac.specs.Parts.{FitsSum, left_part, right_part, both_parts, sum_gcd, sum_denom}
use Rattle.vipr_frac.proofs.Sums.{sum-numer, sum-denom, SumFits-parts}
use Rattle.vipr_frac.proofs.{Small.numer_bound, Steps.gcd-some, Steps.gcd-swap, Unreduced.word_abs}
use Rattle.vipr_frac.proofs.{Unreduced.is_product, Views.over-parts, Views.IsReduced-over}

-- the denominator in lowest terms divides each other one
denom_divides : (x : ℚ) (p : ℤ) (n : ℕ) → 0 < n → over p n ≡ x → x.denom ∣ n
denom_divides x p n some e =
    let g = gcd (unsigned_abs p) n in
    let is = gcd_is (unsigned_abs p) n in
    let part : (n / g) ∣ n = subst (λ m. (n / g) ∣ m) (div-mul_cancel g is.1) (dvd-mul_right (n / g) g) in
    subst (λ m. m ∣ n) (sym (over-parts p n some).1 ∙ ap (λ (z : ℚ). z.denom) e) part

-- the least common multiple is the least
least : (b d n : ℕ) → 0 < b → 0 < d → 0 < n → b ∣ n → d ∣ n → b * (d / gcd b d) ≤ n
least b d zero hb hd hn p q = absurd (omega arith)
least b d (suc m) hb hd hn p q =
    let g = gcd b d in
    let some : 0 < g = gcd-some b d g hd refl in
    let left : (b * d) ∣ (b * suc m) = mul-dvd-mul_left d b q in
    let right : (b * d) ∣ (d * suc m) = subst (λ k. k ∣ (d * suc m)) (mul_comm d b) (mul-dvd-mul_left b d p) in
    let both : (b * d) ∣ gcd (b * suc m) (d * suc m) = (gcd_is (b * suc m) (d * suc m)).2 (b * d) left right in
    let bound : b * d ≤ g * suc m = le_of_dvd (mul-pos some hn) (subst (λ k. (b * d) ∣ k) (gcd-scaled b d m) both) in
    let whole : b * (d / g) * g ≡ b * d = mul_assoc b (d / g) g ∙ ap (λ k. b * k) (div-mul_cancel g (gcd_is b d).1) in
    let grown : b * (d / g) * g ≤ suc m * g = rw (whole, mul_comm (suc m) g) bound in
    le_of_mul-le-mul_right grown some

-- a numerator over a divisor of the common denominator is no larger than the one over that
part_small : (m k d n c : ℕ) → 0 < d → d * k ≤ n → m * n ≡ c * d → m * k ≤ c
part_small m k d n c some h e =
    let turned : m * k * d ≡ m * (d * k) = mul_assoc m k d ∙ ap (λ j. m * j) (mul_comm k d) in
    let bound : m * (d * k) ≤ m * n = mul-le-mul_left m h in
    let grown : m * k * d ≤ c * d = rw (turned, ← e) bound in
    le_of_mul-le-mul_right grown some

cross : (x : ℚ) (p : ℤ) (n : ℕ) → Is x p n → unsigned_abs x.numer * n ≡ unsigned_abs p * x.denom
cross x p n h = sym (unsigned_abs-mul x.numer (pos n)) ∙ ap unsigned_abs h.cross ∙ unsigned_abs-mul p (pos x.denom)

module _ (x y : ℚ) (p t : ℤ) (n : ℕ) (some : 0 < n) (x_is : over p n ≡ x) (y_is : over t n ≡ y) where
  first : x.denom * (y.denom / gcd x.denom y.denom) ≤ n
  first = least x.denom y.denom n x.lowest.positive y.lowest.positive some
      (denom_divides x p n some x_is) (denom_divides y t n some y_is)

  second : y.denom * (x.denom / gcd x.denom y.denom) ≤ n
  second = rw (gcd-swap x.denom y.denom)
      (least y.denom x.denom n y.lowest.positive x.lowest.positive some
      (denom_divides y t n some y_is) (denom_divides x p n some x_is))

  left_small : unsigned_abs (left_part x y) ≤ unsigned_abs p
  left_small = rw (unsigned_abs-mul x.numer (pos (y.denom / gcd x.denom y.denom)))
      (part_small _ _ x.denom n _ x.lowest.positive first (cross x p n (subst (λ z. Is z p n) x_is (is_over p n some))))

  right_small : unsigned_abs (right_part x y) ≤ unsigned_abs t
  right_small = rw (unsigned_abs-mul y.numer (pos (x.denom / gcd x.denom y.denom)))
      (part_small _ _ y.denom n _ y.lowest.positive second
      (cross y t n (subst (λ z. Is z t n) y_is (is_over t n some))))

  pub sum_over : over (p +ℤ t) n ≡ x +ℚ y
  sum_over = sym (over_equal p t n some) ∙ ap₂ (λ u v. u +ℚ v) x_is y_is

  taken_out : y.denom / sum_gcd x y * sum_gcd x y ≡ y.denom
  taken_out = div-mul_cancel (sum_gcd x y)
      (dvd_trans (sum_gcd x y) (gcd_is _ (gcd x.denom y.denom)).1 (gcd_is x.denom y.denom).1)

  sum_whole : sum_denom x y * sum_gcd x y ≡ y.denom * (x.denom / gcd x.denom y.denom)
  sum_whole = mul_assoc (x.denom / gcd x.denom y.denom) (y.denom / sum_gcd x y) (sum_gcd x y)
      ∙ ap (λ k. x.denom / gcd x.denom y.denom * k) taken_out ∙ mul_comm _ y.denom

  both_small : unsigned_abs (both_parts x y) ≤ unsigned_abs (p +ℤ t)
  both_small =
      let z = x +ℚ y in
      let h = sum_gcd x y in
      let size : unsigned_abs z.numer * h ≡ unsigned_abs (both_parts x y) =
      ap (λ k. unsigned_abs k * h) (sum-numer x y) ∙ ap (λ k. k * h) (abs_div (both_parts x y) h)
      ∙ div-mul_cancel h (gcd_is (unsigned_abs (both_parts x y)) (gcd x.denom y.denom)).0 in
      let below : z.denom * h ≤ n = rw (sum-denom x y, sum_whole) second in
      rw (← size) (part_small _ h z.denom n _ z.lowest.positive below
      (cross z (p +ℤ t) n (subst (λ w. Is w (p +ℤ t) n) sum_over (is_over (p +ℤ t) n some))))

  denom_small : sum_denom x y ≤ n
  denom_small = grind (arith, second)

  pub fits_over : unsigned_abs p ≤ most → unsigned_abs t ≤ most → unsigned_abs (p +ℤ t) ≤ most → n ≤ most → FitsSum x y
  fits_over a b c d =
      grind (
        arith,
        le_trans left_small a,
        le_trans right_small b,
        le_trans both_small c,
        le_trans denom_small d,
      )

-- ---- a sum that was wrapped on the way, and is a word
pub wrapped_sum : (p t s : ℤ) → unsigned_abs p ≤ most → unsigned_abs t ≤ 2 ^ 126
    → s ≡ int_wrapping_add w128 p t → FitsSigned w64 s → s ≡ p +ℤ t
wrapped_sum p t s a b e word = grind arith

-- ---- a sum over the denominator of both
equal_fits : (x : ℚ) (p t : ℤ) (q : ℕ) → 0 < q → q < 2 ^ 63 → unsigned_abs p ≤ most
    → unsigned_abs t ≤ 2 ^ 126 → FitsSigned w64 (p +ℤ t) → over p q ≡ x → SumFits x (over t q)
equal_fits x p t q some below a b word e =
    let size : unsigned_abs (p +ℤ t) ≤ 2 ^ 63 = word_abs (p +ℤ t) word in
    SumFits-parts x (over t q) (fits_over x (over t q) p t q some e refl a (le_trans b (lit≤ tt))
    (le_trans size (lit≤ tt)) (omega arith))

pub sum_by_equal : (x : ℚ) (p t s : ℤ) (n q : ℕ) → over p n ≡ x → n ≡ q → 0 < q → q < 2 ^ 63
    → unsigned_abs p ≤ most → unsigned_abs t ≤ 2 ^ 126 → s ≡ int_wrapping_add w128 p t
    → FitsSigned w64 s
    → SumFits x (over t q) × (over s q ≡ x +ℚ over t q)
sum_by_equal x p t s n q view same some below a b e word =
    let s_is : s ≡ p +ℤ t = wrapped_sum p t s a b e word in
    let here : over p q ≡ x = ap (over p) (sym same) ∙ view in (
      equal_fits x p t q some below a b (subst (λ z. FitsSigned w64 z) s_is word) here,
      ap (λ z. over z q) s_is ∙ sum_over x (over t q) p t q some here refl,
    )

-- ---- a sum with 0
zero_at : (n : ℕ) → 0 < n → over (pos 0) n ≡ zero_ℚ
zero_at n some = is_one _ _ _ _ (is_over (pos 0) n some) (is_zero n some)

pub sum_from_zero : (x : ℚ) (p t : ℤ) (n q : ℕ) → over p n ≡ x → 0 < n → p ≡ pos 0 → 0 < q
    → q < 2 ^ 63 → unsigned_abs t ≤ 2 ^ 126 → FitsSigned w64 t
    → SumFits x (over t q) × (over t q ≡ x +ℚ over t q)
sum_from_zero x p t n q view n_some p_is some below b word =
    let here : over (pos 0) q ≡ x = zero_at q some ∙ sym (zero_at n n_some) ∙ ap (λ z. over z n) (sym p_is) ∙ view in
    let t_is : t ≡ pos 0 +ℤ t = omega (arith, ints) in (
      equal_fits x (pos 0) t q some below (lit≤ tt) b (subst (λ z. FitsSigned w64 z) t_is word) here,
      ap (λ z. over z q) t_is ∙ sum_over x (over t q) (pos 0) t q some here refl,
    )

-- ---- a product of short fractions, whose parts needn't be in lowest terms
pub record IsShortProduct (x y : ℚ) (n : ℤ) (d : ℕ) : Type 0 where
  pub product : over n d ≡ x *ℚ y
  pub fits : ProductFits x y
  pub numer : unsigned_abs n ≤ 2 ^ 126
  pub some : 0 < d
  pub denom : d < 2 ^ 63

pub short_product : (x y : ℚ) (p r n : ℤ) (q s d : ℕ) → p ≡ x.numer → q ≡ x.denom → r ≡ y.numer
    → s ≡ y.denom
    → FitsSigned w64 p → FitsSigned w64 r → q < 2 ^ 31 → s < 2 ^ 31 → n ≡ p *ℤ r → d ≡ q * s
    → IsShortProduct x y n d
short_product x y p r n q s d p_is q_is r_is s_is p_word r_word q_short s_short n_is d_is =
    let product : over n d ≡ x *ℚ y = is_product x y n d (n_is ∙ ap₂ (λ a b. a *ℤ b) p_is r_is)
    (d_is ∙ ap₂ (λ a b. a * b) q_is s_is) in
    let numer : unsigned_abs n ≤ 2 ^ 126 =
    rw (n_is, unsigned_abs-mul p r) (numer_bound _ _ (word_abs p p_word) (word_abs r r_word)) in
    let q_most : q ≤ 2 ^ 31 = omega arith in
    let s_most : s ≤ 2 ^ 31 = omega arith in
    let bound : d ≤ 2 ^ 31 * 2 ^ 31 = rw d_is (mul-le-mul q_most s_most) in
    let denom : d < 2 ^ 63 = omega arith in
    let some : 0 < d = rw (d_is, q_is, s_is) (mul-pos x.lowest.positive y.lowest.positive) in
    let h = IsReduced-over n d some (le_trans numer (lit≤ tt)) (omega arith) in
    record {
      product = product;
      fits = subst IsBounded product (h.numer_bounded, h.denom_bounded);
      numer = numer;
      some = some;
      denom = denom;
    }
