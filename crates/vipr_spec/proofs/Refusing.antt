-- A reference that comes too late, and a sum that is too large
use Rattle.std.proofs.Common.{◌^◌, ◌-◌, [], pos, IsTrue, refl, lit<, lit≤, arith}
use Rattle.std.proofs.lemmas.List.Elements.{All-head}
use Rattle.vipr_spec.specs.{gcd, ℚ, over, whole, ◌*ℚ◌, IsBounded, ProductFits, Profile, is_live}
use Rattle.vipr_spec.specs.{IsProof, Examples.dropped_example, Examples.too_large}
use Rattle.vipr_spec.proofs.Fractions.{one_not_zero}

pub not_live : (P : Profile) → ¬ IsProof P dropped_example
not_live P p = late ((p.steps 3 _ refl).references 2 (whole (pos 1), (0, lit< tt, refl), one_not_zero))
  where
    late : IsTrue (is_live dropped_example 3 2) → ⊥
    late e = cc

product : ¬ ProductFits (whole (pos 2)) (whole (pos (2 ^ 126)))
unfolding over gcd ◌*ℚ◌
product h = omega arith

pub not_bounded : (P : Profile) → ¬ IsProof P too_large
not_bounded P p =
    product (All-head (λ (t : ℚ × ℚ). ProductFits t.0 t.1) (whole (pos 2), whole (pos (2 ^ 126))) []
    (p.steps 1 _ refl).fits.1.0)

pub largest : IsBounded (whole (pos (2 ^ 127 - 1)))
unfolding over gcd
largest = (lit≤ tt, lit≤ tt)
