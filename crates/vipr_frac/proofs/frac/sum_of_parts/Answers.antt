use Rattle.std.proofs.Common.{◌≡◌, ◌/◌, ◌∙◌, subst, refl, to_z, of_z, ℕ, ℤ, ◌≤◌, pos}
use Rattle.std.specs.{Int.w128, Prelude.◌+ℤ◌, Prelude.◌*ℤ◌, Prelude.unsigned_abs}
use Rattle.vipr_spec.specs.{Fraction.ℚ, Fraction.most, Gcd.gcd}
use Rattle.vipr_frac.specs.Parts.{left_part, right_part, both_parts}
use Rattle.vipr_frac.proofs.{Steps.gcd-some, Views.as-is, Views.facts_of, Views.Facts}
use Rattle.vipr_frac.proofs.frac.sum_of_parts.Goals as goal

pub quotient-requires : goal.quotient-requires
quotient-requires c = gcd-some c.args.a.denom _ _ c.args.b.lowest.positive c.requires

pub quotient-requires-2 : goal.quotient-requires-2
quotient-requires-2 c = gcd-some c.args.a.denom _ _ c.args.b.lowest.positive c.requires

-- the parts as they are computed
left_is : (x y : ℚ) (p : ℤ) (g r s : ℕ) → to_z w128 (of_z w128 p) ≡ x.numer → s ≡ y.denom
    → g ≡ gcd x.denom y.denom → r ≡ s / g → to_z w128 (of_z w128 p) *ℤ pos r ≡ left_part x y
left_is x y p g r s e f h k = rw (e, k, f, h)

right_is : (x y : ℚ) (p : ℤ) (g r s : ℕ) → to_z w128 (of_z w128 p) ≡ y.numer → s ≡ x.denom
    → g ≡ gcd x.denom y.denom → r ≡ s / g → to_z w128 (of_z w128 p) *ℤ pos r ≡ right_part x y
right_is x y p g r s e f h k = rw (e, k, f, h)

pub returns : goal.returns
returns c =
    let a : Facts c.args.a c.parts-p.result.0 c.parts-p.result.1 =
    facts_of _ _ _ c.parts-p.ensures.numer c.parts-p.ensures.denom c.parts-p.ensures.reduced in
    let b : Facts c.args.b c.parts-r.result.0 c.parts-r.result.1 =
    facts_of _ _ _ c.parts-r.ensures.numer c.parts-r.ensures.denom c.parts-r.ensures.reduced in
    let left = left_is c.args.a c.args.b c.parts-p.result.0 c.args.g c.quotient.result
    c.parts-r.result.1 a.back b.denom c.requires c.quotient.ensures in
    let right = right_is c.args.a c.args.b c.parts-r.result.0 c.args.g c.quotient-2.result
    c.parts-p.result.1 b.back a.denom c.requires c.quotient-2.ensures in
    let left_value : c.in_ok-left.left ≡ left_part c.args.a c.args.b = c.in_ok-left.ensures.value ∙ left in
    let right_value : c.in_ok-right.right ≡ right_part c.args.a c.args.b = c.in_ok-right.ensures.value ∙ right in
    let left_small : unsigned_abs (left_part c.args.a c.args.b) ≤ most =
    subst (λ z. unsigned_abs z ≤ most) left (c.in_ok-left.ensures.fits.0 refl) in
    let right_small : unsigned_abs (right_part c.args.a c.args.b) ≤ most =
    subst (λ z. unsigned_abs z ≤ most) right (c.in_ok-right.ensures.fits.0 refl) in
    let both : to_z w128 (of_z w128 c.in_ok-left.left) +ℤ to_z w128
    (of_z w128 c.in_ok-right.right) ≡ both_parts c.args.a c.args.b =
    rw (left_value, right_value, as-is _ left_small, as-is _ right_small) in
    record {
      fits = (
        λ ok. record { left = left_small; right = right_small; both = rw (← both) (c.bounded_sum.ensures.fits.0 ok) },
        λ f. c.bounded_sum.ensures.fits.1 (rw both f.both),
      );
      value = rw (← both) c.bounded_sum.ensures.value;
    }
