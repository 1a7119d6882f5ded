use Rattle.std.proofs.Common.{◌≡◌, ◌*◌, pos, ◌∙◌, to_z, of_z}
use Rattle.std.specs.{Int.w128, Prelude.int_div}
use Rattle.std.proofs.lemmas.Int.{to_z-of_z}
use Rattle.vipr_spec.specs.Gcd.{gcd}
use Rattle.vipr_frac.specs.Parts.{both_parts, sum_gcd, sum_denom}
use Rattle.vipr_frac.proofs.Small.{left_fits, right_fits, both_fits, both_back, small_sum_fits}
use Rattle.vipr_frac.proofs.frac.small_sum.Goals.{After-quotient-4}
use Rattle.vipr_frac.proofs.{Sums.sum-is, Sums.IsReduced-sum, Views.facts_of, Views.Facts}
use Rattle.vipr_frac.proofs.frac.small_sum.Goals as goal

pub overflow_mul-left : goal.overflow_mul-left
overflow_mul-left c =
    let a : Facts c.args.a c.parts-p.result.0 c.parts-p.result.1 =
    facts_of _ _ _ c.parts-p.ensures.numer c.parts-p.ensures.denom c.parts-p.ensures.reduced in
    let b : Facts c.args.b c.parts-r.result.0 c.parts-r.result.1 =
    facts_of _ _ _ c.parts-r.ensures.numer c.parts-r.ensures.denom c.parts-r.ensures.reduced in
    left_fits c.args.a c.args.b c.requires.left c.requires.right c.parts-p.result.0
    c.parts-r.result.0 c.parts-p.result.1 c.parts-r.result.1 c.gcd_of-g.result a.back b.back
    a.denom b.denom c.gcd_of-g.ensures.value c.quotient.result c.quotient.ensures

pub overflow_mul-right : goal.overflow_mul-right
overflow_mul-right c =
    let a : Facts c.args.a c.parts-p.result.0 c.parts-p.result.1 =
    facts_of _ _ _ c.parts-p.ensures.numer c.parts-p.ensures.denom c.parts-p.ensures.reduced in
    let b : Facts c.args.b c.parts-r.result.0 c.parts-r.result.1 =
    facts_of _ _ _ c.parts-r.ensures.numer c.parts-r.ensures.denom c.parts-r.ensures.reduced in
    right_fits c.args.a c.args.b c.requires.left c.requires.right c.parts-p.result.0
    c.parts-r.result.0 c.parts-p.result.1 c.parts-r.result.1 c.gcd_of-g.result a.back b.back
    a.denom b.denom c.gcd_of-g.ensures.value c.quotient.result c.quotient.ensures
    c.quotient-2.result c.quotient-2.ensures

pub overflow_add-both : goal.overflow_add-both
overflow_add-both c =
    let a : Facts c.args.a c.parts-p.result.0 c.parts-p.result.1 =
    facts_of _ _ _ c.parts-p.ensures.numer c.parts-p.ensures.denom c.parts-p.ensures.reduced in
    let b : Facts c.args.b c.parts-r.result.0 c.parts-r.result.1 =
    facts_of _ _ _ c.parts-r.ensures.numer c.parts-r.ensures.denom c.parts-r.ensures.reduced in
    both_fits c.args.a c.args.b c.requires.left c.requires.right c.parts-p.result.0
    c.parts-r.result.0 c.parts-p.result.1 c.parts-r.result.1 c.gcd_of-g.result a.back b.back
    a.denom b.denom c.gcd_of-g.ensures.value c.quotient.result c.quotient.ensures
    c.quotient-2.result c.quotient-2.ensures

module _ (c : After-quotient-4) where
  a : Facts c.args.a c.parts-p.result.0 c.parts-p.result.1
  a = facts_of _ _ _ c.parts-p.ensures.numer c.parts-p.ensures.denom c.parts-p.ensures.reduced

  b : Facts c.args.b c.parts-r.result.0 c.parts-r.result.1
  b = facts_of _ _ _ c.parts-r.ensures.numer c.parts-r.ensures.denom c.parts-r.ensures.reduced

  gcd_is : c.gcd_of-g.result ≡ gcd c.args.a.denom c.args.b.denom
  gcd_is = c.gcd_of-g.ensures.value ∙ rw (a.denom, b.denom)

  h_is : c.gcd_of-h.result ≡ sum_gcd c.args.a c.args.b
  h_is =
      let both = both_back c.args.a c.args.b c.requires.left c.requires.right c.parts-p.result.0
      c.parts-r.result.0 c.parts-p.result.1 c.parts-r.result.1 c.gcd_of-g.result a.back b.back
      a.denom b.denom c.gcd_of-g.ensures.value c.quotient.result c.quotient.ensures
      c.quotient-2.result c.quotient-2.ensures in
      c.gcd_of-h.ensures.value ∙ rw (c.unsigned_abs.ensures.value, both, gcd_is)

  p_is : to_z w128 (of_z w128 c.divided.result) ≡ int_div (both_parts c.args.a c.args.b)
      (pos (sum_gcd c.args.a c.args.b))
  p_is =
      let both = both_back c.args.a c.args.b c.requires.left c.requires.right c.parts-p.result.0
      c.parts-r.result.0 c.parts-p.result.1 c.parts-r.result.1 c.gcd_of-g.result a.back b.back
      a.denom b.denom c.gcd_of-g.ensures.value c.quotient.result c.quotient.ensures
      c.quotient-2.result c.quotient-2.ensures in
      to_z-of_z w128 c.divided.result (record { sfits = c.divided.type_inv }) ∙ c.divided.ensures ∙ rw (both, h_is)

  q_is : c.quotient-3.result * c.quotient-4.result ≡ sum_denom c.args.a c.args.b
  q_is = rw (c.quotient-3.ensures, c.quotient-4.ensures, a.denom, b.denom, gcd_is, h_is)

pub of_parts-requires : goal.of_parts-requires
of_parts-requires c =
    let k = (goal.at.of_parts-requires c).After-quotient-4 in
    rw (p_is k, q_is k)
    (IsReduced-sum c.args.a c.args.b
    (small_sum_fits c.args.a c.args.b c.requires.left c.requires.right))

pub returns-clause-fits : goal.returns-clause-fits
returns-clause-fits c = small_sum_fits c.args.a c.args.b c.requires.left c.requires.right

pub returns-clause-value : goal.returns-clause-value
returns-clause-value c =
    let k = (goal.at.returns-clause-value c).After-quotient-4 in
    c.of_parts.ensures ∙ rw (p_is k, q_is k, sum-is c.args.a c.args.b)
