use Rattle.std.proofs.Common.{◌≡◌, ◌*◌, pos, ◌∙◌, refl, to_z, of_z}
use Rattle.std.proofs.{lemmas.Bool.false≢true, lemmas.Int.to_z-of_z}
use Rattle.std.specs.{Int.w128, Prelude.int_div}
use Rattle.vipr_spec.specs.Gcd.{gcd}
use Rattle.vipr_frac.specs.Parts.{both_parts, sum_gcd, sum_denom, FitsParts, FitsSum}
use Rattle.vipr_frac.proofs.Sums.{sum-is, IsReduced-sum}
use Rattle.vipr_frac.proofs.Views.{as-is, facts_of, Facts, refused}
use Rattle.vipr_frac.proofs.frac.sum_by_parts.Goals as goal
use Rattle.vipr_frac.proofs.frac.sum_by_parts.Goals.{After-quotient-2, After-divided}

module _ (c : After-quotient-2) where
  a : Facts c.args.a c.parts-q.result.0 c.parts-q.result.1
  a = facts_of _ _ _ c.parts-q.ensures.numer c.parts-q.ensures.denom c.parts-q.ensures.reduced

  b : Facts c.args.b c.parts-s.result.0 c.parts-s.result.1
  b = facts_of _ _ _ c.parts-s.ensures.numer c.parts-s.ensures.denom c.parts-s.ensures.reduced

  parts : FitsParts c.args.a c.args.b
  parts = c.in_ok-both.ensures.fits.0 refl

  g_is : c.gcd_of-g.result ≡ gcd c.args.a.denom c.args.b.denom
  g_is = c.gcd_of-g.ensures.value ∙ rw (a.denom, b.denom)

  both_is : to_z w128 (of_z w128 c.in_ok-both.both) ≡ both_parts c.args.a c.args.b
  both_is = rw c.in_ok-both.ensures.value (as-is _ parts.both)

  h_is : c.gcd_of-h.result ≡ sum_gcd c.args.a c.args.b
  h_is = c.gcd_of-h.ensures.value ∙ rw (c.unsigned_abs.ensures.value, both_is, g_is)

  q_value : c.quotient.result * c.quotient-2.result ≡ sum_denom c.args.a c.args.b
  q_value = rw (c.quotient.ensures, c.quotient-2.ensures, a.denom, b.denom, g_is, h_is)

module _ (c : After-divided) where
  abbrev d : After-quotient-2
  d = (goal.at.of_parts-requires c).After-quotient-2

  q_is : c.in_ok-below.below ≡ sum_denom c.args.a c.args.b
  q_is = c.in_ok-below.ensures.value ∙ q_value d

  p_is : to_z w128 (of_z w128 c.divided.result) ≡ int_div (both_parts c.args.a c.args.b)
      (pos (sum_gcd c.args.a c.args.b))
  p_is =
      to_z-of_z w128 c.divided.result (record { sfits = c.divided.type_inv }) ∙ c.divided.ensures
      ∙ rw (both_is d, h_is d)

  fits : FitsSum c.args.a c.args.b
  fits =
      let parts = parts d in
      record {
        left = parts.left;
        right = parts.right;
        both = parts.both;
        below = rw (q_value d) at (c.in_ok-below.ensures.fits.0 refl);
      }

pub of_parts-requires : goal.of_parts-requires
of_parts-requires c = rw (p_is c, q_is c) (IsReduced-sum c.args.a c.args.b (fits c))

pub returns-clause-fits : goal.returns-clause-fits
returns-clause-fits c = let d = (goal.at.returns-clause-fits c).After-divided in (λ _. fits d, λ _. refl)

pub returns-clause-value : goal.returns-clause-value
returns-clause-value c =
    let d = (goal.at.returns-clause-value c).After-divided in
    c.of_parts.ensures ∙ rw (p_is d, q_is d, sum-is c.args.a c.args.b)

pub returns-in_err-below-clause-fits : goal.returns-in_err-below-clause-fits
returns-in_err-below-clause-fits c =
    let d = (goal.at.returns-in_err-below-clause-fits c).After-quotient-2 in (
      λ ok. refused _ c.from_residual-in_err-below.ensures.0 ok,
      λ f. absurd (false≢true (c.in_err-below.ensures.fits.1 (rw (q_value d) f.below))),
    )
