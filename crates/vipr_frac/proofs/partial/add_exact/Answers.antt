use Rattle.std.proofs.Common.{rules, ◌≡◌, refl, ap, ◌∙◌}
use Rattle.std.proofs.lemmas.Bool.{false≢true}
use Rattle.vipr_spec.specs.Fraction.{over}
use Rattle.vipr_frac.proofs.{Views.as-is, Views.refused, partial.add_exact.Goals.After-exact_sum}
use Rattle.vipr_frac.proofs.partial.add_exact.Goals as goal

left_is : (c : After-exact_sum) → c.of_parts.result ≡ over c.args.p c.args.q
left_is c = c.of_parts.ensures ∙ ap (λ z. over z c.args.q) (as-is c.args.p c.requires.left.numer_bounded)

right_is : (c : After-exact_sum) → c.of_parts-2.result ≡ over c.args.r c.args.s
right_is c = c.of_parts-2.ensures ∙ ap (λ z. over z c.args.s) (as-is c.args.r c.requires.right.numer_bounded)

pub returns-in_err-exact : goal.returns-in_err-exact
returns-in_err-exact c =
    let k = (goal.at.returns-in_err-exact c).After-exact_sum in
    let fits = rw (left_is k, right_is k, c.value.ensures) at c.in_err-exact.ensures.fits in
    record {
      fits = (λ ok. refused _ c.from_residual.ensures.0 ok, λ h. absurd (false≢true (fits.1 h)));
      sum = search rules;
      kept = search rules;
    }

pub returns : goal.returns
returns c =
    let k = (goal.at.returns c).After-exact_sum in
    let fits = rw (left_is k, right_is k, c.value.ensures) at c.in_ok-exact.ensures.fits in
    record {
      fits = (λ _. fits.0 refl, λ _. refl);
      sum = search rules;
      kept = search rules;
    }
