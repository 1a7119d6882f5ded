use Rattle.std.proofs.Common.{arith, sym, subst, ◌∙◌, get_or}
use Rattle.std.proofs.lemmas.List.{get_or_default}
use Rattle.vipr_spec.specs.{Constraint.Compares, Fraction.zero_ℚ}
use Rattle.vipr_rules.specs.Columns.{nth, given_of}
use Rattle.vipr_rules.proofs.columns.all_true.Goals as goal

pub returns : goal.returns
returns c = λ _ i some.
    let at = c.touched-index-items.ensures.nonzero i some in
    let place = sym (get_or_default c.touched-index-items.result.now at.0 0 i at.1) in
    subst (λ k. Compares (nth (given_of c.args.cons.now) k).sense (get_or c.args.sums.now k zero_ℚ)
    (nth (given_of c.args.cons.now) k).bound) (sym place ∙ at.2)
    (c.loop-index.invariant at.0 (let l = at.1 in let past = c.loop-index-test.false in omega (arith, l, past)))
