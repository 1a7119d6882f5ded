use Rattle.std.proofs.Common.{◌∙◌, ap, refl, sym}
use Rattle.std.specs.Str.{bytes_eq}
use Rattle.vipr_spec.specs.Tokens.{is_white}
use Rattle.vipr_read.proofs.RuleWords.{run_of_three}
use Rattle.vipr_read.proofs.kinds.rule_named.Goals as goal

pub returns-then-eq-clause-solid : goal.returns-then-eq-clause-solid
unfolding is_white
returns-then-eq-clause-solid c = run_of_three c.args.word.now 108 105 110
    (ap (bytes_eq c.args.word.now) (sym c.as_slice.ensures) ∙ sym c.eq.ensures ∙ c.if-eq.true) refl
    refl refl

pub returns-then-eq-2-clause-solid : goal.returns-then-eq-2-clause-solid
unfolding is_white
returns-then-eq-2-clause-solid c = run_of_three c.args.word.now 114 110 100
    (ap (bytes_eq c.args.word.now) (sym c.as_slice-else-eq.ensures) ∙ sym c.eq-else-eq.ensures
    ∙ c.if-eq-2.true) refl refl refl

pub returns-then-eq-3-clause-solid : goal.returns-then-eq-3-clause-solid
unfolding is_white
returns-then-eq-3-clause-solid c = run_of_three c.args.word.now 117 110 115
    (ap (bytes_eq c.args.word.now) (sym c.as_slice-else-eq-2.ensures) ∙ sym c.eq-else-eq-2.ensures
    ∙ c.if-eq-3.true) refl refl refl

pub returns-then-eq-4-clause-solid : goal.returns-then-eq-4-clause-solid
unfolding is_white
returns-then-eq-4-clause-solid c = run_of_three c.args.word.now 97 115 109
    (ap (bytes_eq c.args.word.now) (sym c.as_slice-else-eq-3.ensures) ∙ sym c.eq-else-eq-3.ensures
    ∙ c.if-eq-4.true) refl refl refl

pub returns-then-eq-5-clause-solid : goal.returns-then-eq-5-clause-solid
unfolding is_white
returns-then-eq-5-clause-solid c = run_of_three c.args.word.now 115 111 108
    (ap (bytes_eq c.args.word.now) (sym c.as_slice-else-eq-4.ensures) ∙ sym c.eq-else-eq-4.ensures
    ∙ c.if-eq-5.true) refl refl refl
