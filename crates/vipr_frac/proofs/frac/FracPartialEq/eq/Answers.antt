use Rattle.std.proofs.{Common.sym, Common.ap, Common.◌∙◌, lemmas.Bool.true≢false}
use Rattle.std.specs.Cmp.{both_ways}
use Rattle.vipr_spec.specs.Fraction.{ℚ, same_parts}
use Rattle.vipr_spec.proofs.Laws.{eq_is}
use Rattle.vipr_frac.proofs.Views.{facts, Facts}
use Rattle.vipr_frac.proofs.frac.FracPartialEq.eq.Goals as goal

pub returns-then-same-clause-same : goal.returns-then-same-clause-same
returns-then-same-clause-same c =
    let a : Facts c.args.self.now c.self.inside.p c.self.inside.q = facts _ _ _ c.self.view_is c.self.invariant in
    let b : Facts c.args.other.now c.other.inside.p c.other.inside.q =
    facts _ _ _ c.other.view_is c.other.invariant in (
      λ e. same_parts c.args.self.now c.args.other.now
          (sym a.numer ∙ c.same.ensures.0 c.if-same.true ∙ b.numer)
          (sym a.denom ∙ c.same-then-same.ensures.0 e ∙ b.denom),
      λ e. c.same-then-same.ensures.1 (a.denom ∙ ap (λ (x : ℚ). x.denom) e ∙ sym b.denom),
    )

pub returns-else-same-clause-same : goal.returns-else-same-clause-same
returns-else-same-clause-same c =
    let a : Facts c.args.self.now c.self.inside.p c.self.inside.q = facts _ _ _ c.self.view_is c.self.invariant in
    let b : Facts c.args.other.now c.other.inside.p c.other.inside.q =
    facts _ _ _ c.other.view_is c.other.invariant in (
      λ e. absurd (true≢false (sym e ∙ c.if-same.false)),
      λ e. c.same.ensures.1 (a.numer ∙ ap (λ (x : ℚ). x.numer) e ∙ sym b.numer),
    )

pub returns-then-same-clause-tested : goal.returns-then-same-clause-tested
returns-then-same-clause-tested c =
    let same = returns-then-same-clause-same c in
    let is = eq_is c.args.self.now c.args.other.now in
    both_ways _ _ (λ e. is.1 (same.0 e)) (λ e. same.1 (is.0 e))

pub returns-else-same-clause-tested : goal.returns-else-same-clause-tested
returns-else-same-clause-tested c =
    let same = returns-else-same-clause-same c in
    let is = eq_is c.args.self.now c.args.other.now in
    both_ways _ _ (λ e. is.1 (same.0 e)) (λ e. same.1 (is.0 e))
