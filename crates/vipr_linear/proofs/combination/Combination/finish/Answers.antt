use Rattle.std.proofs.Common.{◌∙◌, ap, sym, subst, get_or}
use Rattle.vipr_spec.specs.{Constraint.at, Constraint.HasNoZeros, Fraction.zero_ℚ}
use Rattle.vipr_linear.specs.Accumulator.{Accumulator}
use Rattle.vipr_linear.proofs.Rows.{no_zeros}
use Rattle.vipr_linear.proofs.combination.Combination.finish.Goals as goal

pub returns-clause-sum : goal.returns-clause-sum
returns-clause-sum c = record {
  row_is = λ j. ap (λ m. at m j) c.from_rising.ensures ∙ c.in-Ok.ensures.sums j
      ∙ ap (λ (a : Accumulator). get_or a.sums j zero_ℚ) c.self.view_is;
  no_zeros = subst HasNoZeros (sym c.from_rising.ensures) (no_zeros _ c.in-Ok.ensures.entries.rising);
  sense_is = ap (λ (a : Accumulator). a.sense) c.self.view_is;
  bound_is = c.value.ensures ∙ ap (λ (a : Accumulator). a.bound) c.self.view_is;
}
