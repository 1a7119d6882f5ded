use Rattle.std.proofs.Common.{refl, rules}
use Rattle.vipr_check.proofs.CauseLemmas.{refused_on, kept_on}
use Rattle.vipr_check.proofs.progress.Progress.take_from.Goals as goal

pub returns-in_err-assumptions-clause-tried : goal.returns-in_err-assumptions-clause-tried
returns-in_err-assumptions-clause-tried g c = record {
  next = λ s has.
      refused_on _ _ _ c.args.step.now _ s c.self.view_is c.as_ref.ensures.value
      c.in_err-assumptions.ensures.applies has _ c.from_residual.result
      c.in_err-assumptions.field-0.0 c.from_residual.ensures.1 refl;
  ok = search rules;
  peak = search rules;
  err = search rules;
}

pub returns-clause-tried : goal.returns-clause-tried
returns-clause-tried g c = record {
  next = λ s has.
      kept_on _ _ _ c.args.step.now _ s c.self.view_is c.as_ref.ensures.value
      c.in_ok-assumptions.ensures.applies has _ _ c.keep.result _ refl
      (rw c.take_entry.ensures.kept at c.keep.ensures.next) c.keep.ensures.err;
  ok = search rules;
  peak = search rules;
  err = search rules;
}
