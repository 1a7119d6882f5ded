use Rattle.std.proofs.{Common.ℕ, Common.rules, lemmas.Fn.filter_same, lemmas.Fn.All-from_retain}
use Rattle.vipr_spec.specs.{Fraction.ℚ, Fraction.IsBounded, Reading.is_nonzero}
use Rattle.vipr_linear.proofs.row.drop_zeros.Goals as goal

pub returns-clause-kept : goal.returns-clause-kept
returns-clause-kept c = filter_same _ is_nonzero _ (λ x r f' k. search rules) _ _ c.retain.ensures.filtered

pub returns-clause-bounded : goal.returns-clause-bounded
returns-clause-bounded c = All-from_retain _ (λ (p : ℕ × ℚ). IsBounded p.1) _
    (λ x r f' k. search rules) _ _ c.retain.ensures.filtered
