use Rattle.std.proofs.Common.{refl}
use Rattle.vipr_spec.specs.{is_kept}
use Rattle.vipr_spec.proofs.Marked.{kept_given}
use Rattle.vipr_spec.proofs.Places.{kept_values, constraint_new, reason_new}
use Rattle.vipr_spec.proofs.renumbering.names_and_constraints.Goals as goal

pub returns : goal.returns
returns c = record {
  names = λ c g. kept_values c (is_kept c g) (kept_given c g) (λ d. d.name) (λ d. d.name) (λ d l. refl) (λ d. refl);
  stated = λ c g. kept_values c (is_kept c g) (kept_given c g) (λ d. d.stated) (λ d. d.stated)
      (λ d l. refl) (λ d. refl);
  constraint = λ c g i k. constraint_new c (is_kept c g) (kept_given c g) i k;
  reason = λ c g i k. reason_new c (is_kept c g) (kept_given c g) i k;
}
