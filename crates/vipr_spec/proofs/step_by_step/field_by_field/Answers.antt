use Rattle.vipr_spec.proofs.Prefix.{constraints_listed, reasons_listed, lasts_listed}
use Rattle.vipr_spec.proofs.step_by_step.field_by_field.Goals as goal

pub returns : goal.returns
returns c = record { stated = constraints_listed; reason = reasons_listed; last = lasts_listed }
