use Rattle.vipr_spec.proofs.Checked.{checked_verified, checked_unproved}
use Rattle.vipr_spec.proofs.checking.answered.Goals as goal

pub returns : goal.returns
returns c = record { verified = checked_verified; unproved = checked_unproved }
