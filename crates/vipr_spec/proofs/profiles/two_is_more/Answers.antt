use Rattle.vipr_spec.proofs.ProfileTwo.{bound_one, bound_two, split_one, split_two}
use Rattle.vipr_spec.proofs.profiles.two_is_more.Goals as goal

pub returns : goal.returns
returns c = record { rounds = (bound_two, bound_one); splits = (split_two, split_one) }
