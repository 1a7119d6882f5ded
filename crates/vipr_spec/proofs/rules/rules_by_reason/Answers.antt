use Rattle.vipr_spec.proofs.ByReason.{good_assumed, good_summed, good_rounded, good_branched}
use Rattle.vipr_spec.proofs.ByReason.{good_cut_off}
use Rattle.vipr_spec.proofs.rules.rules_by_reason.Goals as goal

pub returns : goal.returns
returns c = assumption (good_assumed, good_summed, good_rounded, good_branched, good_cut_off)
