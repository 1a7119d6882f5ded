use Rattle.vipr_spec.specs.Certificate.{variables}
use Rattle.vipr_explain.specs.Replays.{IsReplayOf}
use Rattle.vipr_explain.proofs.near.NearSearch.up_to.Given as goal

abbrev pub invariant-loop-passed : goal.invariant-loop-passed
invariant-loop-passed l = IsReplayOf (variables l.problem) l.found.replay
