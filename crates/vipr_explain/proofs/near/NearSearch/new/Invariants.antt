use Rattle.vipr_spec.specs.Certificate.{variables}
use Rattle.vipr_explain.specs.Replays.{IsReplayOf}
use Rattle.vipr_explain.proofs.near.NearSearch.new.Given as goal

abbrev pub invariant-loop-index : goal.invariant-loop-index
invariant-loop-index l = IsReplayOf (variables l.problem) l.search.replay
