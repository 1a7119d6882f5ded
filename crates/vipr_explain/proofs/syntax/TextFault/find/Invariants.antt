use Rattle.std.proofs.Common.{length}
use Rattle.vipr_explain.proofs.syntax.TextFault.find.Given as goal

abbrev pub decreases-loop-found : goal.decreases-loop-found
decreases-loop-found l = length l.words.rest.now
