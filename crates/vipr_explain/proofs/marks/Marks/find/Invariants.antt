use Rattle.std.proofs.Common.{length}
use Rattle.vipr_explain.proofs.marks.Marks.find.Given as goal

abbrev pub decreases-loop-words : goal.decreases-loop-words
decreases-loop-words l = length l.words.rest.now
