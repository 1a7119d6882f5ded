use Rattle.std.proofs.Common.{◌∙◌, ap, length}
use Rattle.vipr_linear.specs.Accumulator.{Accumulator}
use Rattle.vipr_linear.proofs.Points.{laid_out}
use Rattle.vipr_linear.proofs.combination.Combination.lay_out.Goals as goal

pub returns : goal.returns
returns c =
    let start = ap (λ (a : Accumulator). a.sums) c.self.view_is ∙ ap (λ (a : Accumulator). a.sums) c.clear.ensures in
    laid_out (length c.args.self.now.sums) c.args.solution.now.0 c.entries.result.now _
    c.set.new.self c.entries.ensures.list c.entries.ensures.rising start c.set.ensures
