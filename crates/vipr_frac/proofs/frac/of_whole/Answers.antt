use Rattle.std.proofs.Common.{ap, ◌∙◌}
use Rattle.vipr_spec.specs.Fraction.{over}
use Rattle.vipr_frac.proofs.Views.{as-is, IsReduced-whole}
use Rattle.vipr_frac.proofs.frac.of_whole.Goals as goal

pub of_parts-requires : goal.of_parts-requires
of_parts-requires c = rw (as-is c.args.p c.requires) (IsReduced-whole c.args.p c.requires)

pub returns : goal.returns
returns c = c.of_parts.ensures ∙ ap (λ z. over z 1) (as-is c.args.p c.requires)
