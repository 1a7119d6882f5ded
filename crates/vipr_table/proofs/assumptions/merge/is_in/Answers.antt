use Rattle.std.proofs.Common.{◌∙◌}
use Rattle.std.specs.FinSet.{contains-from_list_nat}
use Rattle.vipr_table.proofs.SetLemmas.{found}
use Rattle.vipr_table.proofs.assumptions.merge.is_in.Goals as goal

pub returns-then-is_within : goal.returns-then-is_within
returns-then-is_within c = c.is_ok.ensures.value
    ∙ found c.args.xs.now c.args.index _ c.requires c.binary_search.ensures.position
    ∙ contains-from_list_nat c.args.xs.now c.args.index
