use Rattle.vipr_table.proofs.BitsLemmas.{first_least}
use Rattle.vipr_table.proofs.assumptions.page.first_word_of.Goals as goal

pub returns-clause-least : goal.returns-clause-least
returns-clause-least c = first_least c.args.items.now c.requires
