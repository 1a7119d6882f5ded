use Rattle.vipr_spec.proofs.TokenSplit.{split_is, split_one}
use Rattle.vipr_spec.proofs.texts.tokens_are_one.Goals as goal

pub returns-clause-split : goal.returns-clause-split
returns-clause-split c = split_is

pub returns-clause-one : goal.returns-clause-one
returns-clause-one c = split_one
