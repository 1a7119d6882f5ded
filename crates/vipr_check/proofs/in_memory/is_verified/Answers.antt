use Rattle.vipr_spec.proofs.Laws.{holds_of_any}
use Rattle.vipr_check.proofs.InMemory.{if_yes}
use Rattle.vipr_check.proofs.in_memory.is_verified.Goals as goal

pub returns-clause-states : goal.returns-clause-states
returns-clause-states c =
    if_yes c.args.text.now c.is_proof.result _ c.proofs_mean.ensures
    (λ means. (means.0, means.1, means.2)) c.is_proof.ensures.proof

pub returns-clause-holds : goal.returns-clause-holds
returns-clause-holds c =
    if_yes c.args.text.now c.is_proof.result _ c.proofs_mean.ensures
    (holds_of_any c.args.text.now) c.is_proof.ensures.proof
