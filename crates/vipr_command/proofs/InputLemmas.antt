-- What is so of a source, whether its bytes are known or not
use Rattle.std.proofs.Common.{Option, Some, None}
use Rattle.vipr_spec.specs.Input.{Input}
use Rattle.vipr_read.proofs.Laws.{known_by as if_known}
use Rattle.vipr_command.specs.Known.{KnownInput, OfInput, known_by, unknown_input}

-- what follows whatever is known of the input
pub of_input : (source : Option Input) (P Q : KnownInput → Type 0) → ((k : KnownInput) → P k → Q k)
    → OfInput source P → OfInput source Q
of_input source P Q given h = (
  given unknown_input h.0,
  if_known source (λ i. P (known_by i)) (λ i. Q (known_by i))
      (λ i. given (known_by i)) h.1,
)

-- what is so whatever is known of the input
pub of_any : (source : Option Input) (Q : KnownInput → Type 0) → ((k : KnownInput) → Q k)
    → OfInput source Q
of_any None Q given = (given unknown_input, tt)
of_any (Some i) Q given = (given unknown_input, λ short. given (known_by i))
