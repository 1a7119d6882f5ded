-- A text that is read piece by piece
use Rattle.std.proofs.Common.{arith, ◌≡◌, ℕ, Bool, true, List, Option, Some, None, Result, IfOk}
use Rattle.std.proofs.Common.{IfSome, subst}
use Rattle.std.specs.Prelude.{IsErrAnd}
use Rattle.vipr_spec.specs.Input.{Input}
use Rattle.vipr_command.specs.Answer.{HasRead, ReadsOn}

-- what follows for an input, if it is known
pub of_known : (o : Option Input) (P Q : Input → Type 0) → ((i : Input) → P i → Q i) → IfSome o P → IfSome o Q
of_known None P Q f h = tt
of_known (Some i) P Q f h = f i h

-- nothing was read
pub nothing_read : {X E : Type 0} (o : Option Input) (r : Result X E) (P : Input → X → Type 0) (Q : E → Type 0)
    → IsErrAnd r Q → IfSome o (λ i. IfOk r (P i))
nothing_read o r P Q is = grind arith

-- a read went on
pub went_on : (known left new : Option Input) (old bytes : List ℕ) (failed more : Bool)
    → IfSome known (λ i. HasRead i left old)
    → ((i : Input) → HasRead i left old → ReadsOn i new bytes failed more) → more ≡ true
    → IfSome known (λ i. HasRead i new bytes)
went_on known left new old bytes failed more h on e = of_known known (λ i. HasRead i left old) _
    (λ i k. subst (ReadsOn i new bytes failed) e (on i k)) h

-- what is known isn't left
pub not_known : (known new : Option Input) (bytes : List ℕ) (P : Input → Type 0)
    → IfSome known (λ i. HasRead i new bytes) → new ≡ None → IfSome known P
not_known known new bytes P h none = of_known known (λ i. HasRead i new bytes) P (λ i k. absurd (cc (none, k.1))) h
