-- What a fault of a text depends on
use Rattle.std.specs.Prelude.{◌≡◌, ℕ, ◌⊎◌, true, false, List, ◌∷◌, ◌++◌, Result, Err}
use Rattle.vipr_spec.specs.Causes as cause
use Rattle.vipr_spec.specs.Reading.{Rest, Fault, refused, unread, problem_read, solution_read}
use Rattle.vipr_spec.specs.Reading.{derivations_read, derivation_read, end_read, certificate_read}
use Rattle.vipr_spec.specs.{Certificate.Problem, Tokens.Token}

-- A token at the offset is refused for the cause, whatever follows it, and none before it is: if
-- a failure follows those, nothing is refused.
pub record IsRefusedAt {A : Type 0} (read : Rest → Result A Fault) (r : Rest)
    (why place : ℕ) : Type 0 where
  pub before : List Token
  pub token : Token
  pub after : List Token
  pub joined : r.tokens ≡ before ++ token ∷ after
  pub here : token.offset ≡ place
  pub remains : (s : Rest) (more : List Token) → s.tokens ≡ before ++ token ∷ more
      → read s ≡ Err (refused why place)
  pub first : (s : Rest) → s.tokens ≡ before → s.fails ≡ true → read s ≡ Err unread

-- the text ends where a token is wanted
abbrev pub EndsEarly : Rest → ℕ → ℕ → Type 0
EndsEarly r why place = (r.fails ≡ false) × (why ≡ cause.truncated) × (place ≡ r.length)

-- A refusal is that of one token, or of the end; and for want of more to read it fails only if a
-- failure follows.
pub record FaultsRemain {A : Type 0} (read : Rest → Result A Fault) : Type 0 where
  pub refusal : (r : Rest) (why place : ℕ) → read r ≡ Err (refused why place)
      → IsRefusedAt read r why place ⊎ EndsEarly r why place
  pub failure : (r : Rest) → read r ≡ Err unread → r.fails ≡ true

pub record ItemFaults : Type 0 where
  pub problem : FaultsRemain problem_read
  pub solution : (p : Problem) → FaultsRemain (solution_read p)
  pub derivations : (p : Problem) → FaultsRemain (derivations_read p)
  pub derivation : (p : Problem) → FaultsRemain (derivation_read p)
  pub end : FaultsRemain end_read
  pub certificate : FaultsRemain certificate_read
