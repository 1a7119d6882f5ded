-- What is answered if a reader or a writer of std was asked once
use Rattle.std.specs.Prelude.{◌≡◌, ℕ, Result, Ok, IsErr, MatchResult}
use Rattle.vipr_bytes.specs.declared.source.Failed.{Failed}

-- what was given is answered: each error is a failure, and nothing else is
pub record PassesOn {E : Type 0} (gave : Result ℕ E → Type 0) (result : Result ℕ Failed) : Type 0
  where
    pub given : Result ℕ E
    pub asked : gave given
    pub passed : MatchResult given (λ n. result ≡ Ok n) (λ _. IsErr result)
