-- What a cause says of a certificate
use Rattle.std.specs.Prelude.{◌≡◌, ◌≤◌, ◌⊎◌, ℕ}
use Rattle.vipr_spec.specs.Causes.{truncated, trailing_text, number_too_large}
use Rattle.vipr_spec.specs.Causes.{solution_overflow, overflow}

-- the text spells no certificate
abbrev pub IsOfText : ℕ → Type 0
IsOfText cause = (truncated ≤ cause) × (cause ≤ trailing_text)

-- a number is out of bound: written in the text, or found at a solution or in a sum
abbrev pub IsOverflow : ℕ → Type 0
IsOverflow cause = (cause ≡ number_too_large) ⊎ (cause ≡ solution_overflow) ⊎ (cause ≡ overflow)
