-- What the entries of a derivation may name
use Rattle.std.specs.Prelude.{◌≢◌, ℕ, ◌<◌, IsTrue, List, All}
use Rattle.vipr_spec.specs.Fraction.{ℚ, zero_ℚ}
use Rattle.vipr_spec.specs.Certificate.{Certificate, is_live}

-- before derivation k the entries name earlier constraints, live ones if the multiplier isn't 0
abbrev pub AreUsable : Certificate → ℕ → List (ℕ × ℚ) → Type 0
AreUsable c k es = All (λ e. (e.0 < k) × (e.1 ≢ zero_ℚ → IsTrue (is_live c k e.0))) es
