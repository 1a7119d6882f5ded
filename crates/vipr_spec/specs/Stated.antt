-- What the front of a text states: a problem and the listed solutions
use Rattle.std.specs.Prelude.{◌≡◌, ℕ, ◌≤◌, List, ◌++◌, length, map, All}
use Rattle.vipr_spec.specs.Certificate.{Named, Problem, variables}
use Rattle.vipr_spec.specs.Grammar.{◌then◌, problem, solutions}
use Rattle.vipr_spec.specs.{Constraint.Row, Reading.most_bytes, Tokens.Token, Tokens.text_tokens}

-- The text begins with the sections of this problem and of these listed solutions.
abbrev pub States : List ℕ → Problem → List (Named Row) → Type 0
States bytes p ss = (front back : List Token) × (text_tokens bytes ≡ front ++ back)
    × All (λ t. length t ≤ most_bytes) (map (λ t. t.bytes) front)
    × (problem p then solutions (variables p) ss) (map (λ t. t.bytes) front)

-- a text states this problem and these solutions, and no others
pub record StatesOnly (bytes : List ℕ) (p : Problem) (ss : List (Named Row)) : Type 0 where
  pub this : States bytes p ss
  pub no_other : (q : Problem) (tt : List (Named Row)) → States bytes q tt → (q ≡ p) × (tt ≡ ss)
