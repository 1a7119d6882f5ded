-- What a refusal of a text depends on
use Rattle.std.specs.Prelude.{◌≡◌, ℕ, suc, ◌+◌, ◌<◌, List, [], ◌∷◌, ◌++◌, length, Ok}
use Rattle.vipr_spec.specs.Certificate.{Named, Problem, Certificate, count}
use Rattle.vipr_spec.specs.Reading.{Rest, Read, problem_read, solution_read, derivations_read}
use Rattle.vipr_spec.specs.Reading.{derivation_read}
use Rattle.vipr_spec.specs.Verdict.{items_read, Found, Place, at_byte, at_solution, at_derivation}
use Rattle.vipr_spec.specs.Verdict.{at_end, Refusal, refuses, Answers}
use Rattle.vipr_spec.specs.{Constraint.Profile, Constraint.Row, Tokens.Token}

-- the last of these tokens is the one at this byte
abbrev pub EndsAtByte : List Token → ℕ → Type 0
EndsAtByte ts offset =
    (before : List Token) × (t : Token) × (ts ≡ before ++ t ∷ []) × (t.offset ≡ offset)

-- these are the tokens of so many items, and no more
abbrev pub AreItems : {A : Type 0} → (Rest → Read A) → ℕ → Rest → Type 0
AreItems {A} item n r =
    (xs : List A) × (s : Rest) × (items_read item n r ≡ (xs, Ok s)) × (s.tokens ≡ [])

-- Of so many derivations after the certificate c, the tokens end at this place: at the token there,
-- or with the derivation there.
abbrev pub EndsInDerivations : Certificate → ℕ → Rest → Place → Type 0
EndsInDerivations c n r (at_byte offset) = EndsAtByte r.tokens offset
EndsInDerivations c n r (at_derivation k) =
    (m : ℕ) × (m < n) × (k ≡ count c + m) × AreItems (derivation_read c.problem) (suc m) r
EndsInDerivations c n r _ = ⊥

-- Of so many solutions after i others, and what follows, the tokens end at this place: at the token
-- there, with the solution or derivation there, or, at the end, with the last solution.
abbrev pub EndsInSolutions : Problem → ℕ → ℕ → Rest → Place → Type 0
EndsInSolutions p i n r (at_byte offset) = EndsAtByte r.tokens offset
EndsInSolutions p i n r (at_solution k) =
    (m : ℕ) × (m < n) × (k ≡ i + m) × AreItems (solution_read p) (suc m) r
EndsInSolutions p i n r (at_derivation k) =
    (ss : List (Named Row)) × (s : Rest) × (items_read (solution_read p) n r ≡ (ss, Ok s))
    × (d : ℕ) × (t : Rest) × (derivations_read p s ≡ Ok (d, t))
    × (m : ℕ) × (m < d) × (k ≡ length p.constraints + m)
    × AreItems (derivation_read p) (suc m) t
EndsInSolutions p i n r at_end = AreItems (solution_read p) n r

-- The text ends at this place: with the token there, or else with the item there.
abbrev pub EndsAt : Rest → Place → Type 0
EndsAt r (at_byte offset) = EndsAtByte r.tokens offset
EndsAt r place =
    (p : Problem) × (n : ℕ) × (s : Rest) × (problem_read r ≡ Ok ((p, n), s))
    × EndsInSolutions p 0 n s place

-- What is found in r is refused by its first tokens, which end at the place, whatever follows them:
-- other tokens, the end of the text, or a read that fails.
pub record IsRefusedBy (P : Profile) (found : Rest → Found) (Ends : Rest → Place → Type 0)
    (r : Rest) (x : Refusal) : Type 0 where
  pub front : List Token
  pub after : List Token
  pub joined : r.tokens ≡ front ++ after
  pub ends : (s : Rest) → s.tokens ≡ front → Ends s x.place
  pub refused : (s : Rest) (more : List Token) → s.tokens ≡ front ++ more
      → Answers P (found s) (refuses x)
