-- Reading and the grammar say the same
use Rattle.std.specs.Prelude.{◌≡◌, ◌↔◌, ℕ, ◌+◌, ◌-◌, ◌≤◌, Bool, false, nat_eq, if◌then◌else◌, List}
use Rattle.std.specs.Prelude.{[], ◌++◌, length, map, All, Some, Result, Ok, codes}
use Rattle.std.specs.List.{list_any}
use Rattle.vipr_spec.specs.Certificate.{Problem, variables, Certificate}
use Rattle.vipr_spec.specs.Tokens.{Token, text_tokens}
use Rattle.vipr_spec.specs.Reading.{Rest, Read, most_bytes, most_count, name_of, word_of, count_of}
use Rattle.vipr_spec.specs.Reading.{derivation_count_of, variable_of, new_variable_of, reference_of}
use Rattle.vipr_spec.specs.Reading.{last_of, number_of, bound_of, spelled_sense, spelled_direction}
use Rattle.vipr_spec.specs.Reading.{has_range_of, rule_of, Rule, by_asm, by_lin, by_rnd, by_uns}
use Rattle.vipr_spec.specs.Reading.{by_sol, problem_read, solution_read, derivations_read}
use Rattle.vipr_spec.specs.Reading.{derivation_read, end_read, certificate_read}
use Rattle.vipr_spec.specs.Grammar.{SpellsNatural, SpellsCount, SpellsVariable, SpellsSense}
use Rattle.vipr_spec.specs.Grammar.{SpellsDirection, SpellsBound, SpellsLast, word, one, ◌then◌}
use Rattle.vipr_spec.specs.Grammar.{problem, solution, derivation, SpelledBy, Spells}
use Rattle.vipr_spec.specs.{Digits.natural_of, Number.SpellsNumber}

-- ---- tokens

-- digits write exactly the number that they spell
abbrev pub ReadsNaturals : Type 0
ReadsNaturals = (t : List ℕ) (n : ℕ) → (natural_of t ≡ Some n) ↔ SpellsNatural t n

-- a token of a kind means exactly what it spells
abbrev pub ReadsKind : {A : Type 0} → (List ℕ → Result A ℕ) → (List ℕ → A → Type 0) → Type 0
ReadsKind {A} kind P = (t : List ℕ) (x : A) → (kind t ≡ Ok x) ↔ P t x

abbrev pub rule_word : Rule → List ℕ
rule_word by_asm = codes "asm"
rule_word by_lin = codes "lin"
rule_word by_rnd = codes "rnd"
rule_word by_uns = codes "uns"
rule_word by_sol = codes "sol"

-- whether the claim is a range
abbrev pub SpellsRange : List ℕ → Bool → Type 0
SpellsRange t b = t ≡ (if b then codes "range" else codes "infeas")

-- each kind of token but numbers
pub record KindsOfToken : Type 0 where
  pub name : ReadsKind name_of (λ t x. t ≡ x)
  pub fixed : (text : List ℕ) (otherwise : ℕ) → ReadsKind (word_of text otherwise) (λ t x. t ≡ text)
  pub count : ReadsKind count_of SpellsCount
  pub derivation_count : (m : ℕ)
      → ReadsKind (derivation_count_of m) (λ t d. SpellsNatural t d × (d ≤ most_count - m))
  pub variable : (n : ℕ) → ReadsKind (variable_of n) (SpellsVariable n)
  pub new_variable : (n : ℕ) (before : List ℕ) → ReadsKind (new_variable_of n before)
      (λ t i. SpellsVariable n t i × (list_any (nat_eq i) before ≡ false))
  pub reference : ReadsKind reference_of SpellsCount
  pub last : ReadsKind last_of SpellsLast
  pub sense : ReadsKind spelled_sense SpellsSense
  pub direction : ReadsKind spelled_direction SpellsDirection
  pub has_range : ReadsKind has_range_of SpellsRange
  pub rule : ReadsKind rule_of (λ t rule. t ≡ rule_word rule)

-- numbers, and the bounds of a claim
pub record KindsOfNumber : Type 0 where
  pub number : ReadsKind number_of SpellsNumber
  pub lower : ReadsKind (bound_of (codes "-inf")) (SpellsBound (codes "-inf"))
  pub upper : ReadsKind (bound_of (codes "inf")) (SpellsBound (codes "inf"))

-- ---- parts

-- The tokens from r up to s have the shape P, and are short enough.
pub record ReadsFront (P : List (List ℕ) → Type 0) (r s : Rest) : Type 0 where
  pub front : List Token
  pub joined : r ≡ record s { tokens = front ++ s.tokens }
  pub short : All (λ t. length t ≤ most_bytes) (map (λ t. t.bytes) front)
  pub shape : P (map (λ t. t.bytes) front)

-- Read is exactly what the tokens at the front spell, whatever follows them, and what follows them
-- is left.
abbrev pub Reads : {A : Type 0} → (Rest → Read A) → (A → List (List ℕ) → Type 0) → Type 0
Reads {A} read S = (r s : Rest) (x : A) → (read r ≡ Ok (x, s)) ↔ ReadsFront (S x) r s

-- a problem, and the number of solutions behind it
abbrev pub problem_and_count : Problem × ℕ → List (List ℕ) → Type 0
problem_and_count x = problem x.0 then word (codes "SOL") then one SpellsCount x.1

-- the number of derivations, which with the constraints of the problem is no more than a count may
-- be
abbrev pub derivation_count : Problem → ℕ → List (List ℕ) → Type 0
derivation_count p d ts = (length p.constraints + d ≤ most_count)
    × (word (codes "DER") then one SpellsCount d) ts

-- no token is left, and no failure follows
abbrev pub EndsHere : Rest → Type 0
EndsHere r = (r.tokens ≡ []) × (r.fails ≡ false)

-- The items of a certificate, in their order. Counts keep the constraints of a
-- problem that was read within `most_count`.
pub record ItemReadings : Type 0 where
  pub problem : Reads problem_read problem_and_count
  pub few_constraints : (r s : Rest) (x : Problem × ℕ) → problem_read r ≡ Ok (x, s)
      → length x.0.constraints ≤ most_count
  pub solution : (p : Problem) → Reads (solution_read p) (solution (variables p))
  pub derivations : (p : Problem) → length p.constraints ≤ most_count
      → Reads (derivations_read p) (derivation_count p)
  pub derivation : (p : Problem) → Reads (derivation_read p) (derivation p)
  pub end : (r : Rest) → (end_read r ≡ Ok tt) ↔ EndsHere r

-- ---- certificates

-- A certificate is read exactly if all tokens spell it, and no failure follows them.
abbrev pub ReadsCertificates : Type 0
ReadsCertificates = (r : Rest) (c : Certificate)
    → (certificate_read r ≡ Ok c) ↔ ((r.fails ≡ false) × SpelledBy (map (λ t. t.bytes) r.tokens) c)

-- what there is to read of a text that no failure cuts off
abbrev pub whole_text : List ℕ → Rest
whole_text bytes = record { tokens = text_tokens bytes; fails = false; length = length bytes }

abbrev pub ReadsTexts : Type 0
ReadsTexts = (bytes : List ℕ) (c : Certificate)
    → (certificate_read (whole_text bytes) ≡ Ok c) ↔ Spells bytes c

abbrev pub OneCertificate : Type 0
OneCertificate = (bytes : List ℕ) (c d : Certificate) → Spells bytes c → Spells bytes d → c ≡ d
