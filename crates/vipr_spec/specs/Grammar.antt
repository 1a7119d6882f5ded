-- The VIPR format 1.0: which tokens spell which certificate
use Rattle.std.specs.Prelude.{◌≡◌, ℕ, ◌+◌, ◌<◌, ◌≤◌, ◌⊎◌, List, [], ◌∷◌, ◌++◌, length, map, Option}
use Rattle.std.specs.Prelude.{Some, None, All, codes, nat_eq}
use Rattle.std.specs.Str.Parse.{IsNumeral, digits_value}
use Rattle.std.specs.{FinSet.from_list, List.IsDistinct}
use Rattle.vipr_spec.specs.Constraint.{Sense, at_most, equal, at_least, Row, Ints, Constraint}
use Rattle.vipr_spec.specs.Certificate.{Name, Named, Direction, minimum, maximum, Claim, infeasible}
use Rattle.vipr_spec.specs.Certificate.{range, Problem, variables, Reason, asm, lin, rnd, uns, sol}
use Rattle.vipr_spec.specs.Certificate.{Derivation, Certificate}
use Rattle.vipr_spec.specs.Reading.{row_of, most_bytes, most_count}
use Rattle.vipr_spec.specs.{Fraction.ℚ, Number.SpellsNumber, Tokens.Token, Tokens.text_tokens}

-- ---- one token

abbrev pub SpellsNatural : List ℕ → ℕ → Type 0
SpellsNatural t n = IsNumeral 10 t × (digits_value 10 t ≡ n)

-- a count, or a constraint's index
abbrev pub SpellsCount : List ℕ → ℕ → Type 0
SpellsCount t n = SpellsNatural t n × (n ≤ most_count)

-- one of n variables
abbrev pub SpellsVariable : ℕ → List ℕ → ℕ → Type 0
SpellsVariable n t i = SpellsNatural t i × (i < n)

abbrev pub SpellsSense : List ℕ → Sense → Type 0
SpellsSense t equal = t ≡ codes "E"
SpellsSense t at_most = t ≡ codes "L"
SpellsSense t at_least = t ≡ codes "G"

abbrev pub SpellsDirection : List ℕ → Direction → Type 0
SpellsDirection t minimum = t ≡ codes "min"
SpellsDirection t maximum = t ≡ codes "max"

-- a bound of the claim, with how it is spelled if it is infinite
abbrev pub SpellsBound : List ℕ → List ℕ → Option ℚ → Type 0
SpellsBound infinite t None = t ≡ infinite
SpellsBound infinite t (Some x) = SpellsNumber t x

abbrev pub SpellsLast : List ℕ → Option ℕ → Type 0
SpellsLast t None = t ≡ codes "-1"
SpellsLast t (Some i) = SpellsCount t i

-- ---- tokens in a row: each of the following says of a list of tokens that it is one of a shape

-- this token alone
abbrev pub word : List ℕ → List (List ℕ) → Type 0
word w ts = ts ≡ w ∷ []

-- one token that spells a value
abbrev pub one : {A : Type 0} → (List ℕ → A → Type 0) → A → List (List ℕ) → Type 0
one P x ts = (t : List ℕ) × (ts ≡ t ∷ []) × P t x

-- one shape, and then another
infixr 4 ◌then◌
abbrev pub ◌then◌ : (List (List ℕ) → Type 0) → (List (List ℕ) → Type 0) → List (List ℕ) → Type 0
(P then Q) ts = (front back : List (List ℕ)) × (ts ≡ front ++ back) × P front × Q back

-- a shape for each of the values, in order
abbrev pub each : {A : Type 0} → (A → List (List ℕ) → Type 0) → List A → List (List ℕ) → Type 0
each P [] ts = ts ≡ []
each P (x ∷ xs) ts = (P x then each P xs) ts

-- ---- vectors and constraints

abbrev pub pair : ℕ → ℕ × ℚ → List (List ℕ) → Type 0
pair n p = one (SpellsVariable n) p.0 then one SpellsNumber p.1

-- a count, and so many pairs of distinct variables; a coefficient 0 is dropped
abbrev pub vector : ℕ → Row → List (List ℕ) → Type 0
vector n row ts = (ps : List (ℕ × ℚ)) × IsDistinct nat_eq (map (λ p. p.0) ps) × (row ≡ row_of ps)
    × (one SpellsCount (length ps) then each (pair n) ps) ts

-- a vector, or OBJ for the objective's
abbrev pub coefficients : ℕ → Row → Row → List (List ℕ) → Type 0
coefficients n objective row ts = vector n row ts ⊎ (word (codes "OBJ") ts × (row ≡ objective))

abbrev pub constraint : ℕ → Row → Name → Constraint → List (List ℕ) → Type 0
constraint n objective name c = word name then one SpellsSense c.sense then one SpellsNumber c.bound
    then coefficients n objective c.row

-- ---- the sections

abbrev pub version : List (List ℕ) → Type 0
version = word (codes "VER") then word (codes "1.0")

abbrev pub names : List Name → List (List ℕ) → Type 0
names ns = word (codes "VAR") then one SpellsCount (length ns) then each word ns

-- indices of variables; one that occurs twice is kept once
abbrev pub integers : ℕ → Ints → List (List ℕ) → Type 0
integers n ints ts = (is : List ℕ) × (ints ≡ from_list is)
    × (word (codes "INT") then one SpellsCount (length is) then each (one (SpellsVariable n)) is) ts

abbrev pub objective : ℕ → Direction → Row → List (List ℕ) → Type 0
objective n direction row = word (codes "OBJ") then one SpellsDirection direction then vector n row

abbrev pub constraints : ℕ → Row → ℕ → List (Named Constraint) → List (List ℕ) → Type 0
constraints n objective bound_count cs =
    word (codes "CON") then one SpellsCount (length cs) then one SpellsCount bound_count
    then each (λ c. constraint n objective c.name c.item) cs

abbrev pub claim : Claim → List (List ℕ) → Type 0
claim infeasible = word (codes "RTP") then word (codes "infeas")
claim (range lower upper) = word (codes "RTP") then word (codes "range")
    then one (SpellsBound (codes "-inf")) lower then one (SpellsBound (codes "inf")) upper

abbrev pub problem : Problem → List (List ℕ) → Type 0
problem p = version then names p.names then integers (variables p) p.integers
    then objective (variables p) p.direction p.objective
    then constraints (variables p) p.objective p.bound_count p.constraints then claim p.claim

-- a name and a vector
abbrev pub solution : ℕ → Named Row → List (List ℕ) → Type 0
solution n s = word s.name then vector n s.item

abbrev pub solutions : ℕ → List (Named Row) → List (List ℕ) → Type 0
solutions n ss = word (codes "SOL") then one SpellsCount (length ss) then each (solution n) ss

-- a constraint's index and its multiplier
abbrev pub entry : ℕ × ℚ → List (List ℕ) → Type 0
entry e = one SpellsCount e.0 then one SpellsNumber e.1

abbrev pub reason : Reason → List (List ℕ) → Type 0
reason asm = word (codes "asm")
reason (lin es) = word (codes "lin") then one SpellsCount (length es) then each entry es
reason (rnd es) = word (codes "rnd") then one SpellsCount (length es) then each entry es
reason (uns i1 l1 i2 l2) = word (codes "uns") then one SpellsCount i1 then one SpellsCount l1
    then one SpellsCount i2 then one SpellsCount l2
reason sol = word (codes "sol")

abbrev pub derivation : Problem → Derivation → List (List ℕ) → Type 0
derivation p d = constraint (variables p) p.objective d.name d.stated then word (codes "{")
    then reason d.reason then word (codes "}") then one SpellsLast d.last

-- the constraints of the problem and the derivations are no more than a count may be
abbrev pub derivations : Problem → List Derivation → List (List ℕ) → Type 0
derivations p ds ts = (length p.constraints + length ds ≤ most_count)
    × (word (codes "DER") then one SpellsCount (length ds) then each (derivation p) ds) ts

-- ---- the whole

-- these tokens spell the certificate: they are short enough, and are its eight sections in order
pub record SpelledBy (ts : List (List ℕ)) (c : Certificate) : Type 0 where
  pub short : All (λ t. length t ≤ most_bytes) ts
  pub sections : (problem c.problem then solutions (variables c.problem) c.solutions
      then derivations c.problem c.derivations) ts

abbrev pub Spells : List ℕ → Certificate → Type 0
Spells bytes c = SpelledBy (map (λ (t : Token). t.bytes) (text_tokens bytes)) c

-- a text spells this certificate and no other
pub record SpellsOnly (bytes : List ℕ) (c : Certificate) : Type 0 where
  pub this : Spells bytes c
  pub no_other : (d : Certificate) → Spells bytes d → d ≡ c
