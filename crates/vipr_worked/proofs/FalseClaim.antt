-- A text that means nothing true
use Rattle.std.proofs.Common.{◌≡◌, ℕ, ℤ, pos, true, List, [], ◌∷◌, None, codes, refl, lit<}
use Rattle.std.proofs.lemmas.List.Elements.{All-nil}
use Rattle.vipr_spec.specs.Fraction.{ℚ}
use Rattle.vipr_spec.specs.Short.{Constraint, IsTrueAt, Means, Natural, Number, Point, Problem}
use Rattle.vipr_spec.specs.Short.{States, any, claim, constraint, counted, each, one, ◌then◌, vector}
use Rattle.vipr_spec.specs.Short.{whole, word}
use Rattle.vipr_spec.proofs.Laws.{holds_of_any}

abbrev Shape : Type 1
Shape = List (List ℕ) → Type 0

abbrev text : List ℕ
text = codes "VER 1.0 VAR 0 INT 0 OBJ min 0 CON 0 0 RTP infeas SOL 0 DER 0"

-- nothing is asked of a point
abbrev free : Problem
free = record { integers = []; is_min = true; objective = []; constraints = []; bounds = None }

zero_is : Natural (codes "0") 0
zero_is = ((lit< tt, (lit< tt, tt)), refl)

-- ---- the text from a section on

abbrev Tokens : Type 0
Tokens = List (List ℕ)

abbrev back : Tokens
back = codes "DER" ∷ codes "0" ∷ []

abbrev sol : Tokens
sol = codes "SOL" ∷ codes "0" ∷ back

abbrev rtp : Tokens
rtp = codes "RTP" ∷ codes "infeas" ∷ sol

abbrev con : Tokens
con = codes "CON" ∷ codes "0" ∷ codes "0" ∷ rtp

abbrev obj : Tokens
obj = codes "OBJ" ∷ codes "min" ∷ codes "0" ∷ con

abbrev int : Tokens
int = codes "INT" ∷ codes "0" ∷ obj

abbrev ver : Tokens
ver = codes "VER" ∷ codes "1.0" ∷ codes "VAR" ∷ codes "0" ∷ int

-- a word in front
then_word : (R : Shape) (w : List ℕ) (ts : Tokens) → R ts → (word w then R) (w ∷ ts)
then_word R w ts r = (w ∷ [], ts, refl, refl, r)

-- the number 0 in front
then_zero : (R : Shape) (ts : Tokens) → R ts → (one Natural 0 then R) (codes "0" ∷ ts)
then_zero R ts r = (codes "0" ∷ [], ts, refl, (codes "0", refl, zero_is), r)

-- a list of nothing in front
then_none : {A : Type 0} (P : A → Shape) (R : Shape) (ts : Tokens) → R ts
    → (counted P [] then R) (codes "0" ∷ ts)
then_none P R ts r =
    (codes "0" ∷ [], ts, refl, (codes "0" ∷ [], [], refl, (codes "0", refl, zero_is), refl), r)

abbrev FromSol : Shape
FromSol = word (codes "SOL") then counted (λ s. any then vector s) [] then (λ ts. ts ≡ back)

from_sol : FromSol sol
from_sol = then_word _ (codes "SOL") (codes "0" ∷ back)
    (then_none (λ s. any then vector s) (λ ts. ts ≡ back) back refl)

abbrev FromRtp : Shape
FromRtp = word (codes "RTP") then claim None then FromSol

from_rtp : FromRtp rtp
from_rtp = then_word _ (codes "RTP") (codes "infeas" ∷ sol)
    (then_word FromSol (codes "infeas") sol from_sol)

abbrev FromCon : Shape
FromCon = word (codes "CON") then one Natural 0 then one Natural 0 then each (constraint []) []
    then FromRtp

from_con : FromCon con
from_con = then_word _ (codes "CON") (codes "0" ∷ codes "0" ∷ rtp)
    (then_zero _ (codes "0" ∷ rtp) (then_zero _ rtp ([], rtp, refl, refl, from_rtp)))

abbrev FromObj : Shape
FromObj = word (codes "OBJ") then word (codes "min") then vector [] then FromCon

from_obj : FromObj obj
from_obj = then_word _ (codes "OBJ") (codes "min" ∷ codes "0" ∷ con)
    (then_word _ (codes "min") (codes "0" ∷ con)
    (then_none (λ (p : ℕ × ℚ). one Natural p.0 then one Number p.1) FromCon con from_con))

abbrev FromInt : Shape
FromInt = word (codes "INT") then counted (one Natural) [] then FromObj

from_int : FromInt int
from_int = then_word _ (codes "INT") (codes "0" ∷ obj)
    (then_none (one Natural) FromObj obj from_obj)

abbrev FromVer : Shape
FromVer = word (codes "VER") then word (codes "1.0") then word (codes "VAR")
    then counted word [] then FromInt

from_ver : FromVer ver
from_ver = then_word _ (codes "VER") (codes "1.0" ∷ codes "VAR" ∷ codes "0" ∷ int)
    (then_word _ (codes "1.0") (codes "VAR" ∷ codes "0" ∷ int)
    (then_word _ (codes "VAR") (codes "0" ∷ int) (then_none word FromInt int from_int)))

pub stated : States text free []
stated = ([], 0, back, from_ver)

-- the point with 0 everywhere
abbrev origin : Point
origin = λ j. whole (pos 0)

pub means_nothing : Means text → ⊥
means_nothing means =
    holds_of_any text means free [] stated origin (
      All-nil (λ (j : ℕ). (k : ℤ) × (origin j ≡ whole k)),
      All-nil (λ (c : Constraint). IsTrueAt c origin),
    )
