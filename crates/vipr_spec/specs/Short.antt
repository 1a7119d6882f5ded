-- What `verified` promises, and nothing else
use Rattle.std.specs.Prelude.{◌≡◌, ◌⊎◌, ℕ, ℤ, pos, neg_ℤ, ◌<◌, ◌==◌, ◌&&◌, ◌||◌, nat_le, not}
use Rattle.std.specs.Prelude.{Bool, true, false, if◌then◌else◌, List, [], ◌∷◌, ◌++◌, length, All}
use Rattle.std.specs.Prelude.{Any, Option, Some, None, IfSome, codes}
use Rattle.std.specs.Str.Parse.{IsNumeral, digits_value}
use Rattle.vipr_spec.specs.Fraction.{ℚ, over, ◌+ℚ◌, ◌*ℚ◌, ◌≤ℚ◌}

-- ---- what is claimed

abbrev pub whole : ℤ → ℚ
whole k = over k 1

abbrev pub Point : Type 0
Point = ℕ → ℚ

-- numbers, each at its variable; there is 0 at any other one
abbrev pub Row : Type 0
Row = List (ℕ × ℚ)

abbrev pub value : Row → Point → ℚ
value [] x = whole (pos 0)
value (p ∷ ps) x = p.1 *ℚ x p.0 +ℚ value ps x

abbrev pub point_of : Row → Point
point_of [] j = whole (pos 0)
point_of (p ∷ ps) j = if p.0 == j then p.1 else point_of ps j

pub data Sense : Type 0 where
  at_most : Sense
  at_least : Sense
  equal : Sense

abbrev pub Compares : Sense → ℚ → ℚ → Type 0
Compares at_most v b = v ≤ℚ b
Compares at_least v b = b ≤ℚ v
Compares equal v b = v ≡ b

pub record Constraint : Type 0 where
  pub row : Row
  pub sense : Sense
  pub bound : ℚ

abbrev pub IsTrueAt : Constraint → Point → Type 0
IsTrueAt c x = Compares c.sense (value c.row x) c.bound

-- the bounds are those behind RTP, a lower and an upper one, of which each may be infinite; there
-- are none if infeasibility is claimed
pub record Problem : Type 0 where
  pub integers : List ℕ
  pub is_min : Bool
  pub objective : Row
  pub constraints : List Constraint
  pub bounds : Option (Option ℚ × Option ℚ)

abbrev pub IsFeasible : Problem → Point → Type 0
IsFeasible p x = All (λ j. (k : ℤ) × (x j ≡ whole k)) p.integers
    × All (λ c. IsTrueAt c x) p.constraints

-- for min, v is as good as w
abbrev pub IsAsGood : Bool → ℚ → ℚ → Type 0
IsAsGood true v w = v ≤ℚ w
IsAsGood false v w = w ≤ℚ v

-- No point is feasible; or for min the lower bound holds at each feasible point, and a listed
-- solution is feasible and attains the upper one. For max it is the other way round.
abbrev pub Holds : Problem → List Row → Option (Option ℚ × Option ℚ) → Type 0
Holds p ss None = (x : Point) → ¬ IsFeasible p x
Holds p ss (Some b) =
    IfSome (if p.is_min then b.0 else b.1)
    (λ v. (x : Point) → IsFeasible p x → IsAsGood p.is_min v (value p.objective x))
    × IfSome (if p.is_min then b.1 else b.0) (λ v. Any (λ s. IsFeasible p (point_of s)
    × IsAsGood p.is_min (value p.objective (point_of s)) v) ss)

-- ---- the text

abbrev pub is_white : ℕ → Bool
is_white b = (nat_le 9 b && nat_le b 13) || (b == 32)

-- a text without the white space and the comments in front of it: `commented` within one
abbrev pub without_front : Bool → List ℕ → List ℕ
without_front commented [] = []
without_front true (b ∷ bs) = without_front (not (b == 10)) bs
without_front false (b ∷ bs) = if b == 37 then without_front true bs
    else (if is_white b then without_front false bs else b ∷ bs)

abbrev pub unless_empty : List ℕ → List (List ℕ)
unless_empty [] = []
unless_empty (b ∷ bs) = (b ∷ bs) ∷ []

-- the runs of other bytes; w is the run so far
abbrev pub tokens : List ℕ → List ℕ → List (List ℕ)
tokens w [] = unless_empty w
tokens w (b ∷ bs) = if is_white b then unless_empty w ++ tokens [] bs else tokens (w ++ b ∷ []) bs

abbrev pub Natural : List ℕ → ℕ → Type 0
Natural t n = IsNumeral 10 t × (digits_value 10 t ≡ n)

abbrev pub Integer : List ℕ → ℤ → Type 0
Integer t k = (digits : List ℕ) × (n : ℕ) × Natural digits n
    × ((((t ≡ digits) ⊎ (t ≡ 43 ∷ digits)) × (k ≡ pos n))
    ⊎ ((t ≡ 45 ∷ digits) × (k ≡ neg_ℤ (pos n))))

abbrev pub Number : List ℕ → ℚ → Type 0
Number t x = (top bottom : List ℕ) × (k : ℤ) × (q : ℕ) × Integer top k × Natural bottom q × (0 < q)
    × (x ≡ over k q) × ((t ≡ top ++ 47 ∷ bottom) ⊎ ((t ≡ top) × (q ≡ 1)))

-- what some tokens in a row are
abbrev pub Shape : Type 1
Shape = List (List ℕ) → Type 0

abbrev pub word : List ℕ → Shape
word w ts = ts ≡ w ∷ []

abbrev pub any : Shape
any ts = (t : List ℕ) × (ts ≡ t ∷ [])

abbrev pub one : {A : Type 0} → (List ℕ → A → Type 0) → A → Shape
one P x ts = (t : List ℕ) × (ts ≡ t ∷ []) × P t x

infixr 4 ◌then◌
abbrev pub ◌then◌ : Shape → Shape → Shape
(P then Q) ts = (front back : List (List ℕ)) × (ts ≡ front ++ back) × P front × Q back

abbrev pub each : {A : Type 0} → (A → Shape) → List A → Shape
each P [] ts = ts ≡ []
each P (x ∷ xs) ts = (P x then each P xs) ts

-- how many, and then each
abbrev pub counted : {A : Type 0} → (A → Shape) → List A → Shape
counted P xs = one Natural (length xs) then each P xs

abbrev pub vector : Row → Shape
vector row = counted (λ p. one Natural p.0 then one Number p.1) row

abbrev pub sense_word : Sense → List ℕ
sense_word at_most = codes "L"
sense_word at_least = codes "G"
sense_word equal = codes "E"

abbrev pub constraint : Row → Constraint → Shape
constraint objective c = any then word (sense_word c.sense) then one Number c.bound
    then (λ ts. vector c.row ts ⊎ (word (codes "OBJ") ts × (c.row ≡ objective)))

abbrev pub bound : List ℕ → List ℕ → Option ℚ → Type 0
bound infinite t None = t ≡ infinite
bound infinite t (Some x) = Number t x

abbrev pub claim : Option (Option ℚ × Option ℚ) → Shape
claim None = word (codes "infeas")
claim (Some b) = word (codes "range") then one (bound (codes "-inf")) b.0
    then one (bound (codes "inf")) b.1

-- from VER to the last solution
abbrev pub States : List ℕ → Problem → List Row → Type 0
States bytes p ss = (names : List (List ℕ)) × (b : ℕ) × (back : List (List ℕ)) × ((
    word (codes "VER") then word (codes "1.0")
    then word (codes "VAR") then counted word names
    then word (codes "INT") then counted (one Natural) p.integers
    then word (codes "OBJ") then word (if p.is_min then codes "min" else codes "max")
    then vector p.objective
    then word (codes "CON") then one Natural (length p.constraints) then one Natural b
    then each (constraint p.objective) p.constraints
    then word (codes "RTP") then claim p.bounds
    then word (codes "SOL") then counted (λ s. any then vector s) ss
    then (λ ts. ts ≡ back)) (tokens [] (without_front false bytes)))

-- verified: the text states this, and it is so
abbrev pub Means : List ℕ → Type 0
Means bytes = (p : Problem) × (ss : List Row) × States bytes p ss × Holds p ss p.bounds
