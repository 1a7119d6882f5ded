-- The constraints of a problem by their variables, and sums over the listed variables of a solution
use Rattle.std.specs.Prelude.{◌≡◌, ◌↔◌, ℕ, ◌<◌, ◌≤◌, ◌⊎◌, List, [], map, length, Vec, Option}
use Rattle.std.specs.Prelude.{IfSome, replicate, slice_index_or}
use Rattle.std.specs.{FinMap.empty, FinMap.entries, Global.Global}
use Rattle.vipr_spec.specs.Fraction.{ℚ, zero_ℚ, ◌≤ℚ◌}
use Rattle.vipr_spec.specs.Constraint.{Constraint, Row, Point, at, equal, value, ValueFits}
use Rattle.vipr_spec.specs.Constraint.{Compares, IsTrueAt, condition}
use Rattle.vipr_spec.specs.Certificate.{Problem, variables}
use Rattle.vipr_linear.specs.Constraint.{constraint_of}
use Rattle.vipr_linear.specs.declared.constraint.Constraint.{Constraint as Item}
use Rattle.vipr_cert.specs.declared.items.Named.{Named}
use Rattle.vipr_rules.specs.{declared.bounds.Bounds.Bounds, declared.columns.Columns.Columns}
use Rattle.vipr_rules.specs.declared.coefficient.Coefficient.{Coefficient}
use Rattle.vipr_rules.specs.declared.coefficient.Coefficient.TheVariants.{Short, Listed}

-- constraint i of a list
abbrev pub nth : List Constraint → ℕ → Constraint
nth cs i = slice_index_or cs i (record { row = empty; sense = equal; bound = zero_ℚ })

abbrev pub given_of : List (Named Item) → List Constraint
given_of cons = map (λ n. constraint_of n.item) cons

abbrev pub given_in : Problem → List Constraint
given_in p = map (λ n. n.item) p.constraints

-- i is the number of an element from place c on
abbrev pub OccursFrom : {A : Type 0} → (A → ℕ) → A → ℕ → List A → ℕ → Type 0
OccursFrom number d c xs i =
    (k : ℕ) × (c ≤ k) × (k < length xs) × (number (slice_index_or xs k d) ≡ i)

-- the constraint has this row
abbrev pub HasRow : Row → Constraint → Type 0
HasRow row c = (j : ℕ) → at c.row j ≡ at row j

-- ---- the constraints that have the objective's row, as bounds of its value

-- the value reaches the lower bound, if there is one
abbrev pub IsFrom : Option ℚ → ℚ → Type 0
IsFrom least v = IfSome least (λ b. b ≤ℚ v)

-- the value doesn't exceed the upper bound, if there is one
abbrev pub IsUpTo : Option ℚ → ℚ → Type 0
IsUpTo most v = IfSome most (λ b. v ≤ℚ b)

abbrev pub LiesWithin : Bounds → ℚ → Type 0
LiesWithin b v = IsFrom b.least v × IsUpTo b.most v

-- the values within are exactly those at which each of the first n constraints is true that has
-- this row
abbrev pub AreBounds : Row → List Constraint → ℕ → Bounds → Type 0
AreBounds row cs n b = (v : ℚ) → LiesWithin b v ↔ ((i : ℕ) → i < n → HasRow row (nth cs i)
    → Compares (nth cs i).sense v (nth cs i).bound)

-- ---- columns of the constraints that don't have the objective's row

-- it is this value, or this place where the value is listed
abbrev pub IsCoefficientOf : ℚ → ℕ → Coefficient → Type 0
IsCoefficientOf x k (Short a) = a ≡ x
IsCoefficientOf x k (Listed place) = place ≡ k

-- it is the coefficient of the variable j in a constraint, or the place of its entry there
abbrev pub IsCoefficientIn : Constraint → ℕ → Coefficient → Type 0
IsCoefficientIn c j (Short a) = a ≡ at c.row j
IsCoefficientIn c j (Listed place) = (place < length (entries c.row))
    × (slice_index_or (entries c.row) place (0, zero_ℚ) ≡ (j, at c.row j))

-- the index of a constraint, with a coefficient of it
abbrev pub ColumnEntry : Type 0
ColumnEntry = ℕ × Coefficient

abbrev pub no_entry : ColumnEntry
no_entry = (0, Listed 0)

abbrev pub IsPlace : List Constraint → ℕ → ℕ → ColumnEntry → Type 0
IsPlace cs n j e = (e.0 < n) × IsCoefficientIn (nth cs e.0) j e.1

-- the places of the variable j in the first n constraints, those with the row o aside
pub record ArePlaces (o : Row) (cs : List Constraint) (n j : ℕ) (places : List ColumnEntry) : Type 0
  where
    pub found : (k : ℕ) → k < length places → IsPlace cs n j (slice_index_or places k no_entry)
    pub rising : (a b : ℕ) → a < b → b < length places
        → (slice_index_or places a no_entry).0 < (slice_index_or places b no_entry).0
    pub rest : (i : ℕ) → i < n → HasRow o (nth cs i) ⊎ ((at (nth cs i).row j ≡ zero_ℚ)
        ⊎ OccursFrom (λ (e : ColumnEntry). e.0) no_entry 0 places i)

abbrev pub column_at : List (Vec ColumnEntry Global) → ℕ → List ColumnEntry
column_at columns j = slice_index_or (map (λ v. v.items) columns) j []

-- the columns of the first n constraints, those with the row o aside
abbrev pub AreColumns : Row → List Constraint → ℕ → List (Vec ColumnEntry Global) → Type 0
AreColumns o cs n columns = (j : ℕ) → ArePlaces o cs n j (column_at columns j)

-- ---- sums

-- the sum over the first n variables
abbrev pub IsSummed : Row → Point → ℕ → ℚ → Type 0
IsSummed row x n sum = ValueFits n (at row) x × (sum ≡ value n (at row) x)

-- so of the constraint i, or it has the row o
abbrev pub IsCounted : Row → List Constraint → Point → ℕ → List ℚ → ℕ → Type 0
IsCounted o cs x n sums i =
    HasRow o (nth cs i) ⊎ IsSummed (nth cs i).row x n (slice_index_or sums i zero_ℚ)

abbrev pub AreSums : Row → List Constraint → Point → ℕ → List ℚ → Type 0
AreSums o cs x n sums = (i : ℕ) → i < length sums → IsCounted o cs x n sums i

-- at a point the constraint is true, and its value fits
abbrev pub IsMet : ℕ → Point → Constraint → Type 0
IsMet n x c = ValueFits n (at c.row) x × IsTrueAt n (condition c) x

-- so are the constraints, those with the row o aside
abbrev pub AreMet : Row → List Constraint → ℕ → Point → Type 0
AreMet o cs n x = (i : ℕ) → i < length cs → HasRow o (nth cs i) ⊎ IsMet n x (nth cs i)

-- a constraint has the row o, or is true if all variables are 0, or is listed
pub record AreFalseAtZero (o : Row) (cs : List Constraint) (n : ℕ) (indices : List ℕ) : Type 0
  where
    pub within : (k : ℕ) → k < length indices → slice_index_or indices k 0 < n
    pub listed : (i : ℕ) → i < n
        → HasRow o (nth cs i) ⊎ (Compares (nth cs i).sense zero_ℚ (nth cs i).bound
        ⊎ OccursFrom (λ (j : ℕ). j) 0 0 indices i)

-- the columns of the constraints of a problem and the bounds of its objective, with nothing summed
pub record IsColumnsOf (p : Problem) (c : Columns) : Type 0 where
  pub variables : length c.columns.items ≡ variables p
  pub columns : AreColumns p.objective (given_in p) (length p.constraints) c.columns.items
  pub false_at_zero : AreFalseAtZero p.objective (given_in p) (length p.constraints)
      c.false_at_zero.items
  pub bounds : AreBounds p.objective (given_in p) (length p.constraints) c.bounds
  pub sums : c.sums ≡ replicate (length p.constraints) zero_ℚ
