-- What a combination holds, and what one more entry makes of it
use Rattle.std.specs.Prelude.{◌≡◌, ◌≢◌, ℕ, zero, suc, Bool, true, false, List, [], ◌∷◌, map, length}
use Rattle.std.specs.Prelude.{replicate, slice_index_or, slice_set, Option, IsSome, unwrap_or}
use Rattle.std.specs.List.{range_with_len}
use Rattle.std.specs.Coded.{Coded, code_by, coded_ℕ, coded×, coded_list, coded_bool}
use Rattle.std.proofs.Common.{refl}
use Rattle.vipr_spec.specs.Fraction.{ℚ, coded_ℚ, zero_ℚ, ◌+ℚ◌, ◌*ℚ◌}
use Rattle.vipr_spec.specs.Constraint.{Sense, at_most, equal, at_least, Row, at, Entry, sum_over}
use Rattle.vipr_spec.specs.Constraint.{HasSense, SumOfFits, Condition, HasNoZeros}
use Rattle.vipr_spec.specs.MoreEntries.{sense_of_multiple, sense_of_both, TermFits}

-- the partial sum of each variable and of the right-hand sides, the sense of the sum so far, and
-- whether an error came
pub record Accumulator : Type 0 where
  pub sums : List ℚ
  pub bound : ℚ
  pub sense : Sense
  pub spent : Bool

-- 0 at a variable that it does not have
abbrev pub sum_at : Accumulator → ℕ → ℚ
sum_at a j = slice_index_or a.sums j zero_ℚ

-- over n variables, with nothing added
abbrev pub nothing_added : ℕ → Accumulator
nothing_added n = record { sums = replicate n zero_ℚ; bound = zero_ℚ; sense = equal; spent = false }

-- ---- one more entry

abbrev pub joined_with : Accumulator → Entry → Option Sense
joined_with a e = sense_of_both a.sense (sense_of_multiple e.0 e.1.sense)

-- at the variables in the row
abbrev pub RowAdditionFits : List ℚ → ℚ → (ℕ → ℚ) → Type 0
RowAdditionFits sums m row = (j : ℕ) → row j ≢ zero_ℚ
    → TermFits (slice_index_or sums j zero_ℚ) m (row j)

abbrev pub with_row : List ℚ → ℚ → (ℕ → ℚ) → List ℚ
with_row sums m row =
    map (λ j. slice_index_or sums j zero_ℚ +ℚ m *ℚ row j) (range_with_len 0 (length sums))

-- each product and each sum with it fits, at the row and at the right-hand side
abbrev pub AdditionFits : Accumulator → Entry → Type 0
AdditionFits a e = e.0 ≢ zero_ℚ
    → RowAdditionFits a.sums e.0 e.1.row × TermFits a.bound e.0 e.1.bound

-- not spent, the sum stays suitable, and the entry fits
pub record CanAdd (a : Accumulator) (e : Entry) : Type 0 where
  pub fresh : a.spent ≡ false
  pub suitable : IsSome (joined_with a e)
  pub fits : AdditionFits a e

abbrev pub with_entry : Accumulator → Entry → Accumulator
with_entry a e = record {
  sums = with_row a.sums e.0 e.1.row;
  bound = a.bound +ℚ e.0 *ℚ e.1.bound;
  sense = unwrap_or (joined_with a e) equal;
  spent = false;
}

abbrev pub IsSuitable : List Entry → Type 0
IsSuitable es = (s : Sense) × HasSense es s

-- what the sum says
abbrev pub summed_condition : List ℚ → Sense → ℚ → Condition
summed_condition sums s b = record { row = λ j. slice_index_or sums j zero_ℚ; sense = s; bound = b }

abbrev pub held_condition : Accumulator → Condition
held_condition a = summed_condition a.sums a.sense a.bound

-- the entries were added to nothing, in this order
pub record Holds (n : ℕ) (es : List Entry) (a : Accumulator) : Type 0 where
  pub variables : length a.sums ≡ n
  pub fresh : a.spent ≡ false
  pub row_is : (j : ℕ) → sum_at a j ≡ sum_over (λ e. e.0 *ℚ e.1.row j) es
  pub bound_is : a.bound ≡ sum_over (λ e. e.0 *ℚ e.1.bound) es
  pub sense_is : HasSense es a.sense
  pub fits : SumOfFits es

-- after an error, over n variables
pub record IsSpent (n : ℕ) (a : Accumulator) : Type 0 where
  pub spent : a.spent ≡ true
  pub variables : length a.sums ≡ n

-- the row, the sense and the right-hand side are those that are held
pub record HoldsSum (a : Accumulator) (row : Row) (s : Sense) (b : ℚ) : Type 0 where
  pub row_is : (j : ℕ) → at row j ≡ sum_at a j
  pub no_zeros : HasNoZeros row
  pub sense_is : s ≡ a.sense
  pub bound_is : b ≡ a.bound

-- ---- as data

pub sense_code : Sense → ℕ
sense_code at_most = 0
sense_code equal = 1
sense_code at_least = 2

pub sense_back : ℕ → Sense
sense_back zero = at_most
sense_back (suc zero) = equal
sense_back (suc (suc n)) = at_least

pub sense_again : (s : Sense) → sense_back (sense_code s) ≡ s
unfolding sense_code sense_back
sense_again at_most = refl
sense_again equal = refl
sense_again at_least = refl

abbrev pub coded_sense : Coded Sense
coded_sense = code_by ℕ coded_ℕ sense_code sense_back sense_again

abbrev pub coded_accumulator : Coded Accumulator
coded_accumulator =
    code_by ((List ℚ × ℚ) × (Sense × Bool))
    (coded× (coded× (coded_list coded_ℚ) coded_ℚ) (coded× coded_sense coded_bool))
    (λ a. ((a.sums, a.bound), (a.sense, a.spent)))
    (λ p. record { sums = p.0.0; bound = p.0.1; sense = p.1.0; spent = p.1.1 }) (λ _. refl)

-- ---- how the entries of a row are added, in their order

abbrev pub with_term : List ℚ → ℚ → ℕ × ℚ → List ℚ
with_term sums m p = slice_set sums p.0 (slice_index_or sums p.0 zero_ℚ +ℚ m *ℚ p.1)

unfoldable pub with_terms : List ℚ → ℚ → List (ℕ × ℚ) → List ℚ
with_terms sums m [] = sums
with_terms sums m (p ∷ ps) = with_terms (with_term sums m p) m ps

unfoldable pub TermsFitIn : List ℚ → ℚ → List (ℕ × ℚ) → Type 0
TermsFitIn sums m [] = Unit {0}
TermsFitIn sums m (p ∷ ps) = TermFits (slice_index_or sums p.0 zero_ℚ) m p.1
    × TermsFitIn (with_term sums m p) m ps
