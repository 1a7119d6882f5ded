-- Problems and certificates are stored as tuples of their parts.
use Rattle.std.specs.Prelude.{ℕ, List, Option, ◌≡◌, refl, ◌⊎◌, Bool, true, false}
use Rattle.std.proofs.Common.{inl, inr}
use Rattle.std.specs.Coded.{Coded, code_by, coded×, coded⊎, coded_ℕ, coded_bool, coded_list}
use Rattle.std.specs.Coded.{coded_option}
use Rattle.std.specs.FinMap as map
use Rattle.std.specs.FinSet as set
use Rattle.vipr_spec.specs.Fraction.{ℚ, coded_ℚ}
use Rattle.vipr_spec.specs.Constraint.{Sense, Row, Ints, Constraint}
use Rattle.vipr_spec.specs.Certificate.{Name, Named, Direction, minimum, maximum, Claim, infeasible}
use Rattle.vipr_spec.specs.Certificate.{range, Problem, Reason, asm, lin, rnd, uns, sol, Derivation}
use Rattle.vipr_spec.specs.Certificate.{Certificate}
use Rattle.vipr_linear.specs.Accumulator.{coded_sense}

abbrev pub name_code : Coded Name
name_code = coded_list coded_ℕ

abbrev pub row_code : Coded Row
row_code = map.code coded_ℕ coded_ℚ

abbrev pub ints_code : Coded Ints
ints_code = set.code coded_ℕ

abbrev pub named_code : {A : Type 0} → Coded A → Coded (Named A)
named_code {A} item =
    code_by (Name × A) (coded× name_code item) (λ n. (n.name, n.item))
    (λ p. record { name = p.0; item = p.1 }) (λ _. refl)

abbrev pub constraint_code : Coded Constraint
constraint_code =
    code_by (Row × (Sense × ℚ)) (coded× row_code (coded× coded_sense coded_ℚ))
    (λ c. (c.row, (c.sense, c.bound))) (λ p. record { row = p.0; sense = p.1.0; bound = p.1.1 })
    (λ _. refl)

abbrev is_minimum : Direction → Bool
is_minimum minimum = true
is_minimum maximum = false

abbrev direction_from : Bool → Direction
direction_from true = minimum
direction_from false = maximum

pub direction_again : (d : Direction) → direction_from (is_minimum d) ≡ d
direction_again minimum = refl
direction_again maximum = refl

abbrev pub direction_code : Coded Direction
direction_code = code_by Bool coded_bool is_minimum direction_from direction_again

abbrev bounds_of : Claim → Bool ⊎ (Option ℚ × Option ℚ)
bounds_of infeasible = inl true
bounds_of (range lower upper) = inr (lower, upper)

abbrev claim_from : Bool ⊎ (Option ℚ × Option ℚ) → Claim
claim_from (inl b) = infeasible
claim_from (inr bounds) = range bounds.0 bounds.1

pub claim_again : (c : Claim) → claim_from (bounds_of c) ≡ c
claim_again infeasible = refl
claim_again (range lower upper) = refl

abbrev pub claim_code : Coded Claim
claim_code =
    code_by (Bool ⊎ (Option ℚ × Option ℚ))
    (coded⊎ coded_bool (coded× (coded_option coded_ℚ) (coded_option coded_ℚ))) bounds_of claim_from
    claim_again

abbrev pub problem_code : Coded Problem
problem_code =
    code_by ((List Name × Ints) × ((Direction × Row) × ((List (Named Constraint) × ℕ) × Claim)))
    (coded× (coded× (coded_list name_code) ints_code) (coded× (coded× direction_code row_code)
    (coded× (coded× (coded_list (named_code constraint_code)) coded_ℕ) claim_code)))
    (λ p. (
      (p.names, p.integers),
      ((p.direction, p.objective), ((p.constraints, p.bound_count), p.claim)),
    ))
    (λ t. record {
      names = t.0.0;
      integers = t.0.1;
      direction = t.1.0.0;
      objective = t.1.0.1;
      constraints = t.1.1.0.0;
      bound_count = t.1.1.0.1;
      claim = t.1.1.1;
    })
    (λ _. refl)

-- ---- certificates

abbrev Indices : Type 0
Indices = (ℕ × ℕ) × (ℕ × ℕ)

abbrev Entries : Type 0
Entries = List (ℕ × ℚ)

abbrev reason_parts : Reason → (Bool ⊎ Indices) ⊎ (Entries ⊎ Entries)
reason_parts asm = inl (inl true)
reason_parts sol = inl (inl false)
reason_parts (uns i1 l1 i2 l2) = inl (inr ((i1, l1), (i2, l2)))
reason_parts (lin es) = inr (inl es)
reason_parts (rnd es) = inr (inr es)

abbrev reason_from : (Bool ⊎ Indices) ⊎ (Entries ⊎ Entries) → Reason
reason_from (inl (inl true)) = asm
reason_from (inl (inl false)) = sol
reason_from (inl (inr x)) = uns x.0.0 x.0.1 x.1.0 x.1.1
reason_from (inr (inl es)) = lin es
reason_from (inr (inr es)) = rnd es

pub reason_again : (r : Reason) → reason_from (reason_parts r) ≡ r
reason_again asm = refl
reason_again sol = refl
reason_again (uns i1 l1 i2 l2) = refl
reason_again (lin es) = refl
reason_again (rnd es) = refl

abbrev pub entries_code : Coded Entries
entries_code = coded_list (coded× coded_ℕ coded_ℚ)

abbrev pub reason_code : Coded Reason
reason_code =
    code_by ((Bool ⊎ Indices) ⊎ (Entries ⊎ Entries))
    (coded⊎ (coded⊎ coded_bool (coded× (coded× coded_ℕ coded_ℕ) (coded× coded_ℕ coded_ℕ)))
    (coded⊎ entries_code entries_code))
    reason_parts reason_from reason_again

abbrev pub derivation_code : Coded Derivation
derivation_code =
    code_by ((Name × Constraint) × (Reason × Option ℕ))
    (coded× (coded× name_code constraint_code) (coded× reason_code (coded_option coded_ℕ)))
    (λ d. ((d.name, d.stated), (d.reason, d.last)))
    (λ t. record { name = t.0.0; stated = t.0.1; reason = t.1.0; last = t.1.1 }) (λ _. refl)

abbrev pub certificate_code : Coded Certificate
certificate_code =
    code_by (Problem × (List (Named Row) × List Derivation)) (coded× problem_code
    (coded× (coded_list (named_code row_code)) (coded_list derivation_code)))
    (λ c. (c.problem, (c.solutions, c.derivations)))
    (λ t. record { problem = t.0; solutions = t.1.0; derivations = t.1.1 }) (λ _. refl)
