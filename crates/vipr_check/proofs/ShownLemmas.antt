-- What is shown where a checker stopped is what the definitions show
use Rattle.std.proofs.Common.{◌≡◌, ℕ, ◌+◌, ◌<◌, ◌≤◌, Bool, true, false, List, [], ◌∷◌, ◌++◌}
use Rattle.std.proofs.Common.{length, map, get_or, Option, Some, None, IfSome, Result}
use Rattle.std.proofs.Common.{IfOk, MatchResult, All, Contains, ◌⊎◌, if◌then◌else◌, refl, sym, ◌∙◌}
use Rattle.std.proofs.Common.{ap, inl, inr, arith}
use Rattle.std.specs.{FinSet.contains, List.flat_map, List.range_with_len}
use Rattle.std.proofs.lemmas.List.{length-append, length-map, get_or-map}
use Rattle.std.proofs.lemmas.List.Elements.{All-nil, All-cons, All-tail, All-append, All-map}
use Rattle.std.proofs.lemmas.List.Elements.{All-filter, All-from_recursion}
use Rattle.std.proofs.lemmas.List.FromFn.{length-range_with_len, get_or-range_with_len}
use Rattle.vipr_spec.specs.Constraint.{Profile, Row, at, condition}
use Rattle.vipr_spec.specs.Certificate.{Named, Problem, variables, integer_variables, Claim}
use Rattle.vipr_spec.specs.Certificate.{infeasible, range, primal_bound, objective_at, IsAsGood}
use Rattle.vipr_spec.specs.Certificate.{MeetsPrimal, Reason, asm, lin, rnd, uns, sol, Derivation}
use Rattle.vipr_spec.specs.Certificate.{Certificate}
use Rattle.vipr_spec.specs.Steps.{PassesStep, StepTest, earlier, live, suitable, fitting, roundable}
use Rattle.vipr_spec.specs.Steps.{by_sum, by_rounding, StepDetail, FirstFailing}
use Rattle.vipr_spec.specs.Steps.{reference_tests, entry_tests, sum_tests, step_tests}
use Rattle.vipr_spec.specs.Tests.{SolutionTest, whole_at, value_fits, holds, objective_fits}
use Rattle.vipr_spec.specs.Tests.{PassesSolution, solution_tests, finite_primal, name_at, names_of}
use Rattle.vipr_spec.specs.Tests.{none}
use Rattle.vipr_spec.specs.{Fraction.ℚ, Reading.most_count, Reading.is_nonzero, Shape.ReasonShape}
use Rattle.vipr_linear.specs.{Constraint.constraint_of, declared.constraint.Constraint.Constraint}
use Rattle.vipr_cert.specs.{Items.named_of, declared.items.Named.Named as NamedItem}
use Rattle.vipr_rules.specs.{Apply.StopsIn, declared.error.RuleError.RuleError}
use Rattle.vipr_check.specs.{Halts.rule_shown, Halts.IsTestOf, Shown.halt_shown}
use Rattle.vipr_check.specs.{Shown.state_shown, State.State, State.HaltsBy, declared.halt.Halt.Halt}
use Rattle.vipr_check.specs.{declared.halt.Halt.TheVariants.Memory, declared.halt.Stop.Stop}
use Rattle.vipr_table.specs.Table.{advance_table}
use Rattle.vipr_check.proofs.Failures.{failing_has}

-- ---- the variable or the constraint is one of the problem

all_below : (n : ℕ) → All (λ j. j < n) (range_with_len 0 n)
all_below n i d within =
    let e = length-range_with_len 0 n in
    let g = get_or-range_with_len 0 n i d (omega arith) in
    omega arith

module _ (p : Problem) where
  abbrev at_each : ℕ → List SolutionTest
  at_each i = value_fits i ∷ holds i ∷ []

  each_within : (is : List ℕ) → All (λ i. i < length p.constraints) is → All (IsTestOf p) (flat_map at_each is)
  each_within [] a = All-nil (IsTestOf p)
  each_within (i ∷ is) a =
      let here : i < length p.constraints = a 0 i (omega arith) in
      All-append (IsTestOf p) (at_each i) (flat_map at_each is)
      (All-cons (IsTestOf p) (value_fits i) (holds i ∷ []) here
      (All-cons (IsTestOf p) (holds i) [] here (All-nil (IsTestOf p))))
      (each_within is (All-tail (λ i. i < length p.constraints) i is a))

  all_within : All (IsTestOf p) (solution_tests p)
  all_within =
      All-append (IsTestOf p)
      (map whole_at (integer_variables p)
      ++ flat_map at_each (range_with_len 0 (length p.constraints))) (objective_fits ∷ [])
      (All-append (IsTestOf p) (map whole_at (integer_variables p))
      (flat_map at_each (range_with_len 0 (length p.constraints)))
      (All-map (IsTestOf p) whole_at (integer_variables p)
      (All-filter (contains p.integers) (λ j. j < variables p) (range_with_len 0 (variables p))
      (all_below (variables p))))
      (each_within (range_with_len 0 (length p.constraints)) (all_below (length p.constraints))))
      (All-cons (IsTestOf p) objective_fits [] tt (All-nil (IsTestOf p)))

  pub failing_within : (s : Row) (t : SolutionTest)
      → FirstFailing (PassesSolution p s) (solution_tests p) (Some t) → IsTestOf p t
  failing_within s t h = failing_has (PassesSolution p s) (IsTestOf p) (solution_tests p) t all_within h

-- ---- names

pub name_of_given : (p : Problem) (cons : List (NamedItem Constraint)) (i : ℕ)
    (n : NamedItem Constraint) → map (named_of constraint_of) cons ≡ p.constraints
    → i < length p.constraints
    → (get_or cons i n).name ≡ name_at (names_of p.constraints) i
name_of_given p cons i n same within =
    let as_many : length cons ≡ length p.constraints =
    sym (length-map cons (named_of constraint_of)) ∙ ap length same in
    let named : get_or p.constraints i (named_of constraint_of n) ≡ named_of constraint_of
    (get_or cons i n) = ap (λ cs. get_or cs i (named_of constraint_of n)) (sym same)
    ∙ get_or-map (named_of constraint_of) cons i n _ (omega arith) in
    sym (get_or-map (λ (m : Named _). m.name) p.constraints i (named_of constraint_of n) _ within
    ∙ ap (λ (m : Named _). m.name) named)

-- a copy of one of two same names is the other
pub copy_is : {E : Type 0} (r : Result (List ℕ) E) (x y : List ℕ) (Q : E → Type 0) → x ≡ y
    → MatchResult r (λ copy. copy ≡ x) Q → IfOk r (λ name. name ≡ y)
copy_is r x y Q e h = grind arith

-- ---- the primal bound

abbrev MeetsBound : Problem → List (Named Row) → ℚ → Type 0
MeetsBound p ss v = (s : Named Row) × Contains ss s × IsAsGood p.direction (objective_at p (at s.item)) v

some_bound : (o : Option ℚ) (P : ℚ → Type 0) → ¬ IfSome o P → (bound : ℚ) × (o ≡ Some bound)
some_bound None P n = absurd (n tt)
some_bound (Some bound) P n = (bound, refl)

pub missed_bound : (p : Problem) (ss : List (Named Row)) (k : Claim) → ¬ MeetsPrimal p ss k
    → (bound : ℚ) × (finite_primal p k ≡ Some bound)
missed_bound p ss infeasible n = absurd (n tt)
missed_bound p ss (range lower upper) n = some_bound (primal_bound p.direction lower upper) (MeetsBound p ss) n

-- ---- positions

abbrev Few : List (ℕ × ℚ) → Type 0
Few es = length es ≤ most_count

abbrev FewIn : StepTest → Type 0
FewIn (suitable es) = Few es
FewIn (fitting es) = Few es
FewIn _ = Unit {0}

entries_few : (front es : List (ℕ × ℚ)) → length front + length es ≤ most_count
    → All FewIn (entry_tests front es)
unfolding entry_tests
entries_few front [] h = All-nil FewIn
entries_few front (e ∷ es) h =
    let more = front ++ e ∷ [] in
    let n : length more ≡ length front + 1 = length-append front (e ∷ []) in
    let few : Few more = omega arith in
    All-cons FewIn (suitable more) (fitting more ∷ entry_tests more es) few
    (All-cons FewIn (fitting more) (entry_tests more es) few
    (entries_few more es (omega arith)))

references_few : (es : List (ℕ × ℚ)) → All FewIn (flat_map reference_tests es)
references_few [] = All-nil FewIn
references_few (e ∷ es) = All-append FewIn (reference_tests e) (flat_map reference_tests es)
    (one (is_nonzero e)) (references_few es)
  where
    one : (b : Bool) → All FewIn (if b then earlier e.0 ∷ live e.0 ∷ [] else earlier e.0 ∷ [])
    one true = All-cons FewIn (earlier e.0) (live e.0 ∷ []) tt (All-cons FewIn (live e.0) [] tt (All-nil FewIn))
    one false = All-cons FewIn (earlier e.0) [] tt (All-nil FewIn)

sums_few : (es : List (ℕ × ℚ)) → Few es → All FewIn (sum_tests es)
sums_few es h = All-append FewIn (flat_map reference_tests es) (entry_tests [] es)
    (references_few es) (entries_few [] es (omega arith))

step_few : (r : Reason) → ReasonShape r → All FewIn (step_tests r)
step_few asm h = All-nil FewIn
step_few (lin es) h = All-append FewIn (sum_tests es) (by_sum es ∷ []) (sums_few es h)
    (All-from_recursion FewIn (by_sum es ∷ []) (tt, tt))
step_few (rnd es) h = All-append FewIn (sum_tests es) (roundable es ∷ by_rounding es ∷ [])
    (sums_few es h) (All-from_recursion FewIn (roundable es ∷ by_rounding es ∷ []) (tt, (tt, tt)))
step_few (uns i1 l1 i2 l2) h = All-from_recursion FewIn (step_tests (uns i1 l1 i2 l2))
    (tt, (tt, (tt, (tt, (tt, (tt, (tt, (tt, (tt, (tt, (tt, (tt, (tt, tt)))))))))))))
step_few sol h = All-from_recursion FewIn (step_tests sol) (tt, (tt, tt))

-- ---- derivations

pub stop_shown : (P : Profile) (c : Certificate) (d : Derivation) (e : RuleError)
    (n : ℕ) (y : StepDetail) → ReasonShape d.reason
    → (s : StopsIn P c d (step_tests d.reason) e) → rule_shown e ≡ Some (n, y) → y ≡ s.2.0
stop_shown P c d e n y few (t, first, (x, says, shows)) =
    grind (
      arith,
      failing_has (PassesStep P c (condition d.stated)) FewIn (step_tests d.reason) t
          (step_few d.reason few) first,
    )

-- ---- checkers

pub halted_shown : (k l : State) (h : Halt) (e : Stop) → HaltsBy k h l e
    → state_shown l ≡ halt_shown k.progress.problem (Some h)
halted_shown k l h e halts = by halts.kept
  where
    by : (l ≡ record k { halt = Some h })
        ⊎ ((h ≡ Memory)
        × (l ≡ record k {
          halt = Some h;
          progress = record k.progress { rows = advance_table k.progress.rows };
        }))
        → state_shown l ≡ halt_shown k.progress.problem (Some h)
    by (inl is) = ap state_shown is
    by (inr is) = ap state_shown is.1

pub unshown : (k : State) → k.halt ≡ None → state_shown k ≡ none
unshown k runs = ap (halt_shown k.progress.problem) runs
