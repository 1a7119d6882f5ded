-- What a checker keeps of the certificate so far stays so, and tells the answer at the end
use Rattle.std.proofs.Common.{◌≡◌, ℕ, zero, suc, ◌<◌, ◌≤◌, max, List, [], ◌∷◌, ◌++◌, map, length}
use Rattle.std.proofs.Common.{slice_index_or, Option, Some, None, Ok, arith, refl, sym, ◌∙◌, ap}
use Rattle.std.proofs.Common.{subst, inl, inr, ⊎_elim}
use Rattle.std.specs.{List.HoldsAt, Prelude.◌↔◌, Prelude.IsSome}
use Rattle.std.proofs.lemmas.Bool.{cases_lt}
use Rattle.vipr_spec.specs.{Profile, Row, condition, Named, Problem, Derivation, Known}
use Rattle.vipr_spec.specs.{given_constraint, constraint_at, MeetsDual, NeedsGoal, ProvesDual}
use Rattle.vipr_spec.specs.{GoalIs, count_held, count, with_next, IsGoodNext, RefersBack, Rest}
use Rattle.vipr_spec.specs.{end_read, meets_dual, verified, answer_of_test, Answers}
use Rattle.vipr_spec.specs.{derivations_from, start, IsChecked, Meets, IsFirstMet, ProvesNext}
use Rattle.vipr_spec.specs.{NextGoal, report_from, Certificate.Certificate, Constraint.Constraint}
use Rattle.vipr_spec.proofs.Steps.{good_without, good_steps_next, refers_back}
use Rattle.vipr_spec.proofs.Reported.{goal_met, goal_missed}
use Rattle.vipr_spec.proofs.Goals.{dual_given, goal_stays, goal_found, goal_missing}
use Rattle.vipr_spec.proofs.{Held.peak_next, Prefix.count_next, Prefix.known_next, Told.answers}
use Rattle.vipr_spec.proofs.Told as known

-- ---- the constraints of the problem

got : (xs : List (Named Constraint)) (i : ℕ) (d : Named Constraint) (none : Known) → i < length xs
    → slice_index_or (map given_constraint xs ++ []) i none
    ≡ given_constraint (slice_index_or xs i d)
got [] i d none h = absurd (omega arith)
got (x ∷ xs) zero d none h = refl
got (x ∷ xs) (suc i) d none h = got xs i d none (omega arith)

given_is : (p : Problem) (ss : List (Named Row)) (i : ℕ) (d : Named Constraint)
    → i < length p.constraints
    → constraint_at (start p ss) i ≡ condition (slice_index_or p.constraints i d).item
given_is p ss i d h = ap (λ (x : Known). x.stated) (got p.constraints i d _ h)

module _ (P : Profile) (p : Problem) (ss : List (Named Row)) where
  any_one : (i : ℕ) → i < length p.constraints → Named Constraint
  any_one i h = first p.constraints h
    where
      first : (l : List (Named Constraint)) → i < length l → Named Constraint
      first [] h = absurd (omega arith)
      first (n ∷ l) h = n

  proves_out : (i : ℕ) → ProvesDual P (start p ss) i → (d : Named Constraint)
      → Meets P p (slice_index_or p.constraints i d)
  proves_out i q d =
      let h : i < length p.constraints = let l = q.0 in
      omega arith in
      subst (MeetsDual P p p.claim) (given_is p ss i d h) ((dual_given P (start p ss) i h).0 q)

  proves_in : (i : ℕ) → i < length p.constraints → HoldsAt (Meets P p) p.constraints i → ProvesDual P (start p ss) i
  proves_in i h m =
      let d = any_one i h in
      (dual_given P (start p ss) i h).1 (subst (MeetsDual P p p.claim) (sym (given_is p ss i d h)) (m d))

  goal_at_start : (goal : Option ℕ) → IsFirstMet P p goal → GoalIs P (start p ss) goal
  goal_at_start None a = λ k q. let h : k < length p.constraints =
      let l = q.0 in
      omega arith in
      let d = any_one k h in
      a k d h (proves_out k q d)
  goal_at_start (Some i) a = (
    proves_in i a.0 a.1,
    λ k q. least k (λ l. let h : k < length p.constraints = let l = a.0 in
        omega arith in let d = any_one k h in a.2 k d (omega arith) l (proves_out k q d)),
  )
    where
      least : (k : ℕ) → ¬ (k < i) → i ≤ k
      least k n = ⊎_elim (λ (l : k < i). absurd (n l)) (λ (l : i ≤ k). l) (cases_lt k i)

  pub checked_start : (goal : Option ℕ) → IsFirstMet P p goal → IsChecked P (start p ss) goal 0
  checked_start goal a = record {
    steps = good_without P (start p ss) refl;
    goal_is = goal_at_start goal a;
    peak_is = refl;
  }

-- ---- the next derivation

proves_next : (P : Profile) (c : Certificate) (d : Derivation)
    → ProvesDual P (with_next c d) (count c) ↔ ProvesNext P c d
proves_next P c d = grind (arith, known_next, count_next)

next_goal : (P : Profile) (c : Certificate) (d : Derivation) (goal next : Option ℕ) → RefersBack c
    → GoalIs P c goal → NextGoal P c d goal next → GoalIs P (with_next c d) next
next_goal P c d (Some g) next b h n = subst (GoalIs P (with_next c d)) (sym n) (goal_stays P c d g b h)
next_goal P c d None next b h (inl n) = subst (GoalIs P (with_next c d)) (sym n.1)
    (goal_found P c d b h ((proves_next P c d).1 n.0))
next_goal P c d None next b h (inr n) = subst (GoalIs P (with_next c d)) (sym n.1)
    (goal_missing P c d b h (λ q. n.0 ((proves_next P c d).0 q)))

pub checked_next : (P : Profile) (c : Certificate) (d : Derivation) (goal next : Option ℕ)
    (most_held : ℕ) → IsChecked P c goal most_held → IsGoodNext P c d → NextGoal P c d goal next
    → IsChecked P (with_next c d) next (max most_held (count_held (with_next c d) (count c)))
checked_next P c d goal next most_held h g n = record {
  steps = (good_steps_next P c d).1 (h.steps, g);
  goal_is = next_goal P c d goal next (refers_back P c h.steps) h.goal_is n;
  peak_is = ap (λ k. max k (count_held (with_next c d) (count c))) h.peak_is ∙ sym (peak_next c d);
}

-- ---- the end

pub checked_verified : (P : Profile) (c : Certificate) (goal : Option ℕ) (most_held : ℕ) (r : Rest)
    → IsChecked P c goal most_held → end_read r ≡ Ok tt
    → (NeedsGoal c.problem c.problem.claim → IsSome goal)
    → Answers P (derivations_from c 0 r) (verified (report_from c goal most_held))
checked_verified P c goal most_held r h e s =
    let m = goal_met P c goal h.goal_is s in
    (known.end_verified P (answers P (verified (report_from c goal most_held))) c r e m.0).1 (
      report_from c goal most_held,
      record {
        claim = refl;
        solutions = refl;
        derived = refl;
        peak = h.peak_is;
        goal = m.1;
      },
      refl,
    )

pub checked_unproved : (P : Profile) (c : Certificate) (most_held : ℕ) (r : Rest)
    → IsChecked P c None most_held → end_read r ≡ Ok tt → NeedsGoal c.problem c.problem.claim
    → Answers P (derivations_from c 0 r) (answer_of_test meets_dual)
checked_unproved P c most_held r h e s =
    (known.end_unproved P (answers P (answer_of_test meets_dual)) c r e
    (goal_missed P c h.goal_is s)).1 refl
