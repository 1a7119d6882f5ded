-- The tightened certificate is a proof with the image of the goal as goal, and each of its
-- derivations is needed
use Rattle.std.proofs.Common.{◌≡◌, ℕ, suc, ◌+◌, ◌<◌, ◌≤◌, ◌⊎◌, true, false, List, [], ◌∷◌, map}
use Rattle.std.proofs.Common.{length, filter, Option, Some, None, IsSome, IsSomeAnd, All, arith}
use Rattle.std.proofs.Common.{refl, sym, ◌∙◌, ap, ap₂, subst, inl, inr, ⊎_elim}
use Rattle.std.proofs.lemmas.Bool.{cases_Bool, cases_lt, both_ways}
use Rattle.std.proofs.lemmas.List.{nil_from_length}
use Rattle.std.proofs.lemmas.List.Elements.{All-head, All-tail}
use Rattle.vipr_spec.specs.{ℚ, Profile, Condition, Problem, Claim, infeasible, range, dual_bound}
use Rattle.vipr_spec.specs.{MeetsDual, constraint_at, Reason, asm, lin, rnd, uns, sol, Derivation}
use Rattle.vipr_spec.specs.{reason_at, NamesEarlier, RefersTo, is_live, NeedsGoal, count}
use Rattle.vipr_spec.specs.{ProvesDual, IsProof, GoalIs, IsNeeded, the_goal, referred_to}
use Rattle.vipr_spec.specs.{RefersBack, is_kept, new_index, renumbered_entries, renumbered_reason}
use Rattle.vipr_spec.specs.{renumbered_at, with_new_indices, tightened_certificate, new_goal}
use Rattle.vipr_spec.specs.{IsNeededFor, is_nonzero, Certificate.Certificate}
use Rattle.vipr_spec.proofs.Kept.{index_mono, index_same, kept_all}
use Rattle.vipr_spec.proofs.SmallerSums.{filter_yes, filter_no}
use Rattle.vipr_spec.proofs.Marked.{none_marked, needed_derived, kept_given, kept_derived}
use Rattle.vipr_spec.proofs.Marked.{kept_closed, kept_needed, needed_kept, goal_kept}
use Rattle.vipr_spec.proofs.Places.{new_given, new_derived, old_derived, reason_new, old_of}
use Rattle.vipr_spec.proofs.Smaller.{back_new, refers_at_new, proves_new, proves_old, smaller_proof}
use Rattle.vipr_spec.proofs.{Placed.reason_placed, References.reason_in, References.with_again}

pub back_of_proof : (P : Profile) (c : Certificate) → IsProof P c → RefersBack c
back_of_proof P c p k = by (reason_at c k) refl
  where
    by : (o : Option Reason) → reason_at c k ≡ o → NamesEarlier k (reason_at c k)
    by None e = subst (NamesEarlier k) (sym e) tt
    by (Some r) e = subst (NamesEarlier k) (sym e) (p.steps k r e).earlier

-- what a step of a proof refers to is live
pub live_in_proof : (P : Profile) (c : Certificate) → IsProof P c → (k i : ℕ)
    → RefersTo (reason_at c k) i → is_live c k i ≡ true
live_in_proof P c p k i f = by (reason_at c k) refl
  where
    by : (o : Option Reason) → reason_at c k ≡ o → is_live c k i ≡ true
    by None e = absurd (subst (λ o. RefersTo o i) e f)
    by (Some r) e = (p.steps k r e).references i (subst (λ o. RefersTo o i) e f)

-- ---- a proof, and its goal

goal_there : (P : Profile) (c : Certificate) (goal : Option ℕ) → IsProof P c → GoalIs P c goal
    → NeedsGoal c.problem c.problem.claim → (g : ℕ) × (is_kept c goal g ≡ true) × ProvesDual P c g
goal_there P c None p is n = let d = p.dual n in absurd (is d.0 d.1)
goal_there P c (Some g) p is n = (g, goal_kept c g, is.0)

pub tight_proof : (P : Profile) (c : Certificate) (goal : Option ℕ) → IsProof P c → GoalIs P c goal
    → IsProof P (tightened_certificate c goal)
tight_proof P c goal p is = smaller_proof c (is_kept c goal) (kept_given c goal)
    (kept_closed c goal (back_of_proof P c p)) P p (goal_there P c goal p is)

pub tight_goal : (P : Profile) (c : Certificate) (goal : Option ℕ) → RefersBack c → GoalIs P c goal
    → GoalIs P (tightened_certificate c goal) (new_goal c goal)
tight_goal P c None back is = λ p d.
    let o = old_of c (is_kept c None) (kept_given c None) p d.0 in
    is o.0 (proves_old c (is_kept c None) (kept_given c None) (kept_closed c None back) P o.0 o.1
    o.2 (subst (ProvesDual P (tightened_certificate c None)) (sym o.3) d))
tight_goal P c (Some g) back is = (
  proves_new c (is_kept c (Some g)) (kept_given c (Some g)) (kept_closed c (Some g) back) P g (goal_kept c g) is.0,
  λ p d.
      let o = old_of c (is_kept c (Some g)) (kept_given c (Some g)) p d.0 in
      let old = proves_old c (is_kept c (Some g)) (kept_given c (Some g))
      (kept_closed c (Some g) back) P o.0 o.1 o.2
      (subst (ProvesDual P (tightened_certificate c (Some g))) (sym o.3) d) in
      let l = index_mono (is_kept c (Some g)) g o.0 (is.1 o.0 old) in
      let e = o.3 in omega arith,
)

-- ---- each derivation is needed

needed_new : (c : Certificate) (g : ℕ) → RefersBack c → (i : ℕ) → IsNeeded c g i → IsNeeded
    (tightened_certificate c (Some g)) (new_index (is_kept c (Some g)) g)
    (new_index (is_kept c (Some g)) i)
needed_new c g back i (the_goal h) = the_goal (new_derived c (is_kept c (Some g)) (kept_given c (Some g)) g h)
needed_new c g back i (referred_to {k = k} n r h) =
    referred_to (needed_new c g back k n)
    (refers_at_new c (is_kept c (Some g)) (kept_given c (Some g)) (kept_closed c (Some g) back) k i
    (needed_kept c g k back n) r)
    (new_derived c (is_kept c (Some g)) (kept_given c (Some g)) i h)

pub tight_needed : (c : Certificate) (goal : Option ℕ) → RefersBack c → (p : ℕ)
    → length c.problem.constraints ≤ p → p < count (tightened_certificate c goal)
    → IsNeededFor (tightened_certificate c goal) (new_goal c goal) p
tight_needed c None back p h l = grind (arith, old_of, kept_given, old_derived, both_ways, none_marked, kept_derived)
tight_needed c (Some g) back p h l =
    let o = old_of c (is_kept c (Some g)) (kept_given c (Some g)) p l in
    let e = o.3 in
    let low = old_derived c (is_kept c (Some g)) (kept_given c (Some g)) o.0 (omega arith) in
    subst (IsNeeded (tightened_certificate c (Some g)) (new_index (is_kept c (Some g)) g)) e
    (needed_new c g back o.0 (kept_needed c g o.0 low o.2))

no_more : (c : Certificate) (goal : Option ℕ)
    → ¬ (length c.problem.constraints < count (tightened_certificate c goal))
    → (tightened_certificate c goal).derivations ≡ []
no_more c goal n = nil_from_length (tightened_certificate c goal).derivations
    (⊎_elim (λ (l : 0 < length (tightened_certificate c goal).derivations).
    absurd (n (omega arith))) (λ (l : length (tightened_certificate c goal).derivations ≤ 0).
    omega arith) (cases_lt 0 (length (tightened_certificate c goal).derivations)))

-- nothing is derived where there is no goal, and where the goal is given
pub tight_none : (c : Certificate) → RefersBack c → (tightened_certificate c None).derivations ≡ []
tight_none c back = no_more c None (λ l. tight_needed c None back (length c.problem.constraints) (omega arith) l)

pub tight_given : (c : Certificate) (g : ℕ) → RefersBack c → g < length c.problem.constraints
    → (tightened_certificate c (Some g)).derivations ≡ []
tight_given c g back h = no_more c (Some g) (λ l.
    let m = length c.problem.constraints in
    let n = needed_derived (tightened_certificate c (Some g)) (new_index (is_kept c (Some g)) g) m
    (tight_needed c (Some g) back m (omega arith) l) in
    let e = new_given c (is_kept c (Some g)) (kept_given c (Some g)) g (omega arith) in
    let low : m ≤ new_index (is_kept c (Some g)) g = n.1 in
    absurd (omega arith))

-- ---- once more

-- no entry has the multiplier 0
IsFull : Reason → Type 0
IsFull asm = Unit {0}
IsFull (lin es) = filter is_nonzero es ≡ es
IsFull (rnd es) = filter is_nonzero es ≡ es
IsFull (uns i1 l1 i2 l2) = Unit {0}
IsFull sol = Unit {0}

all_count : (new : ℕ → ℕ) (es : List (ℕ × ℚ))
    → filter is_nonzero (renumbered_entries new es) ≡ renumbered_entries new es
all_count new [] = refl
all_count new (e ∷ es) = by (all_count new es) (cases_Bool (is_nonzero e))
  where
    by : filter is_nonzero (renumbered_entries new es) ≡ renumbered_entries new es
        → (is_nonzero e ≡ true) ⊎ (is_nonzero e ≡ false)
        → filter is_nonzero (renumbered_entries new (e ∷ es)) ≡ renumbered_entries new (e ∷ es)
    by rest (inl t) =
        let f : ℕ × ℚ = (new e.0, e.1) in
        let same : renumbered_entries new (e ∷ es) ≡ f ∷ renumbered_entries new es =
        ap (map (λ (e : ℕ × ℚ). (new e.0, e.1))) (filter_yes is_nonzero e es t) in
        subst (λ l. filter is_nonzero l ≡ l) (sym same)
        (filter_yes is_nonzero f (renumbered_entries new es) t ∙ ap (λ l. f ∷ l) rest)
    by rest (inr n) =
        let same : renumbered_entries new (e ∷ es) ≡ renumbered_entries new es =
        ap (map (λ (e : ℕ × ℚ). (new e.0, e.1))) (filter_no is_nonzero e es n) in
        subst (λ l. filter is_nonzero l ≡ l) (sym same) rest

full_new : (new : ℕ → ℕ) (r : Reason) → IsFull (renumbered_reason new r)
unfolding IsFull
full_new new asm = tt
full_new new (lin es) = all_count new es
full_new new (rnd es) = all_count new es
full_new new (uns i1 l1 i2 l2) = tt
full_new new sol = tt

full_at : (new : ℕ → ℕ) (q : Option Reason) (r : Reason) → renumbered_at new q ≡ Some r → IsFull r
full_at new None r e = absurd (cc)
full_at new (Some q) r e = let same : renumbered_reason new q ≡ r = cc in subst IsFull same (full_new new q)

pairs_same : (new : ℕ → ℕ) (n : ℕ) → ((i : ℕ) → i < n → new i ≡ i) → (es : List (ℕ × ℚ))
    → All (λ e. e.0 < n) es → map (λ e. (new e.0, e.1)) es ≡ es
pairs_same new n same [] a = refl
pairs_same new n same (e ∷ es) a =
    ap₂ (λ i l. (i, e.1) ∷ l) (same e.0 (All-head (λ (e : ℕ × ℚ). e.0 < n) e es a))
    (pairs_same new n same es (All-tail (λ (e : ℕ × ℚ). e.0 < n) e es a))

same_reason : (new : ℕ → ℕ) (n : ℕ) → ((i : ℕ) → i < n → new i ≡ i) → (r : Reason)
    → NamesEarlier n (Some r) → IsFull r → renumbered_reason new r ≡ r
unfolding IsFull
same_reason new n same asm h f = refl
same_reason new n same (lin es) h f = ap (λ l. lin (map (λ (e : ℕ × ℚ). (new e.0, e.1)) l)) f
    ∙ ap lin (pairs_same new n same es h)
same_reason new n same (rnd es) h f = ap (λ l. rnd (map (λ (e : ℕ × ℚ). (new e.0, e.1)) l)) f
    ∙ ap rnd (pairs_same new n same es h)
same_reason new n same (uns i1 l1 i2 l2) h f = ap₂ (λ a b. uns a b (new i2) (new l2)) (same i1 h.0)
    (same l1 h.1) ∙ ap₂ (λ a b. uns i1 l1 a b) (same i2 h.2) (same l2 h.3)
same_reason new n same sol h f = refl

same_derivations : (new : ℕ → ℕ) (ds : List Derivation)
    → ((j : ℕ) (r : Reason) → j < length ds → reason_in ds j ≡ Some r → renumbered_reason new r ≡ r)
    → map (with_new_indices new) ds ≡ ds
same_derivations new [] h = refl
same_derivations new (d ∷ ds) h = ap₂ (λ r xs. record d { reason = r } ∷ xs)
    (h 0 d.reason (omega arith) refl)
    (same_derivations new ds (λ j r l e. h (suc j) r (omega arith) e))

module _ (c : Certificate) (goal : Option ℕ) (back : RefersBack c)
    (again : RefersBack (tightened_certificate c goal)) where
  all_kept : (o : Option ℕ)
      → ((p : ℕ) → length c.problem.constraints ≤ p → p < count (tightened_certificate c goal)
      → IsNeededFor (tightened_certificate c goal) o p) → (i : ℕ)
      → i < count (tightened_certificate c goal) → is_kept (tightened_certificate c goal) o i ≡ true
  all_kept None needed i h = ⊎_elim
      (λ (l : i < length c.problem.constraints). kept_given (tightened_certificate c goal) None i l)
      (λ (l : length c.problem.constraints ≤ i). absurd (needed i l h))
      (cases_lt i (length c.problem.constraints))
  all_kept (Some g) needed i h = ⊎_elim
      (λ (l : i < length c.problem.constraints). kept_given (tightened_certificate c goal) (Some g) i l)
      (λ (l : length c.problem.constraints ≤ i). needed_kept (tightened_certificate c goal) g i again (needed i l h))
      (cases_lt i (length c.problem.constraints))

  all_stay : (i : ℕ) → i < count (tightened_certificate c goal)
      → is_kept (tightened_certificate c goal) (new_goal c goal) i ≡ true
  all_stay = all_kept (new_goal c goal) (tight_needed c goal back)

  stays : (i : ℕ) → i < count (tightened_certificate c goal)
      → new_index (is_kept (tightened_certificate c goal) (new_goal c goal)) i ≡ i
  stays i h = index_same (is_kept (tightened_certificate c goal) (new_goal c goal))
      (count (tightened_certificate c goal)) all_stay i (omega arith)

  reason_full : (j : ℕ) (r : Reason) → j < length (tightened_certificate c goal).derivations
      → reason_in (tightened_certificate c goal).derivations j ≡ Some r → IsFull r
  reason_full j r h e =
      let o = old_of c (is_kept c goal) (kept_given c goal) (length c.problem.constraints + j) (omega arith) in
      full_at (new_index (is_kept c goal)) (reason_at c o.0) r
      (sym (reason_new c (is_kept c goal) (kept_given c goal) o.0 o.2)
      ∙ ap (reason_at (tightened_certificate c goal)) o.3
      ∙ reason_placed (tightened_certificate c goal) j ∙ e)

  reason_early : (j : ℕ) (r : Reason)
      → reason_in (tightened_certificate c goal).derivations j ≡ Some r
      → NamesEarlier (length c.problem.constraints + j) (Some r)
  reason_early j r e = subst (NamesEarlier (length c.problem.constraints + j))
      (reason_placed (tightened_certificate c goal) j ∙ e)
      (again (length c.problem.constraints + j))

  reason_stays : (j : ℕ) (r : Reason) → j < length (tightened_certificate c goal).derivations
      → reason_in (tightened_certificate c goal).derivations j ≡ Some r
      → renumbered_reason (new_index (is_kept (tightened_certificate c goal) (new_goal c goal)))
      r ≡ r
  reason_stays j r h e =
      same_reason (new_index (is_kept (tightened_certificate c goal) (new_goal c goal)))
      (length c.problem.constraints + j) (λ i l. stays i (omega arith)) r (reason_early j r e)
      (reason_full j r h e)

  pub tight_again : tightened_certificate (tightened_certificate c goal)
      (new_goal c goal) ≡ tightened_certificate c goal
  tight_again = grind (arith, kept_all, all_stay, same_derivations, reason_stays, with_again)

pub tight_back : (c : Certificate) (goal : Option ℕ) → RefersBack c
    → RefersBack (tightened_certificate c goal)
tight_back c goal back = back_new c (is_kept c goal) (kept_given c goal) (kept_closed c goal back) back

pub tight_twice : (c : Certificate) (goal : Option ℕ) → RefersBack c
    → tightened_certificate (tightened_certificate c goal) (new_goal c goal)
    ≡ tightened_certificate c goal
tight_twice c goal back = tight_again c goal back (tight_back c goal back)

-- ---- no goal

meets_needs : (P : Profile) (p : Problem) (q : Claim) (goal : Condition) → MeetsDual P p q goal
    → NeedsGoal p q
meets_needs P p infeasible goal m = tt
meets_needs P p (range lower upper) goal m = some_of (dual_bound p.direction lower upper) _ m
  where
    some_of : (o : Option ℚ) (P : ℚ → Type 0) → IsSomeAnd o P → IsSome o
    some_of None P h = absurd h
    some_of (Some x) P h = refl

pub no_goal : (P : Profile) (c : Certificate) → IsProof P c → GoalIs P c None
    → ¬ NeedsGoal c.problem c.problem.claim
no_goal P c p is n = let d = p.dual n in is d.0 d.1

pub unneeded_goal : (P : Profile) (c : Certificate) → ¬ NeedsGoal c.problem c.problem.claim
    → GoalIs P c None
unneeded_goal P c n k d = n (meets_needs P c.problem c.problem.claim (constraint_at c k) d.2)
