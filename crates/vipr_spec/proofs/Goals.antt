-- Which constraint proves the dual side, the first of them, and what profile two adds
use Rattle.std.proofs.Common.{◌≡◌, ℕ, ◌<◌, ◌≤◌, ◌⊎◌, List, [], ◌∷◌, length, Option, Some, None}
use Rattle.std.proofs.Common.{IsSomeAnd, arith, sym, subst, inl}
use Rattle.std.specs.Prelude.{◌↔◌}
use Rattle.std.proofs.lemmas.Bool.{cases_lt}
use Rattle.vipr_spec.specs.{ℚ, Profile, one, two, Condition, Problem, Claim, infeasible, range}
use Rattle.vipr_spec.specs.{Reason, asm, lin, rnd, uns, sol, dual_bound, Derivation, Known}
use Rattle.vipr_spec.specs.{constraint_at, count, FollowsBy, IsGoodStep, MeetsBound, MeetsDual}
use Rattle.vipr_spec.specs.{ProvesDual, IsProof, IsGoal, GoalIs, with_more, with_next}
use Rattle.vipr_spec.specs.{RefersBack, Certificate.Certificate}
use Rattle.vipr_spec.proofs.Prefix.{known_before, reason_given, count_more, count_next}
use Rattle.vipr_spec.proofs.{Linear.split_two, Rests.rests_given, Steps.rests_more}

-- ---- one derivation after the other
module _ (P : Profile) (c : Certificate) where
  abbrev Meets : Condition → Type 0
  Meets = MeetsDual P c.problem c.problem.claim

  pub dual_given : (k : ℕ) → k < length c.problem.constraints
      → ProvesDual P c k ↔ MeetsDual P c.problem c.problem.claim (constraint_at c k)
  dual_given k h = (λ p. p.2, λ m. (omega arith, λ a. rests_given c k a (reason_given c k h), m))

  pub dual_before : (ds : List Derivation) (k : ℕ) → RefersBack c → k < count c
      → ProvesDual P (with_more c ds) k ↔ ProvesDual P c k
  dual_before ds k back h =
      let e = known_before c ds k h in
      let n = count_more c ds in (
        λ p. (h, λ a r. p.1 a ((rests_more c ds back k a h).1 r), subst (λ (x : Known). Meets x.stated) e p.2),
        λ p. (
          omega arith,
          λ a r. p.1 a ((rests_more c ds back k a h).0 r),
          subst (λ (x : Known). Meets x.stated) (sym e) p.2,
        ),
      )

  -- an index that proves the dual side is an earlier one, or the next
  dual_cases : (d : Derivation) (k : ℕ) → RefersBack c → ProvesDual P (with_next c d) k
      → (ProvesDual P c k × (k < count c)) ⊎ (k ≡ count c)
  dual_cases d k back p = grind (arith, dual_before, count_next, cases_lt)

  pub goal_stays : (d : Derivation) (goal : ℕ) → RefersBack c → GoalIs P c (Some goal)
      → GoalIs P (with_next c d) (Some goal)
  goal_stays d goal back g = grind (arith, dual_before (d ∷ []) goal back g.0.0, dual_cases)

  pub goal_found : (d : Derivation) → RefersBack c → GoalIs P c None
      → ProvesDual P (with_next c d) (count c) → GoalIs P (with_next c d) (Some (count c))
  goal_found d back none p = grind (arith, dual_cases)

  pub goal_missing : (d : Derivation) → RefersBack c → GoalIs P c None
      → ¬ ProvesDual P (with_next c d) (count c) → GoalIs P (with_next c d) None
  goal_missing d back none not k p = grind (arith, dual_cases)

-- ---- profile two takes what profile one does
follows_two : (c : Certificate) (r : Reason) (d : Condition) → FollowsBy one c r d
    → FollowsBy two c r d
follows_two c asm d f = f
follows_two c (lin es) d f = f
follows_two c (rnd es) d f = f
follows_two c (uns i1 l1 i2 l2) d f = (
  f.0,
  f.1,
  (
    split_two one c.problem.integers (constraint_at c l1) (constraint_at c l2) f.2.0,
    f.2.1,
    f.2.2,
  ),
)
follows_two c sol d f = f

pub step_two : (c : Certificate) (k : ℕ) (r : Reason) (d : Condition) → IsGoodStep one c k r d
    → IsGoodStep two c k r d
step_two c k r d g = record {
  earlier = g.earlier;
  follows = follows_two c r d g.follows;
  fits = g.fits;
  references = g.references;
}

meets_two : (p : Problem) (q : Claim) (goal : Condition) → MeetsDual one p q goal
    → MeetsDual two p q goal
meets_two p infeasible goal m = m
meets_two p (range lower upper) goal m = by (dual_bound p.direction lower upper) m
  where
    by : (o : Option ℚ) → IsSomeAnd o (MeetsBound one p goal) → IsSomeAnd o (MeetsBound two p goal)
    by None m = m
    by (Some b) m = inl m

pub dual_two : (c : Certificate) (k : ℕ) → ProvesDual one c k → ProvesDual two c k
dual_two c k p = (p.0, p.1, meets_two c.problem c.problem.claim (constraint_at c k) p.2)

pub proof_two : (c : Certificate) → IsProof one c → IsProof two c
proof_two c p = record {
  solutions = p.solutions;
  solutions_fit = p.solutions_fit;
  steps = λ k r e. step_two c k r (constraint_at c k) (p.steps k r e);
  primal = p.primal;
  dual = λ n. let g = p.dual n in (g.0, dual_two c g.0 g.1);
}

pub goal_two : (c : Certificate) (g h : ℕ) → IsGoal one c g → IsGoal two c h → h ≤ g
goal_two c g h x y = y.1 g (dual_two c g x.0)
