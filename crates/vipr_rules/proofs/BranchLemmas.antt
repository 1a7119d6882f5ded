-- What the parts of the tests of two joined branches say of all of them, and what the joined
-- constraint rests on.
use Rattle.std.proofs.Common.{◌≡◌, ◌≢◌, ℕ, Bool, true, false, not, ◌&&◌, nat_eq, List, [], ◌∷◌}
use Rattle.std.proofs.Common.{◌++◌, Option, Some, refl, sym, ap, ap₂, ◌∙◌, subst, inl, inr}
use Rattle.std.proofs.Common.{arith, rules}
use Rattle.std.specs.Prelude.{◌↔◌, ◌⊎◌, IsTrue, Result, Ok, Err, IfOk, OnOk, MatchResult}
use Rattle.std.specs.FinSet.{FinSet, contains, union, remove, contains-remove}
use Rattle.std.specs.{Cmp.nat_cmp_total, Ordering.nat_cmp, Result.result_and}
use Rattle.std.proofs.lemmas.Bool.Decides.{nat_tests}
use Rattle.vipr_spec.specs.Constraint.{Profile, Condition, condition, Ints, IsSplit, Dominates}
use Rattle.vipr_spec.specs.Certificate.{Certificate, Derivation, Reason, asm, uns}
use Rattle.vipr_spec.specs.Certificate.{constraint_at, reason_at, is_assumption}
use Rattle.vipr_spec.specs.Causes as cause
use Rattle.vipr_spec.specs.Steps.{StepTest, assumed, split, by_constraint, step_tests, index, both}
use Rattle.vipr_spec.specs.Steps.{compared}
use Rattle.vipr_linear.specs.{Constraint.condition_of, declared.constraint.Constraint.Constraint}
use Rattle.vipr_rules.specs.declared.error.RuleError.{RuleError}
use Rattle.vipr_rules.specs.declared.error.RuleError.TheVariants.{NotAssumption, Memory}
use Rattle.vipr_rules.specs.Context.{IsKnownAs, IsSetByReason, set_of, is_assumed}
use Rattle.vipr_rules.specs.Apply.{index_tests, named_tests, free_tests, PassesTestsIn, StopsIn, IsNotDominated}
use Rattle.vipr_rules.specs.Apply.{IsRuledBy, shown_by}
use Rattle.vipr_rules.specs.{declared.branches.Branch.Branch, declared.context.Known.Known}
use Rattle.vipr_table.proofs.Laws.{tied_numbers}
use Rattle.vipr_rules.proofs.StepLemmas.{stops_first, stops_second, passes_both, passes_one}
use Rattle.vipr_rules.proofs.StepLemmas.{stops_one}
use Rattle.vipr_rules.proofs.UnionLemmas.{in_union}

-- ---- what is rested on
pub in_remove : (s : FinSet nat_cmp) (l a : ℕ)
    → IsTrue (contains (remove s l) a) ↔ (IsTrue (contains s a) × (a ≢ l))
in_remove s l a = (λ h. out a l (contains s a) (sym same ∙ h), λ h. same ∙ back a l (contains s a) h.0 h.1)
  where
    same : contains (remove s l) a ≡ (not (nat_eq a l) && contains s a)
    same = contains-remove nat_cmp_total s l a ∙ ap (λ b. not b && contains s a) (sym (tied_numbers a l))

    out : (a l : ℕ) (b : Bool) → (not (nat_eq a l) && b) ≡ true → (b ≡ true) × (a ≢ l)
    out a l b h = grind arith

    back : (a l : ℕ) (b : Bool) → b ≡ true → a ≢ l → (not (nat_eq a l) && b) ≡ true
    back a l b h other = grind (arith, nat_tests)

pub joined_set : (c : Certificate) (i1 l1 i2 l2 : ℕ) (k1 k2 : Known) (s t u : FinSet nat_cmp)
    → IsKnownAs c i1 k1 → IsKnownAs c i2 k2
    → s ≡ remove (set_of k1) l1 → t ≡ remove (set_of k2) l2 → u ≡ union s t
    → IsSetByReason c (uns i1 l1 i2 l2) u
joined_set c i1 l1 i2 l2 k1 k2 s t u is1 is2 e1 e2 e = search (rules, in_union, in_remove)

-- ---- one test
assumed_by : (o : Option Reason) → is_assumption o ≡ true → o ≡ Some asm
assumed_by o h = grind arith

module _ (P : Profile) (c : Certificate) (d : Derivation) where
  module _ (l : ℕ) (k : Known) (is : IsKnownAs c l k) where
    pub assumed_passes : is_assumed k ≡ true → PassesTestsIn P c d (assumed l ∷ [])
    assumed_passes h = passes_one P c d (assumed l) (assumed_by (reason_at c l) (sym is.is_assumption ∙ h))

    pub assumed_stops : is_assumed k ≡ false → StopsIn P c d (assumed l ∷ []) (NotAssumption l)
    assumed_stops h = stops_one P c d (assumed l) (NotAssumption l)
        (λ e. let t = sym (ap is_assumption e) ∙ sym is.is_assumption ∙ h in cc)
        (index l, refl, refl)

  module _ (l1 l2 : ℕ) (x y : Constraint) (ints : Ints) (same : c.problem.integers ≡ ints)
      (says_x : condition_of x ≡ constraint_at c l1) (says_y : condition_of y ≡ constraint_at c l2)
    where
      splits : (m n : Ints) (a a' b b' : Condition) → m ≡ n → a ≡ a' → b ≡ b' → IsSplit P m a b → IsSplit P n a' b'
      splits m n a a' b b' e f g h = subst (λ i. IsSplit P i a' b') e
          (subst (λ x. IsSplit P m x b') f (subst (IsSplit P m a) g h))

      pub split_passes : IsSplit P ints (condition_of x) (condition_of y) → PassesTestsIn P c d (split l1 l2 ∷ [])
      split_passes h =
          passes_one P c d (split l1 l2)
          (splits ints c.problem.integers _ _ _ _ (sym same) says_x says_y h)

      pub split_stops : ¬ IsSplit P ints (condition_of x) (condition_of y) → (e : RuleError)
          → shown_by e ≡ Some (cause.not_split, both (condition_of x) (condition_of y))
          → StopsIn P c d (split l1 l2 ∷ []) e
      split_stops bad e is =
          stops_one P c d (split l1 l2) e
          (λ h. bad (splits c.problem.integers ints _ _ _ _ same (sym says_x) (sym says_y) h))
          (both (condition_of x) (condition_of y), is, ap₂ both says_x says_y)

  module _ (i : ℕ) (x y : Constraint) (says_x : condition_of x ≡ constraint_at c i)
      (says_y : condition_of y ≡ condition d.stated) where
    dominates : (a a' b b' : Condition) → a ≡ a' → b ≡ b' → Dominates a b → Dominates a' b'
    dominates a a' b b' f g h = subst (λ x. Dominates x b') f (subst (Dominates a) g h)

    pub constraint_passes : Dominates (condition_of x) (condition_of y) → PassesTestsIn P c d (by_constraint i ∷ [])
    constraint_passes h = passes_one P c d (by_constraint i) (dominates _ _ _ _ says_x says_y h)

    pub constraint_stops : (e : RuleError) → IsNotDominated x y e → StopsIn P c d (by_constraint i ∷ []) e
    constraint_stops e (is, bad) =
        stops_one P c d (by_constraint i) e
        (λ h. bad (dominates _ _ _ _ (sym says_x) (sym says_y) h))
        (compared (condition_of x) (condition_of y), is, ap₂ compared says_x says_y)

    pub constraint_tested : (r : Result (Unit {0}) RuleError)
        → MatchResult r (λ _. Dominates (condition_of x) (condition_of y))
        (λ e. (e ≡ Memory) ⊎ IsNotDominated x y e)
        → MatchResult r (λ _. PassesTestsIn P c d (by_constraint i ∷ []))
        (λ e. (e ≡ Memory) ⊎ StopsIn P c d (by_constraint i ∷ []) e)
    constraint_tested r h = grind (arith, constraint_passes, constraint_stops)

-- ---- all tests
module _ (P : Profile) (c : Certificate) (d : Derivation) (first second : Branch) where
  abbrev reason : Reason
  reason = uns first.conclusion first.assumption second.conclusion second.assumption

  abbrev conclusions : List StepTest
  conclusions = by_constraint first.conclusion ∷ by_constraint second.conclusion ∷ []

  abbrev assumptions : List StepTest
  assumptions = assumed first.assumption ∷ assumed second.assumption ∷ []

  abbrev ends : List StepTest
  ends = assumptions ++ split first.assumption second.assumption ∷ conclusions

  abbrev indices : List StepTest
  indices = named_tests reason

  pub stops_at_index : (e : RuleError) → StopsIn P c d indices e → StopsIn P c d (step_tests reason) e
  stops_at_index e s = stops_first P c d indices ends e s

  pub stops_at_first_conclusion : (e : RuleError) → StopsIn P c d (index_tests first.conclusion) e
      → StopsIn P c d indices e
  stops_at_first_conclusion e s = stops_first P c d (index_tests first.conclusion)
      (index_tests first.assumption ++ index_tests second.conclusion
      ++ index_tests second.assumption) e s

  module _ (p1 : PassesTestsIn P c d (index_tests first.conclusion)) where
    pub stops_at_first_assumption : (e : RuleError) → StopsIn P c d (index_tests first.assumption) e
        → StopsIn P c d indices e
    stops_at_first_assumption e s = stops_second P c d (index_tests first.conclusion)
        (index_tests first.assumption ++ index_tests second.conclusion
        ++ index_tests second.assumption) e p1
        (stops_first P c d (index_tests first.assumption)
        (index_tests second.conclusion ++ index_tests second.assumption) e s)

    module _ (p2 : PassesTestsIn P c d (index_tests first.assumption)) where
      first_branch : PassesTestsIn P c d (index_tests first.conclusion ++ index_tests first.assumption)
      first_branch = passes_both P c d (index_tests first.conclusion) (index_tests first.assumption) p1 p2

      pub stops_at_second_conclusion : (e : RuleError)
          → StopsIn P c d (index_tests second.conclusion) e → StopsIn P c d indices e
      stops_at_second_conclusion e s =
          stops_second P c d (index_tests first.conclusion ++ index_tests first.assumption)
          (index_tests second.conclusion ++ index_tests second.assumption) e first_branch
          (stops_first P c d (index_tests second.conclusion) (index_tests second.assumption) e s)

      module _ (p3 : PassesTestsIn P c d (index_tests second.conclusion)) where
        three : PassesTestsIn P c d (index_tests first.conclusion ++ index_tests first.assumption
            ++ index_tests second.conclusion)
        three = passes_both P c d (index_tests first.conclusion ++ index_tests first.assumption)
            (index_tests second.conclusion) first_branch p3

        pub stops_at_second_assumption : (e : RuleError)
            → StopsIn P c d (index_tests second.assumption) e → StopsIn P c d indices e
        stops_at_second_assumption e s =
            stops_second P c d (index_tests first.conclusion ++ index_tests first.assumption
            ++ index_tests second.conclusion) (index_tests second.assumption) e three s

        pub all_found : PassesTestsIn P c d (index_tests second.assumption) → PassesTestsIn P c d indices
        all_found p4 =
            passes_both P c d (index_tests first.conclusion ++ index_tests first.assumption
            ++ index_tests second.conclusion) (index_tests second.assumption) three p4

  -- each index is that of a constraint
  module _ (found : PassesTestsIn P c d indices) where
    pub stops_unless_first_assumed : (e : RuleError)
        → StopsIn P c d (assumed first.assumption ∷ []) e → StopsIn P c d (step_tests reason) e
    stops_unless_first_assumed e s = stops_second P c d indices ends e found
        (stops_first P c d (assumed first.assumption ∷ [])
        (assumed second.assumption ∷ split first.assumption second.assumption ∷ conclusions) e s)

    module _ (p5 : PassesTestsIn P c d (assumed first.assumption ∷ [])) where
      pub stops_unless_second_assumed : (e : RuleError)
          → StopsIn P c d (assumed second.assumption ∷ []) e → StopsIn P c d (step_tests reason) e
      stops_unless_second_assumed e s = stops_second P c d indices ends e found
          (stops_second P c d (assumed first.assumption ∷ [])
          (assumed second.assumption ∷ split first.assumption second.assumption ∷ conclusions) e p5
          (stops_first P c d (assumed second.assumption ∷ [])
          (split first.assumption second.assumption ∷ conclusions) e s))

      pub free_pass : PassesTestsIn P c d (assumed second.assumption ∷ []) → PassesTestsIn P c d (free_tests reason)
      free_pass p6 = passes_both P c d indices assumptions found
          (passes_both P c d (assumed first.assumption ∷ []) (assumed second.assumption ∷ []) p5 p6)

  -- the tests that need no memory pass
  module _ (free : PassesTestsIn P c d (free_tests reason)) where
    pub stops_unless_split : (e : RuleError)
        → StopsIn P c d (split first.assumption second.assumption ∷ []) e
        → StopsIn P c d (step_tests reason) e
    stops_unless_split e s = stops_second P c d (indices ++ assumptions)
        (split first.assumption second.assumption ∷ conclusions) e free
        (stops_first P c d (split first.assumption second.assumption ∷ []) conclusions e s)

    module _ (p7 : PassesTestsIn P c d (split first.assumption second.assumption ∷ [])) where
      pub stops_unless_first_dominates : (e : RuleError)
          → StopsIn P c d (by_constraint first.conclusion ∷ []) e
          → StopsIn P c d (step_tests reason) e
      stops_unless_first_dominates e s = stops_second P c d (indices ++ assumptions)
          (split first.assumption second.assumption ∷ conclusions) e free
          (stops_second P c d (split first.assumption second.assumption ∷ []) conclusions e p7
          (stops_first P c d (by_constraint first.conclusion ∷ [])
          (by_constraint second.conclusion ∷ []) e s))

      module _ (p8 : PassesTestsIn P c d (by_constraint first.conclusion ∷ [])) where
        pub stops_unless_second_dominates : (e : RuleError)
            → StopsIn P c d (by_constraint second.conclusion ∷ []) e
            → StopsIn P c d (step_tests reason) e
        stops_unless_second_dominates e s =
            stops_second P c d (indices ++ assumptions) (split first.assumption second.assumption ∷ conclusions) e free
            (stops_second P c d (split first.assumption second.assumption ∷ []) conclusions e p7
            (stops_second P c d (by_constraint first.conclusion ∷ [])
            (by_constraint second.conclusion ∷ []) e p8 s))

        pub all_pass : PassesTestsIn P c d (by_constraint second.conclusion ∷ [])
            → PassesTestsIn P c d (step_tests reason)
        all_pass p9 =
            passes_both P c d (indices ++ assumptions) (split first.assumption second.assumption ∷ conclusions) free
            (passes_both P c d (split first.assumption second.assumption ∷ []) conclusions p7
            (passes_both P c d (by_constraint first.conclusion ∷ [])
            (by_constraint second.conclusion ∷ []) p8 p9))

  -- the outcomes of the tests behind the indices, one after another, and then the joined set
  module _ (found : PassesTestsIn P c d indices) where
    pub branches_ruled : (r1 r2 r3 r4 r5 : Result (Unit {0}) RuleError) (joined : Result (FinSet nat_cmp) RuleError)
        → MatchResult r1 (λ _. PassesTestsIn P c d (assumed first.assumption ∷ []))
        (StopsIn P c d (assumed first.assumption ∷ []))
        → MatchResult r2 (λ _. PassesTestsIn P c d (assumed second.assumption ∷ []))
        (StopsIn P c d (assumed second.assumption ∷ []))
        → MatchResult r3 (λ _. PassesTestsIn P c d (split first.assumption second.assumption ∷ []))
        (λ e. (e ≡ Memory) ⊎ StopsIn P c d (split first.assumption second.assumption ∷ []) e)
        → MatchResult r4 (λ _. PassesTestsIn P c d (by_constraint first.conclusion ∷ []))
        (λ e. (e ≡ Memory) ⊎ StopsIn P c d (by_constraint first.conclusion ∷ []) e)
        → MatchResult r5 (λ _. PassesTestsIn P c d (by_constraint second.conclusion ∷ []))
        (λ e. (e ≡ Memory) ⊎ StopsIn P c d (by_constraint second.conclusion ∷ []) e)
        → MatchResult joined (IsSetByReason c reason) (λ e. e ≡ Memory)
        → IsRuledBy P c d reason (result_and (result_and (result_and (result_and (result_and r1 r2) r3) r4) r5) joined)
    branches_ruled (Err e) r2 r3 r4 r5 joined h1 h2 h3 h4 h5 h6 = inr (stops_unless_first_assumed found e h1)
    branches_ruled (Ok u1) (Err e) r3 r4 r5 joined h1 h2 h3 h4 h5 h6 = inr (stops_unless_second_assumed found h1 e h2)
    branches_ruled (Ok u1) (Ok u2) (Err e) r4 r5 joined h1 h2 (inl memory) h4 h5 h6 =
        inl (memory, free_pass found h1 h2)
    branches_ruled (Ok u1) (Ok u2) (Err e) r4 r5 joined h1 h2 (inr stops) h4 h5 h6 =
        inr (stops_unless_split (free_pass found h1 h2) e stops)
    branches_ruled (Ok u1) (Ok u2) (Ok u3) (Err e) r5 joined h1 h2 h3 (inl memory) h5 h6 =
        inl (memory, free_pass found h1 h2)
    branches_ruled (Ok u1) (Ok u2) (Ok u3) (Err e) r5 joined h1 h2 h3 (inr stops) h5 h6 =
        inr (stops_unless_first_dominates (free_pass found h1 h2) h3 e stops)
    branches_ruled (Ok u1) (Ok u2) (Ok u3) (Ok u4) (Err e) joined h1 h2 h3 h4 (inl memory) h6 =
        inl (memory, free_pass found h1 h2)
    branches_ruled (Ok u1) (Ok u2) (Ok u3) (Ok u4) (Err e) joined h1 h2 h3 h4 (inr stops) h6 =
        inr (stops_unless_second_dominates (free_pass found h1 h2) h3 h4 e stops)
    branches_ruled (Ok u1) (Ok u2) (Ok u3) (Ok u4) (Ok u5) (Err e) h1 h2 h3 h4 h5 h6 = inl (h6, free_pass found h1 h2)
    branches_ruled (Ok u1) (Ok u2) (Ok u3) (Ok u4) (Ok u5) (Ok s) h1 h2 h3 h4 h5 h6 =
        (all_pass (free_pass found h1 h2) h3 h4 h5, h6)

-- what follows if all of these tests pass
pub follows_if_all : {S : Type 0} (r1 r2 r3 r4 r5 : Result (Unit {0}) RuleError) (j : Result S RuleError)
    (A1 A2 A3 A4 A5 : Type 0) (B4 B5 : RuleError → Type 0) (Q : S → Type 0)
    → OnOk r1 A1 → OnOk r2 A2 → OnOk r3 A3 → MatchResult r4 (λ _. A4) B4
    → MatchResult r5 (λ _. A5) B5 → (A1 → A2 → A3 → A4 → A5 → IfOk j Q)
    → IfOk (result_and (result_and (result_and (result_and (result_and r1 r2) r3) r4) r5) j) Q
follows_if_all r1 r2 r3 r4 r5 j A1 A2 A3 A4 A5 B4 B5 Q h1 h2 h3 h4 h5 f = grind arith
