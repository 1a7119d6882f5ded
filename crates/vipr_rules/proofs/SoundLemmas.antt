-- What the rows of a table show at a point, under the assumptions of a set.
use Rattle.std.proofs.Common.{◌≡◌, ◌≢◌, ℕ, Bool, nat_eq, true, false, refl, sym, subst, inl, inr}
use Rattle.std.proofs.Common.{arith}
use Rattle.std.specs.FinSet.{FinSet, contains, union, remove}
use Rattle.std.specs.{Ordering.nat_cmp, Prelude.◌⊎◌, Prelude.IsTrue}
use Rattle.std.proofs.lemmas.Bool.Decides.{nat_tests}
use Rattle.vipr_spec.specs.Constraint.{Profile, Condition, Point, Ints, IsTrueAt, IsSplit}
use Rattle.vipr_spec.specs.Constraint.{Dominates}
use Rattle.vipr_spec.proofs.Laws.{IsWholePoint, uns_true}
use Rattle.vipr_rules.specs.Soundness.{IsTrueUnder}
use Rattle.vipr_rules.proofs.{BranchLemmas.in_remove, UnionLemmas.in_union}

-- what is stated at each index of the set is true at x
abbrev pub AreTrue : ℕ → (ℕ → Condition) → FinSet nat_cmp → Point → Type 0
AreTrue n says s x = (a : ℕ) → IsTrue (contains s a) → IsTrueAt n (says a) x

module _ (n : ℕ) (says : ℕ → Condition) (x : Point) where
  pub true_left : (s t u : FinSet nat_cmp) → u ≡ union s t → AreTrue n says u x → AreTrue n says s x
  true_left s t u e h a m = h a (subst (λ v. IsTrue (contains v a)) (sym e) ((in_union s t a).1 (inl m)))

  pub true_right : (s t u : FinSet nat_cmp) → u ≡ union s t → AreTrue n says u x → AreTrue n says t x
  true_right s t u e h a m = h a (subst (λ v. IsTrue (contains v a)) (sym e) ((in_union s t a).1 (inr m)))

  either : (i j : ℕ) → (i ≡ j) ⊎ (i ≢ j)
  either i j = by (nat_eq i j) refl
    where
      same : nat_eq i j ≡ true → i ≡ j
      same h = grind (arith, nat_tests)

      apart : nat_eq i j ≡ false → i ≢ j
      apart h e = grind (arith, nat_tests)

      by : (b : Bool) → nat_eq i j ≡ b → (i ≡ j) ⊎ (i ≢ j)
      by b h = grind arith

  -- what follows in a branch, where what the branch assumes is true
  branch_true : (s r : FinSet nat_cmp) (l : ℕ) (a from : Condition) → says l ≡ a → r ≡ remove s l
      → IsTrueUnder n says s from x → AreTrue n says r x → IsTrueAt n a x → IsTrueAt n from x
  branch_true s r l a from is e under h t = under (λ b m. elim (either b l) [
    | inl same ↦ subst (λ i. IsTrueAt n (says i) x) (sym same) (subst (λ d. IsTrueAt n d x) (sym is) t)
    | inr apart ↦ h b (subst (λ v. IsTrue (contains v b)) (sym e) ((in_remove s l b).1 (m, apart)))
  ])

  pub branches_true : (P : Profile) (integers : Ints) (s1 s2 r1 r2 u : FinSet nat_cmp) (l1 l2 : ℕ)
      (a1 a2 from1 from2 d : Condition)
      → says l1 ≡ a1 → says l2 ≡ a2 → r1 ≡ remove s1 l1 → r2 ≡ remove s2 l2 → u ≡ union r1 r2
      → IsTrueUnder n says s1 from1 x → IsTrueUnder n says s2 from2 x
      → IsSplit P integers a1 a2 → Dominates from1 d → Dominates from2 d → IsWholePoint integers x
      → IsTrueUnder n says u d x
  branches_true P integers s1 s2 r1 r2 u l1 l2 a1 a2 from1 from2 d is1 is2 e1 e2 e under1 under2
      split dom1 dom2 whole h =
      uns_true P integers n x a1 a2 from1 from2 d (split, dom1, dom2) whole
      (branch_true s1 r1 l1 a1 from1 is1 e1 under1 (true_left r1 r2 u e h))
      (branch_true s2 r2 l2 a2 from2 is2 e2 under2 (true_right r1 r2 u e h))
