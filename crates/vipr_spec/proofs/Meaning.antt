-- A text that spells a proof means what it claims
use Rattle.std.proofs.Common.{◌≡◌, ℕ, zero, suc, ◌<◌, Bool, nat_eq, if◌then◌else◌}
use Rattle.std.proofs.Common.{List, [], ◌∷◌, length, slice_index_or, Option, Some, None, IfSome}
use Rattle.std.proofs.Common.{All, Any, Contains, arith, refl, sym, ◌∙◌, subst}
use Rattle.std.proofs.lemmas.List.Elements.{All-nil, All-cons, All-head, All-tail, All-weaker}
use Rattle.std.proofs.lemmas.List.Elements.{All-contains_itself}
use Rattle.std.proofs.lemmas.List.Folds.{Any-from_list_any, list_any-from_Any}
use Rattle.std.proofs.{lemmas.Bool.eq-eqb, lemmas.Bool.Decides.nat_tests}
use Rattle.std.specs.{FinSet.contains-from_list_nat, List.AllZip}
use Rattle.vipr_spec.specs.Constraint.{Profile, Sense, at_most, equal, at_least, Row, Constraint}
use Rattle.vipr_spec.specs.Constraint.{at, condition, Point, Compares, IsTrueAt, IsInteger}
use Rattle.vipr_spec.specs.Certificate.{Certificate, IsProof, Named, Direction, minimum, maximum}
use Rattle.vipr_spec.specs.Certificate.{Claim, infeasible, range, Problem, variables, IsFeasible}
use Rattle.vipr_spec.specs.Certificate.{IsTrueClaim, IsAttained, IsAsGood, objective_at, dual_bound}
use Rattle.vipr_spec.specs.Certificate.{primal_bound}
use Rattle.vipr_spec.specs.{Fraction.ℚ, Fraction.IsWhole, Grammar.Spells}
use Rattle.vipr_spec.specs.Short as short
use Rattle.vipr_spec.proofs.ShortTexts.{sense_of, is_min, bounds_of, AreOneConstraint}
use Rattle.vipr_spec.proofs.ShortTexts.{AreOneSolution, AreStated, states}
use Rattle.vipr_spec.proofs.{ShortRows.value_at_point, Soundness.claim_true, Stated.spelled_states}

-- ---- lists whose items belong together

module _ {A B : Type 0} (R : A → B → Type 0) (P : A → Type 0) (Q : B → Type 0) where
  all_to : ((a : A) (b : B) → R a b → P a → Q b) → (xs : List A) (ys : List B) → AllZip R xs ys → All P xs → All Q ys
  all_to f [] [] z a = All-nil Q
  all_to f [] (y ∷ ys) z a = absurd z
  all_to f (x ∷ xs) [] z a = absurd z
  all_to f (x ∷ xs) (y ∷ ys) z a = All-cons Q y ys (f x y z.0 (All-head P x xs a))
      (all_to f xs ys z.1 (All-tail P x xs a))

  all_from : ((a : A) (b : B) → R a b → Q b → P a) → (xs : List A) (ys : List B) → AllZip R xs ys → All Q ys → All P xs
  all_from f [] [] z a = All-nil P
  all_from f [] (y ∷ ys) z a = absurd z
  all_from f (x ∷ xs) [] z a = absurd z
  all_from f (x ∷ xs) (y ∷ ys) z a = All-cons P x xs (f x y z.0 (All-head Q y ys a))
      (all_from f xs ys z.1 (All-tail Q y ys a))

module _ {A B : Type 0} (R : A → B → Type 0) (Q : B → Type 0) where
  any_to : (x : A) → ((b : B) → R x b → Q b) → (xs : List A) (ys : List B) → AllZip R xs ys
      → (k : ℕ) → k < length xs → slice_index_or xs k x ≡ x → Any Q ys
  any_to x f [] ys z k l e = absurd (omega (arith, l))
  any_to x f (a ∷ xs) [] z k l e = absurd z
  any_to x f (a ∷ xs) (b ∷ ys) z zero l e = (0, b, omega arith, refl, f b (subst (λ y. R y b) e z.0))
  any_to x f (a ∷ xs) (b ∷ ys) z (suc k) l e =
      let r = any_to x f xs ys z.1 k (omega (arith, l)) e in
      (suc r.0, r.1, omega (arith, r.2), r.3, r.4)

-- ---- constraints

says : (s : Sense) (v b : ℚ) → Compares s v b → short.Compares (sense_of s) v b
says at_most v b h = h
says equal v b h = h
says at_least v b h = h

said : (s : Sense) (v b : ℚ) → short.Compares (sense_of s) v b → Compares s v b
said at_most v b h = h
said equal v b h = h
said at_least v b h = h

true_to : (n : ℕ) (c : Named Constraint) (d : short.Constraint) (v w : ℚ) → AreOneConstraint n c d
    → v ≡ w → Compares c.item.sense v c.item.bound → short.Compares d.sense w d.bound
true_to n c d v w r e h = grind (arith, says)

true_from : (n : ℕ) (c : Named Constraint) (d : short.Constraint) (v w : ℚ) → AreOneConstraint n c d
    → v ≡ w → short.Compares d.sense w d.bound → Compares c.item.sense v c.item.bound
true_from n c d v w r e h = grind (arith, said)

-- ---- points

module _ (p : Problem) (ss : List (Named Row)) (q : short.Problem) (qs : List short.Row) (m : AreStated p ss q qs) where
  feasible_from : (x : Point) → short.IsFeasible q x → IsFeasible p x
  feasible_from x f = record {
    whole = λ j i.
        let t = Any-from_list_any (λ y. nat_eq y j) q.integers
        (sym (contains-from_list_nat q.integers j) ∙ subst (λ s. IsInteger s j) m.integers i) in
        let same : t.1 ≡ j = grind (arith, nat_tests, t.4) in
        subst (λ k. IsWhole (x k)) (t.3 ∙ same) (f.0 t.0 t.1 t.2);
    meets = all_from (AreOneConstraint (variables p))
        (λ c. IsTrueAt (variables p) (condition c.item) x) (λ d. short.IsTrueAt d x)
        (λ c d r. true_from (variables p) c d _ _ r (r.row.value x)) p.constraints q.constraints
        m.constraints f.1;
  }

  feasible_at : (s : Named Row) (t : short.Row) → AreOneSolution (variables p) s t
      → IsFeasible p (at s.item) → short.IsFeasible q (short.point_of t)
  feasible_at s t r f = (
    All-weaker (Contains q.integers) (λ j. IsWhole (short.point_of t j)) (λ j h.
        grind (arith, contains-from_list_nat q.integers j, list_any-from_Any, eq-eqb j j))
        q.integers (All-contains_itself q.integers),
    all_to (AreOneConstraint (variables p))
        (λ c. IsTrueAt (variables p) (condition c.item) (at s.item))
        (λ d. short.IsTrueAt d (short.point_of t))
        (λ c d r'. true_to (variables p) c d _ _ r'
        (value_at_point (variables p) c.item.row s.item d.row t r'.row r)) p.constraints
        q.constraints m.constraints f.meets,
  )

  -- ---- the claim

  abbrev Dual : Bool → Option ℚ → Option ℚ → Type 0
  Dual b lower upper = IfSome (if b then lower else upper) (λ v. (x : Point) → short.IsFeasible q x
      → short.IsAsGood b v (short.value q.objective x))

  abbrev Primal : Bool → Option ℚ → Option ℚ → Type 0
  Primal b lower upper = IfSome (if b then upper else lower)
      (λ v. Any (λ s. short.IsFeasible q (short.point_of s)
      × short.IsAsGood b (short.value q.objective (short.point_of s)) v) qs)

  as_good : (d : Direction) (v w : ℚ) → IsAsGood d v w → short.IsAsGood (is_min d) v w
  as_good d v w h = grind arith

  dual : (d : Direction) → p.direction ≡ d → (o : Option ℚ)
      → IfSome o (λ v. (x : Point) → IsFeasible p x → IsAsGood p.direction v (objective_at p x))
      → IfSome o (λ v. (x : Point) → short.IsFeasible q x → short.IsAsGood (is_min d) v (short.value q.objective x))
  dual d e None h = tt
  dual d e (Some v) h = λ x f.
      as_good d v (short.value q.objective x)
      (subst (λ d. IsAsGood d v (short.value q.objective x)) e
      (subst (IsAsGood p.direction v) (m.objective.value x) (h x (feasible_from x f))))

  primal : (d : Direction) → p.direction ≡ d → (o : Option ℚ) → IfSome o (IsAttained p ss)
      → IfSome o (λ v. Any (λ s. short.IsFeasible q (short.point_of s) × short.IsAsGood (is_min d)
      (short.value q.objective (short.point_of s)) v) qs)
  primal d e None h = tt
  primal d e (Some v) h =
      any_to (AreOneSolution (variables p)) (λ s. short.IsFeasible q (short.point_of s)
      × short.IsAsGood (is_min d) (short.value q.objective (short.point_of s)) v) h.0
      (λ t r. (
        feasible_at h.0 t r h.2,
        as_good d (short.value q.objective (short.point_of t)) v
            (subst (λ d. IsAsGood d (short.value q.objective (short.point_of t)) v) e
            (subst (λ w. IsAsGood p.direction w v)
            (value_at_point (variables p) p.objective h.0.item q.objective t m.objective r)
            h.3)),
      )) ss qs m.solutions h.1.0 h.1.1 h.1.2

  bounds : (d : Direction) → p.direction ≡ d → (lower upper : Option ℚ)
      → IfSome (dual_bound d lower upper) (λ v. (x : Point) → IsFeasible p x
      → IsAsGood p.direction v (objective_at p x))
      → IfSome (primal_bound d lower upper) (IsAttained p ss)
      → Dual (is_min d) lower upper × Primal (is_min d) lower upper
  bounds minimum e lower upper h k = (dual minimum e lower h, primal minimum e upper k)
  bounds maximum e lower upper h k = (dual maximum e upper h, primal maximum e lower k)

  holds : (k : Claim) → IsTrueClaim p ss k → short.Holds q qs (bounds_of k)
  holds infeasible h = λ x f. h x (feasible_from x f)
  holds (range lower upper) h = subst (λ b. Dual b lower upper × Primal b lower upper)
      (sym m.is_min) (bounds p.direction refl lower upper h.0 h.1)

pub proofs_mean : (P : Profile) (bytes : List ℕ) (c : Certificate) → Spells bytes c → IsProof P c
    → short.Means bytes
proofs_mean P bytes c s h =
    let t = states bytes c.problem c.solutions (spelled_states bytes c s) in (
      t.0,
      t.1,
      t.2,
      subst (short.Holds t.0 t.1) (sym t.3.bounds)
          (holds c.problem c.solutions t.0 t.1 t.3 c.problem.claim (claim_true P c h)),
    )
