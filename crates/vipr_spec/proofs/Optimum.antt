-- max x, where x is whole and 2 x ≤ 3, is 1: by rounding, by two branches, and by the listed
-- solution
use Rattle.std.proofs.Common.{◌≡◌, ℕ, zero, suc, ◌<◌, ◌==◌, ◌||◌, [], ◌∷◌, Some, None, pos, All}
use Rattle.std.proofs.Common.{Contains, false, cond, arith, refl, sym, ◌∙◌, ap, ap₂, subst, inl}
use Rattle.std.proofs.Common.{inr, slice_index_or, IsTrue, lit<, lit≤, unwrap_or, zero-lt-suc}
use Rattle.std.proofs.lemmas.List.Elements.{All-nil, All-cons}
use Rattle.std.proofs.{lemmas.Bool.Decides.nat_tests, lemmas.Int.ints}
use Rattle.std.specs.{Cmp.nat_cmp_total, Cmp.unsigned_tied, FinMap.empty, FinMap.insert}
use Rattle.std.specs.{FinMap.get-empty, FinMap.get-insert, FinSet.contains-insert, Ordering.nat_cmp}
use Rattle.std.specs.FinSet as set
use Rattle.vipr_spec.specs.Examples.{row, twice, first_variable, optimum}
use Rattle.vipr_spec.specs.{gcd, ℚ, over, whole, zero_ℚ, ◌+ℚ◌, ◌*ℚ◌, neg_ℚ, ◌≤ℚ◌, IsWhole}
use Rattle.vipr_spec.specs.{ProductFits, SumFits, Profile, one, two, at_most, at_least, at, Row}
use Rattle.vipr_spec.specs.{Condition, Entry, pull, IsInteger, IsWholeRow, HasSense, sum_of}
use Rattle.vipr_spec.specs.{RoundsTo, CombinesRounded, TermsFit, SumOfFits, value, ValueFits, Named}
use Rattle.vipr_spec.specs.{maximum, objective_at, Reason, rnd, uns, sol, asm, constraint_at}
use Rattle.vipr_spec.specs.{IsBest, IsAsGoodAt, IsFeasible, SolutionFits, IsProof, IsGoodStep}
use Rattle.vipr_spec.specs.{HasGoodSteps, is_live, RestsOnNothing, Constraint.Constraint}
use Rattle.vipr_spec.proofs.Fractions.{whole-mul, whole-le, over-mul, over-le, over_same, is_neg}
use Rattle.vipr_spec.proofs.Fractions.{is_over, is_zero, le_in, le_out, le_refl_ℚ, le_of_eq_ℚ}
use Rattle.vipr_spec.proofs.Fractions.{zero-add_ℚ, add-zero_ℚ, mul-zero_ℚ, IsWhole-zero}
use Rattle.vipr_spec.proofs.{Goals.proof_two, Rests.rests_out, Soundness.as_good_refl}

-- ---- the rows

at_is : (q : ℚ) (j : ℕ)
    → at (insert {R = nat_cmp} empty 0 q) j ≡ unwrap_or (cond (j == 0) (Some q) None) zero_ℚ
at_is q j = ap (λ o. unwrap_or o zero_ℚ) (get-insert nat_cmp_total empty 0 q j
    ∙ ap₂ (λ b o. cond b (Some q) o) (unsigned_tied j 0) (get-empty nat_cmp j))

later : (j : ℕ) → (suc j == 0) ≡ false
later j = grind (arith, nat_tests)

past : (q : ℚ) (j : ℕ) → at (insert {R = nat_cmp} empty 0 q) (suc j) ≡ zero_ℚ
past q j = at_is q (suc j) ∙ ap (λ b. unwrap_or (cond b (Some q) None) zero_ℚ) (later j)

pub row_first : at row 0 ≡ whole (pos 1)
unfolding row
row_first = at_is (whole (pos 1)) 0

twice_first : at twice 0 ≡ whole (pos 2)
unfolding twice
twice_first = at_is (whole (pos 2)) 0

row_past : (j : ℕ) → at row (suc j) ≡ zero_ℚ
unfolding row
row_past j = past (whole (pos 1)) j

twice_past : (j : ℕ) → at twice (suc j) ≡ zero_ℚ
unfolding twice
twice_past j = past (whole (pos 2)) j

whole_at : (j : ℕ) → IsWhole (at row j)
whole_at zero = (pos 1, row_first)
whole_at (suc j) = subst IsWhole (sym (row_past j)) IsWhole-zero

is_integer : IsInteger first_variable 0
unfolding first_variable
is_integer = contains-insert nat_cmp_total set.empty 0 0
    ∙ ap (λ b. b || set.contains (set.empty {R = nat_cmp}) 0) (unsigned_tied 0 0)

pub whole_row : IsWholeRow first_variable (at row)
whole_row zero n = (whole_at 0, is_integer)
whole_row (suc j) n = absurd (n (row_past j))

-- ---- the listed solution x = 1

row_value : value 1 (at row) (at row) ≡ whole (pos 1)
row_value = ap₂ (λ a b. zero_ℚ +ℚ a *ℚ b) row_first row_first ∙ zero-add_ℚ _ ∙ whole-mul (pos 1) (pos 1)

twice_value : value 1 (at twice) (at row) ≡ whole (pos 2)
twice_value = ap₂ (λ a b. zero_ℚ +ℚ a *ℚ b) twice_first row_first ∙ zero-add_ℚ _ ∙ whole-mul (pos 2) (pos 1)

abbrev doubled : Named Constraint
doubled = record { name = []; item = record { row = twice; sense = at_most; bound = whole (pos 3) } }

feasible : IsFeasible optimum.problem (at row)
feasible = grind (arith, whole_at, twice_value, whole-le)

abbrev FitsAtOne : ℚ → Type 0
FitsAtOne a = ProductFits a (whole (pos 1)) × SumFits zero_ℚ (a *ℚ whole (pos 1))

one_fits : FitsAtOne (whole (pos 1))
unfolding over gcd ◌+ℚ◌ ◌*ℚ◌
one_fits = ((lit≤ tt, lit≤ tt), (lit≤ tt, lit≤ tt, lit≤ tt, lit≤ tt))

two_fits : FitsAtOne (whole (pos 2))
unfolding over gcd ◌+ℚ◌ ◌*ℚ◌
two_fits = ((lit≤ tt, lit≤ tt), (lit≤ tt, lit≤ tt, lit≤ tt, lit≤ tt))

value_fits : (f : ℕ → ℚ) (a : ℚ) → f 0 ≡ a → FitsAtOne a → ValueFits 1 f (at row)
value_fits f a e h k l = grind (arith, row_first)

solution_fits : SolutionFits optimum.problem (at row)
solution_fits = (
  All-cons (λ c. ValueFits 1 (at c.item.row) (at row)) doubled []
      (value_fits (at twice) (whole (pos 2)) twice_first two_fits)
      (All-nil (λ c. ValueFits 1 (at c.item.row) (at row))),
  value_fits (at row) (whole (pos 1)) row_first one_fits,
)

-- ---- half of 2 x ≤ 3, rounded

abbrev half : ℚ
half = over (pos 1) 2

abbrev entry : Entry
entry = (half, record { row = at twice; sense = at_most; bound = whole (pos 3) })

half_two : half *ℚ whole (pos 2) ≡ whole (pos 1)
half_two = over-mul (pos 1) (pos 2) 2 1 (lit< tt) (lit< tt) ∙ (over_same (pos 2) (pos 1) 2 1 (lit< tt) (lit< tt)).1 refl

sum_row : (j : ℕ) → half *ℚ at twice j +ℚ zero_ℚ ≡ at row j
sum_row zero = add-zero_ℚ _ ∙ ap (λ a. half *ℚ a) twice_first ∙ half_two ∙ sym row_first
sum_row (suc j) = add-zero_ℚ _ ∙ ap (λ a. half *ℚ a) (twice_past j) ∙ mul-zero_ℚ _ ∙ sym (row_past j)

sum_bound : half *ℚ whole (pos 3) +ℚ zero_ℚ ≡ over (pos 3) 2
sum_bound = add-zero_ℚ _ ∙ over-mul (pos 1) (pos 3) 2 1 (lit< tt) (lit< tt)

sum_is : sum_of (entry ∷ []) at_most
    ≡ record { row = at row; sense = at_most; bound = over (pos 3) 2 }
sum_is = λ i. record { row = λ j. sum_row j i; sense = at_most; bound = sum_bound i }

pull_below : neg_ℚ half ≤ℚ zero_ℚ
pull_below = le_in _ _ _ _ _ _ (is_neg _ _ _ (is_over (pos 1) 2 (lit< tt)))
    (is_zero 1 (zero-lt-suc 0)) (omega (arith, ints))

pull_not_above : ¬ (zero_ℚ ≤ℚ neg_ℚ half)
pull_not_above h =
    let l = le_out _ _ _ _ _ _ (is_zero 1 (zero-lt-suc 0)) (is_neg _ _ _ (is_over (pos 1) 2 (lit< tt))) h in
    omega (arith, ints)

has_sense : HasSense (entry ∷ []) at_most
has_sense = (
  All-cons (λ e. pull e ≤ℚ zero_ℚ) entry [] pull_below (All-nil (λ e. pull e ≤ℚ zero_ℚ)),
  (0, entry, lit< tt, refl, pull_not_above),
)

rounds : RoundsTo at_most (over (pos 3) 2) (pos 1)
rounds = grind (arith, over-le)

abbrev at_most_one : Condition
at_most_one = record { row = at row; sense = at_most; bound = whole (pos 1) }

combines : CombinesRounded first_variable (entry ∷ []) at_most_one
combines = (
  at_most,
  has_sense,
  subst (λ (x : Condition). IsWholeRow first_variable x.row) (sym sum_is) whole_row,
  subst (λ (x : Condition). Rattle.vipr_spec.specs.Constraint.DominatesRounded x at_most_one)
      (sym sum_is) (inr (pos 1, rounds, inr (λ j. refl, inl refl, le_refl_ℚ _))),
)

one_product : (a : ℚ) → ProductFits half a
    → All (λ (t : ℚ × ℚ). ProductFits t.0 t.1) ((half, a) ∷ [])
one_product a h = All-cons (λ (t : ℚ × ℚ). ProductFits t.0 t.1) (half, a) [] h
    (All-nil (λ (t : ℚ × ℚ). ProductFits t.0 t.1))

abbrev HalfFits : ℚ → Type 0
HalfFits a = TermsFit ((half, a) ∷ [])

half_of_two : HalfFits (whole (pos 2))
unfolding over gcd ◌+ℚ◌ ◌*ℚ◌
half_of_two = (one_product (whole (pos 2)) (lit≤ tt, lit≤ tt), ((lit≤ tt, lit≤ tt, lit≤ tt, lit≤ tt), tt))

half_of_three : HalfFits (whole (pos 3))
unfolding over gcd ◌+ℚ◌ ◌*ℚ◌
half_of_three = (one_product (whole (pos 3)) (lit≤ tt, lit≤ tt), ((lit≤ tt, lit≤ tt, lit≤ tt, lit≤ tt), tt))

half_of_none : HalfFits zero_ℚ
unfolding over gcd ◌+ℚ◌ ◌*ℚ◌
half_of_none = (one_product zero_ℚ (lit≤ tt, lit≤ tt), ((lit≤ tt, lit≤ tt, lit≤ tt, lit≤ tt), tt))

half_at : (j : ℕ) → HalfFits (at twice j)
half_at zero = subst HalfFits (sym twice_first) half_of_two
half_at (suc j) = subst HalfFits (sym (twice_past j)) half_of_none

sum_fits : SumOfFits (entry ∷ [])
sum_fits = (half_at, half_of_three)

only : (e : ℕ × ℚ) → Contains ((0, half) ∷ []) e → e.0 ≡ 0
only e m = by m.0 m.1 m.2
  where
    by : (k : ℕ) → k < 1 → slice_index_or ((0, half) ∷ []) k e ≡ e → e.0 ≡ 0
    by zero h p = sym (ap (λ (f : ℕ × ℚ). f.0) p)
    by (suc k) h p = absurd (omega arith)

live : (k i j : ℕ) → i ≡ j → IsTrue (is_live optimum k j) → IsTrue (is_live optimum k i)
live k i j e h = subst (λ n. IsTrue (is_live optimum k n)) (sym e) h

-- ---- the steps

step_rounded : IsGoodStep one optimum 1 (rnd ((0, half) ∷ [])) at_most_one
step_rounded = grind (arith, combines, sum_fits)

step_joined : IsGoodStep one optimum 4 (uns 2 2 1 3) at_most_one
step_joined = record {
  earlier = (lit< tt, lit< tt, lit< tt, lit< tt);
  follows = (
    refl,
    refl,
    (
      inl (record { row = λ j. refl; whole_row = whole_row; senses = (refl, refl); bounds = (pos 0, refl, refl) }),
      inr (λ j. refl, inl refl, whole-le (pos 0) (pos 1) (omega (arith, ints))),
      inr (λ j. refl, inl refl, le_refl_ℚ _),
    ),
  );
  fits = tt;
  references =
      λ i h. elim h [
        | inl e ↦ live 4 i 2 e refl
        | inr h ↦
            elim h [
              | inl e ↦ live 4 i 2 e refl
              | inr h ↦
                  elim h [ inl e ↦ live 4 i 1 e refl | inr e ↦ live 4 i 3 e refl ]
            ]
      ];
}

abbrev listed : Named Row
listed = record { name = []; item = row }

best : IsBest optimum listed
best = (
  (0, lit< tt, refl),
  All-cons (λ t. IsAsGoodAt optimum.problem (at row) (at t.item)) listed
      [] (as_good_refl maximum (objective_at optimum.problem (at row)))
      (All-nil (λ t. IsAsGoodAt optimum.problem (at row) (at t.item))),
)

step_cut_off : IsGoodStep one optimum 5 sol
    (record { row = at row; sense = at_least; bound = whole (pos 1) })
step_cut_off = record {
  earlier = tt;
  follows = (listed, best, inr (λ j. refl, inl refl, le_of_eq_ℚ _ _ (sym row_value)));
  fits = tt;
  references = λ i h. absurd h;
}

step_assumed : (k : ℕ) (d : Condition) → IsGoodStep one optimum k asm d
step_assumed k d = record { earlier = tt; follows = tt; fits = tt; references = λ i h. absurd h }

by_reason : (k : ℕ) (q r : Reason) → IsGoodStep one optimum k q (constraint_at optimum k)
    → Some q ≡ Some r → IsGoodStep one optimum k r (constraint_at optimum k)
by_reason k q r g e =
    let same : q ≡ r = ap (λ o. unwrap_or o r) e in
    subst (λ r. IsGoodStep one optimum k r (constraint_at optimum k)) same g

steps : HasGoodSteps one optimum
steps zero r e = absurd (cc)
steps (suc zero) r e = by_reason 1 _ r step_rounded e
steps (suc (suc zero)) r e = by_reason 2 _ r (step_assumed 2 _) e
steps (suc (suc (suc zero))) r e = by_reason 3 _ r (step_assumed 3 _) e
steps (suc (suc (suc (suc zero)))) r e = by_reason 4 _ r step_joined e
steps (suc (suc (suc (suc (suc zero))))) r e = by_reason 5 _ r step_cut_off e
steps (suc (suc (suc (suc (suc (suc k)))))) r e = absurd (cc)

-- ---- the goal rests on nothing

nothing : RestsOnNothing optimum 4
nothing a r = grind (arith, rests_out)

proof : IsProof one optimum
proof = record {
  solutions = All-cons (λ s. IsFeasible optimum.problem (at s.item)) listed [] feasible
      (All-nil (λ s. IsFeasible optimum.problem (at s.item)));
  solutions_fit = All-cons (λ s. SolutionFits optimum.problem (at s.item)) listed [] solution_fits
      (All-nil (λ s. SolutionFits optimum.problem (at s.item)));
  steps = steps;
  primal = (listed, (0, lit< tt, refl), le_of_eq_ℚ _ _ (sym row_value));
  dual = λ _. (4, (lit< tt, nothing, inr (λ j. refl, inl refl, le_refl_ℚ _)));
}

pub optimal : (P : Profile) → IsProof P optimum
optimal one = proof
optimal two = proof_two optimum proof
