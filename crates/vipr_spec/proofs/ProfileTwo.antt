-- Two certificates that are proofs under profile two, and none under profile one
use Rattle.std.proofs.Common.{◌≡◌, ◌≢◌, ℕ, zero, suc, Some, ℤ, pos, ◌+ℤ◌, ◌≤ℤ◌, ◌⊎◌, IsTrue, arith}
use Rattle.std.proofs.Common.{refl, ap, subst, inl, inr, lit<, unwrap_or, List, []}
use Rattle.std.proofs.{lemmas.Int.ints}
use Rattle.std.specs.{FinMap.get-empty, Ordering.nat_cmp}
use Rattle.vipr_spec.specs.Examples.{first_variable, rounded_bound, split_at_half}
use Rattle.vipr_spec.specs.{over, whole, zero_ℚ, ◌≤ℚ◌, one, two, at_most, at_least, Condition}
use Rattle.vipr_spec.specs.{RoundsTo, IsAbsurd, IsSplit, Profile, Reason, asm, uns, constraint_at}
use Rattle.vipr_spec.specs.{IsProof, IsGoodStep, HasGoodSteps, is_live, RestsOnNothing, MeetsBound}
use Rattle.vipr_spec.specs.{Problem, Derivation, MeetsPrimal, ProvesDual, Certificate.Certificate}
use Rattle.vipr_spec.proofs.Fractions.{over-le, le_refl_ℚ, one_not_zero, not_one}
use Rattle.vipr_spec.proofs.{Optimum.whole_row, Optimum.row_first, Rests.rests_given}

-- ---- one half

half_up : RoundsTo at_least (over (pos 1) 2) (pos 1)
half_up = grind (arith, over-le)

half_down : RoundsTo at_most (over (pos 1) 2) (pos 0)
half_down = grind (arith, over-le)

half_not_whole : (k : ℤ) → over (pos 1) 2 ≢ whole k
half_not_whole k e = grind (arith, over-le (pos 1) k 2 1 (lit< tt) (lit< tt), over-le k (pos 1) 1 2 (lit< tt) (lit< tt))

one_above_half : ¬ (whole (pos 1) ≤ℚ over (pos 1) 2)
one_above_half h = let l = (over-le (pos 1) (pos 1) 1 2 (lit< tt) (lit< tt)).0 h in omega (arith, ints)

-- ---- a proof that lists no solution

abbrev unlisted : Problem → List Derivation → Certificate
unlisted p ds = record { problem = p; solutions = []; derivations = ds }

proof_by_steps : (P : Profile) (p : Problem) (ds : List Derivation) (goal : ℕ)
    → HasGoodSteps P (unlisted p ds) → MeetsPrimal p [] p.claim → ProvesDual P (unlisted p ds) goal
    → IsProof P (unlisted p ds)
proof_by_steps P p ds goal steps primal dual = grind arith

-- ---- the bound of a whole objective

bound_nothing : RestsOnNothing rounded_bound 0
bound_nothing a r = rests_given rounded_bound 0 a refl r

pub bound_two : IsProof two rounded_bound
bound_two = proof_by_steps two _ _ 0 no_steps tt (
  lit< tt,
  bound_nothing,
  inr (whole_row, λ j. refl, inr (pos 1, half_up, inr (λ j. refl, inl refl, le_refl_ℚ _))),
)
  where
    no_steps : HasGoodSteps two rounded_bound
    no_steps zero r e = absurd (cc)
    no_steps (suc k) r e = absurd (cc)

not_dominated : ¬ MeetsBound one rounded_bound.problem (constraint_at rounded_bound 0)
    (whole (pos 1))
not_dominated h = grind (arith, one_not_zero, row_first, one_above_half)

pub bound_one : ¬ IsProof one rounded_bound
bound_one p =
    let d = p.dual refl in
    let e : d.0 ≡ 0 = omega (arith, d.1.0) in
    not_dominated
    (subst (λ k. MeetsBound one rounded_bound.problem (constraint_at rounded_bound k)
    (whole (pos 1))) e d.1.2)

-- ---- the split

absurdity : IsAbsurd (constraint_at split_at_half 0)
absurdity = (λ j. ap (λ o. unwrap_or o zero_ℚ) (get-empty nat_cmp j), not_one)

splits : IsSplit two first_variable (constraint_at split_at_half 1) (constraint_at split_at_half 2)
splits = inl
    (record {
      row = λ j. refl;
      whole_row = whole_row;
      senses = (refl, refl);
      bounds = (pos 0, pos 1, half_down, half_up, whole_bounds);
    })
  where
    whole_bounds : pos 1 ≤ℤ (pos 0 +ℤ pos 1)
    whole_bounds = omega (arith, ints)

live : (i : ℕ) → (i ≡ 0) ⊎ (i ≡ 1) ⊎ (i ≡ 0) ⊎ (i ≡ 2) → IsTrue (is_live split_at_half 3 i)
live i h = grind arith

joined : IsGoodStep two split_at_half 3 (uns 0 1 0 2) (constraint_at split_at_half 3)
joined = grind (arith, splits, absurdity, live)

assumes : (k : ℕ) (d : Condition) → IsGoodStep two split_at_half k asm d
assumes k d = record { earlier = tt; follows = tt; fits = tt; references = λ i h. absurd h }

by_reason : (k : ℕ) (q r : Reason)
    → IsGoodStep two split_at_half k q (constraint_at split_at_half k) → Some q ≡ Some r
    → IsGoodStep two split_at_half k r (constraint_at split_at_half k)
by_reason k q r g e =
    let same : q ≡ r = ap (λ o. unwrap_or o r) e in
    subst (λ r. IsGoodStep two split_at_half k r (constraint_at split_at_half k)) same g

steps : HasGoodSteps two split_at_half
steps zero r e = absurd (cc)
steps (suc zero) r e = by_reason 1 _ r (assumes 1 _) e
steps (suc (suc zero)) r e = by_reason 2 _ r (assumes 2 _) e
steps (suc (suc (suc zero))) r e = by_reason 3 _ r joined e
steps (suc (suc (suc (suc k)))) r e = absurd (cc)

given_nothing : RestsOnNothing split_at_half 0
given_nothing a r = rests_given split_at_half 0 a refl r

pub split_two : IsProof two split_at_half
split_two = proof_by_steps two _ _ 0 steps tt (lit< tt, given_nothing, absurdity)

not_split : ¬ IsSplit one first_variable (constraint_at split_at_half 1)
    (constraint_at split_at_half 2)
not_split h = grind (arith, half_not_whole)

pub split_one : ¬ IsProof one split_at_half
split_one p = not_split (p.steps 3 (uns 0 1 0 2) refl).follows.2.0
