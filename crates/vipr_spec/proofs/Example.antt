-- x ≥ 1 and x ≤ 0 have no point: a proof by the difference of the two
use Rattle.std.proofs.Common.{◌≡◌, ℕ, zero, suc, ◌<◌, ◌⊎◌, [], ◌∷◌, ℤ, pos, negsuc, All}
use Rattle.std.proofs.Common.{Contains, arith, refl, sym, ◌∙◌, ap, subst}
use Rattle.std.proofs.Common.{inl, inr, ⊎_elim, slice_index_or, IsTrue, lit<, lit≤, unwrap_or}
use Rattle.std.proofs.{lemmas.Int.ints, lemmas.List.Elements.All-nil, lemmas.List.Elements.All-cons}
use Rattle.std.specs.FinMap.{empty, get-empty, get-insert}
use Rattle.std.specs.{Cmp.nat_cmp_total, Ordering.nat_cmp}
use Rattle.vipr_spec.specs.{gcd, ℚ, over, whole, zero_ℚ, ◌+ℚ◌, ◌*ℚ◌, neg_ℚ, ◌≤ℚ◌, ProductFits}
use Rattle.vipr_spec.specs.{Profile, at_most, at_least, at, Entry, pull, Combines, TermsFit}
use Rattle.vipr_spec.specs.{SumOfFits, constraint_at, entries, lin, IsProof, IsGoodStep}
use Rattle.vipr_spec.specs.{HasGoodSteps, is_live, RestsOn, itself, RestsOnNothing}
use Rattle.vipr_spec.specs.Examples.{row, both, example, assumed}
use Rattle.vipr_spec.proofs.Fractions.{whole-add, whole-mul, whole-le, is_one, is_neg, not_one}
use Rattle.vipr_spec.proofs.Fractions.{is_whole, mul-zero_ℚ, add-mul_ℚ, zero-mul_ℚ, add-zero_ℚ}
use Rattle.vipr_spec.proofs.Rests.{rests_out, rests_given}

at_row : (j : ℕ) → (at row j ≡ whole (pos 1)) ⊎ (at row j ≡ zero_ℚ)
unfolding row
at_row j = rw (get-insert nat_cmp_total, get-empty nat_cmp) (grind arith)

difference : (a : ℚ) → whole (pos 1) *ℚ a +ℚ (whole (negsuc 0) *ℚ a +ℚ zero_ℚ) ≡ zero_ℚ
difference a = ap (λ z. whole (pos 1) *ℚ a +ℚ z) (add-zero_ℚ _) ∙ sym (add-mul_ℚ _ _ a)
    ∙ ap (λ z. z *ℚ a) (whole-add (pos 1) (negsuc 0)) ∙ zero-mul_ℚ a

neg_minus_one : neg_ℚ (whole (negsuc 0)) ≡ whole (pos 1)
neg_minus_one = is_one _ _ _ _ (is_neg _ _ _ (is_whole (negsuc 0))) (is_whole (pos 1))

one_positive : zero_ℚ ≤ℚ whole (pos 1)
one_positive = whole-le (pos 0) (pos 1) (omega (arith, ints))

first : Entry
first = (whole (pos 1), record { row = at row; sense = at_least; bound = whole (pos 1) })

second : Entry
second = (whole (negsuc 0), record { row = at row; sense = at_most; bound = zero_ℚ })

bound_sum : whole (pos 1) *ℚ whole (pos 1) +ℚ (whole (negsuc 0) *ℚ zero_ℚ +ℚ zero_ℚ) ≡ whole (pos 1)
bound_sum = ap (λ z. whole (pos 1) *ℚ whole (pos 1) +ℚ z) (add-zero_ℚ _ ∙ mul-zero_ℚ _)
    ∙ add-zero_ℚ _ ∙ whole-mul (pos 1) (pos 1)

pulls : All (λ e. zero_ℚ ≤ℚ pull e) (first ∷ second ∷ [])
unfolding first second
pulls = grind (arith, first, second, one_positive, neg_minus_one)

the_sum : Combines (first ∷ second ∷ [])
    (record { row = at empty; sense = at_least; bound = whole (pos 1) })
unfolding first second
the_sum = (
  at_least,
  (pulls, (0, first, lit< tt, refl, not_one)),
  inl (λ j. difference (at row j), λ h. not_one (subst (λ z. z ≤ℚ zero_ℚ) bound_sum h)),
)

earlier : All (λ e. e.0 < 2) both
unfolding both
earlier = All-cons (λ (e : ℕ × ℚ). e.0 < 2) (0, whole (pos 1)) ((1, whole (negsuc 0)) ∷ [])
    (lit< tt) (All-cons (λ (e : ℕ × ℚ). e.0 < 2) (1, whole (negsuc 0)) [] (lit< tt)
    (All-nil (λ (e : ℕ × ℚ). e.0 < 2)))

product_fits : (a b c d : ℤ) → ProductFits (whole a) (whole b) → ProductFits (whole c) (whole d)
    → All (λ (t : ℚ × ℚ). ProductFits t.0 t.1) ((whole a, whole b) ∷ (whole c, whole d) ∷ [])
product_fits a b c d h k = All-cons (λ (t : ℚ × ℚ). ProductFits t.0 t.1) (whole a, whole b)
    ((whole c, whole d) ∷ []) h
    (All-cons (λ (t : ℚ × ℚ). ProductFits t.0 t.1) (whole c, whole d) [] k
    (All-nil (λ (t : ℚ × ℚ). ProductFits t.0 t.1)))

at_one : TermsFit ((whole (pos 1), whole (pos 1)) ∷ (whole (negsuc 0), whole (pos 1)) ∷ [])
unfolding over gcd ◌+ℚ◌ ◌*ℚ◌
at_one = (
  product_fits (pos 1) (pos 1) (negsuc 0) (pos 1) (lit≤ tt, lit≤ tt) (lit≤ tt, lit≤ tt),
  ((lit≤ tt, lit≤ tt, lit≤ tt, lit≤ tt), ((lit≤ tt, lit≤ tt, lit≤ tt, lit≤ tt), tt)),
)

at_zero : TermsFit ((whole (pos 1), zero_ℚ) ∷ (whole (negsuc 0), zero_ℚ) ∷ [])
unfolding over gcd ◌+ℚ◌ ◌*ℚ◌
at_zero = (
  product_fits (pos 1) (pos 0) (negsuc 0) (pos 0) (lit≤ tt, lit≤ tt) (lit≤ tt, lit≤ tt),
  ((lit≤ tt, lit≤ tt, lit≤ tt, lit≤ tt), ((lit≤ tt, lit≤ tt, lit≤ tt, lit≤ tt), tt)),
)

at_bounds : TermsFit ((whole (pos 1), whole (pos 1)) ∷ (whole (negsuc 0), zero_ℚ) ∷ [])
unfolding over gcd ◌+ℚ◌ ◌*ℚ◌
at_bounds = (
  product_fits (pos 1) (pos 1) (negsuc 0) (pos 0) (lit≤ tt, lit≤ tt) (lit≤ tt, lit≤ tt),
  ((lit≤ tt, lit≤ tt, lit≤ tt, lit≤ tt), ((lit≤ tt, lit≤ tt, lit≤ tt, lit≤ tt), tt)),
)

abbrev RowFits : ℚ → Type 0
RowFits a = TermsFit ((whole (pos 1), a) ∷ (whole (negsuc 0), a) ∷ [])

the_fit : SumOfFits (entries example both)
unfolding both
the_fit = (λ j. ⊎_elim (λ e. subst RowFits (sym e) at_one) (λ e. subst RowFits (sym e) at_zero) (at_row j), at_bounds)

in_both : (e : ℕ × ℚ) → Contains both e → (e.0 ≡ 0) ⊎ (e.0 ≡ 1)
unfolding both
in_both e m = by m.0 m.1 m.2
  where
    by : (k : ℕ) → k < 2 → slice_index_or ((0, whole (pos 1)) ∷ (1, whole (negsuc 0)) ∷ []) k e ≡ e
        → (e.0 ≡ 0) ⊎ (e.0 ≡ 1)
    by zero h p = inl (sym (ap (λ (f : ℕ × ℚ). f.0) p))
    by (suc zero) h p = inr (sym (ap (λ (f : ℕ × ℚ). f.0) p))
    by (suc (suc k)) h p = absurd (omega arith)

live : (i : ℕ) → (i ≡ 0) ⊎ (i ≡ 1) → IsTrue (is_live example 2 i)
live i h = grind arith

the_combination : Combines (entries example both) (constraint_at example 2)
unfolding both first second
the_combination = the_sum

good : (P : Profile) → IsGoodStep P example 2 (lin both) (constraint_at example 2)
good P = record {
  earlier = earlier;
  follows = the_combination;
  fits = the_fit;
  references = λ i h. live i (in_both (i, h.0) h.1);
}

steps : (P : Profile) → HasGoodSteps P example
steps P zero r e = absurd (cc)
steps P (suc zero) r e = absurd (cc)
steps P (suc (suc zero)) r e =
    let q : lin both ≡ r = ap (λ o. unwrap_or o r) e in
    subst (λ r. IsGoodStep P example 2 r (constraint_at example 2)) q (good P)
steps P (suc (suc (suc k))) r e = absurd (cc)

given : (a i : ℕ) → (i ≡ 0) ⊎ (i ≡ 1) → ¬ RestsOn example i a
given a i h r = grind (arith, rests_given)

nothing : RestsOnNothing example 2
nothing a r = let u = rests_out example 2 a r in given a u.0.0 (in_both u.0 u.1) u.3

pub valid : (P : Profile) → IsProof P example
valid P = grind (arith, steps P, nothing, get-empty, not_one)

-- ---- an assumption rests on itself
pub invalid : (P : Profile) → ¬ IsProof P assumed
invalid P p =
    let d = p.dual tt in
    let e : 0 ≡ d.0 = omega (arith, d.1.0) in
    d.1.1 0 (subst (λ g. RestsOn assumed g 0) e (itself refl))
