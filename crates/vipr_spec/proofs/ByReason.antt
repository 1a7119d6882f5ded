-- The rule of a derivation, reason by reason
use Rattle.std.proofs.Common.{◌≡◌, ◌≢◌, ℕ, ◌<◌, List, [], ◌∷◌, Some, All, Contains, refl}
use Rattle.std.specs.Prelude.{◌↔◌, IsTrue}
use Rattle.std.proofs.lemmas.List.Elements.{All-nil, All-cons, All-head, All-tail, All-weaker}
use Rattle.std.proofs.lemmas.List.Elements.{All-contains, All-contains_itself}
use Rattle.std.proofs.Common.{arith, inl, inr}
use Rattle.vipr_spec.specs.{ℚ, zero_ℚ, Profile, Sense, Row, Condition, HasSense, SumOfFits, sum_of}
use Rattle.vipr_spec.specs.{Dominates, DominatesRounded, IsWholeRow, IsSplit, Named, asm, lin, rnd}
use Rattle.vipr_spec.specs.{uns, sol, entries, constraint_at, reason_at, is_live, IsBest, cutoff}
use Rattle.vipr_spec.specs.{IsGoodStep, AreUsable, Certificate.Certificate}

module _ (P : Profile) (c : Certificate) (k : ℕ) where
  abbrev IsUsable : ℕ × ℚ → Type 0
  IsUsable e = (e.0 < k) × (e.1 ≢ zero_ℚ → IsTrue (is_live c k e.0))

  abbrev Refers : List (ℕ × ℚ) → ℕ → Type 0
  Refers es i = (m : ℚ) × Contains es (i, m) × (m ≢ zero_ℚ)

  usable : (es : List (ℕ × ℚ)) → All (λ (e : ℕ × ℚ). e.0 < k) es
      → ((i : ℕ) → Refers es i → IsTrue (is_live c k i)) → AreUsable c k es
  usable es early live = All-weaker (Contains es) IsUsable
      (λ e h. (All-contains (λ (f : ℕ × ℚ). f.0 < k) es e early h, λ n. live e.0 (e.1, h, n))) es
      (All-contains_itself es)

  pub good_assumed : (d : Condition) → IsGoodStep P c k asm d
  good_assumed d = record { earlier = tt; follows = tt; fits = tt; references = λ i r. absurd r }

  pub good_summed : (es : List (ℕ × ℚ)) (d : Condition) → IsGoodStep P c k (lin es) d
      ↔ (AreUsable c k es × SumOfFits (entries c es) × (s : Sense) × HasSense (entries c es) s
      × Dominates (sum_of (entries c es) s) d)
  good_summed es d = grind (arith, usable)

  pub good_rounded : (es : List (ℕ × ℚ)) (d : Condition) → IsGoodStep P c k (rnd es) d
      ↔ (AreUsable c k es × SumOfFits (entries c es) × (s : Sense) × HasSense (entries c es) s
      × IsWholeRow c.problem.integers (sum_of (entries c es) s).row
      × DominatesRounded (sum_of (entries c es) s) d)
  good_rounded es d = grind (arith, usable)

  abbrev IsThere : ℕ → Type 0
  IsThere i = (i < k) × IsTrue (is_live c k i)

  pub good_branched : (i1 l1 i2 l2 : ℕ) (d : Condition) → IsGoodStep P c k (uns i1 l1 i2 l2) d
      ↔ (All IsThere (i1 ∷ l1 ∷ i2 ∷ l2 ∷ []) × (reason_at c l1 ≡ Some asm) × (reason_at c l2 ≡ Some asm)
      × IsSplit P c.problem.integers (constraint_at c l1) (constraint_at c l2)
      × Dominates (constraint_at c i1) d × Dominates (constraint_at c i2) d)
  good_branched i1 l1 i2 l2 d = (
    λ g. let e = g.earlier in let r = g.references in let f = g.follows in let u = f.2 in (
      All-cons IsThere i1 (l1 ∷ i2 ∷ l2 ∷ []) (e.0, r i1 (inl refl))
          (All-cons IsThere l1 (i2 ∷ l2 ∷ []) (e.1, r l1 (inr (inl refl)))
          (All-cons IsThere i2 (l2 ∷ []) (e.2, r i2 (inr (inr (inl refl))))
          (All-cons IsThere l2 [] (e.3, r l2 (inr (inr (inr refl)))) (All-nil IsThere)))),
      f.0,
      f.1,
      u.0,
      u.1,
      u.2,
    ),
    λ h.
        let all = h.0 in
        let from_l1 = All-tail IsThere i1 (l1 ∷ i2 ∷ l2 ∷ []) all in
        let from_i2 = All-tail IsThere l1 (i2 ∷ l2 ∷ []) from_l1 in
        let from_l2 = All-tail IsThere i2 (l2 ∷ []) from_i2 in
        let a : IsThere i1 = All-head IsThere i1 (l1 ∷ i2 ∷ l2 ∷ []) all in
        let b : IsThere l1 = All-head IsThere l1 (i2 ∷ l2 ∷ []) from_l1 in
        let e : IsThere i2 = All-head IsThere i2 (l2 ∷ []) from_i2 in
        let f : IsThere l2 = All-head IsThere l2 [] from_l2 in
        record {
          earlier = (a.0, b.0, e.0, f.0);
          follows = (h.1, h.2, (h.3, h.4, h.5));
          fits = tt;
          references = λ i r. grind arith;
        },
  )

  pub good_cut_off : (d : Condition) → IsGoodStep P c k sol d
      ↔ ((s : Named Row) × IsBest c s × Dominates (cutoff c.problem s) d)
  good_cut_off d = (λ g. g.follows, λ h. record { earlier = tt; follows = h; fits = tt; references = λ i r. absurd r })
