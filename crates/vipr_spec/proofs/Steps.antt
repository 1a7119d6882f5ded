-- A certificate step by step
use Rattle.std.proofs.Common.{◌≡◌, ℕ, ◌<◌, ◌≤◌, List, [], ◌∷◌, ◌++◌, length, unwrap_or, Option}
use Rattle.std.proofs.Common.{Some, None, All, arith, refl, sym, ◌∙◌, ap, subst, ⊎_elim, inl, inr}
use Rattle.std.proofs.{lemmas.Bool.cases_lt, lemmas.List.Elements.All-contains}
use Rattle.std.specs.Prelude.{◌↔◌}
use Rattle.vipr_spec.specs.{ℚ, Profile, Condition, condition, Reason, asm, lin, rnd, uns, sol}
use Rattle.vipr_spec.specs.{Derivation, Known, constraint_at, reason_at, RestsOn, itself, brought}
use Rattle.vipr_spec.specs.{count, NamesEarlier, RefersTo, IsGoodStep, HasGoodSteps, FollowsBy}
use Rattle.vipr_spec.specs.{with_more, with_next, before, StepTest, PassesStep, step_tests}
use Rattle.vipr_spec.specs.{FirstFailing, IsGoodNext, PassesSteps, RefersBack, SomeRestsOn, RestsBy}
use Rattle.vipr_spec.specs.{IsSound, Certificate.Certificate}
use Rattle.vipr_spec.proofs.Prefix.{known_before, known_next, reason_next, reason_given, is_derived}
use Rattle.vipr_spec.proofs.Prefix.{count_next, before_count, before_stays, before_more, known_in}
use Rattle.vipr_spec.proofs.Prefix.{Alike, holding, brings_earlier, good_alike, follows_alike}
use Rattle.vipr_spec.proofs.Prefix.{rests_alike}
use Rattle.vipr_spec.proofs.Soundness.{step_sound, sound_none, refers_earlier}
use Rattle.vipr_spec.proofs.{Rests.rests_by, Rests.rests_in, StepTests.no_test_fails}

-- ---- tests of a certificate with more derivations
abbrev pub Fails : Profile → Certificate → ℕ → Reason → Option StepTest → Type 0
Fails P c k r f = FirstFailing (PassesStep P (before c k) (constraint_at c k)) (step_tests r) f

pub same_type : {A B : Type 0} → A ≡ B → A ↔ B
same_type e = (λ a. subst (λ X. X) e a, λ b. subst (λ X. X) (sym e) b)

pub tests_stay : (P : Profile) (c : Certificate) (ds : List Derivation) (k : ℕ) (r : Reason)
    (f : Option StepTest) → k < count c → Fails P (with_more c ds) k r f ↔ Fails P c k r f
tests_stay P c ds k r f h = grind (arith, same_type, before_stays, known_before)

pub tests_next : (P : Profile) (c : Certificate) (d : Derivation) (ds : List Derivation)
    (f : Option StepTest)
    → Fails P (with_more c (d ∷ ds)) (count c) d.reason f
    ↔ FirstFailing (PassesStep P c (condition d.stated)) (step_tests d.reason) f
tests_next P c d ds f = grind (arith, same_type, before_more, known_next)

-- ---- a step of a longer certificate, and of the whole one
-- the same of two certificates in which the same is known of the constraints before it, and it
-- states the same
good_same : (P : Profile) (c : Certificate) (ds es : List Derivation) (k : ℕ) (r : Reason)
    (d e : Condition) → Alike c ds es k → d ≡ e
    → IsGoodStep P (holding c ds) k r d ↔ IsGoodStep P (holding c es) k r e
good_same P c ds es k r d e same q = (
  λ g. subst (IsGoodStep P (holding c es) k r) q (good_alike c ds es k same P r d g),
  λ g. good_alike c es ds k (λ i h. sym (same i h)) P r d (subst (IsGoodStep P (holding c es) k r) (sym q) g),
)

pub good_more : (P : Profile) (c : Certificate) (ds : List Derivation) (k : ℕ) (r : Reason)
    → k < count c
    → IsGoodStep P (with_more c ds) k r (constraint_at (with_more c ds) k)
    ↔ IsGoodStep P c k r (constraint_at c k)
good_more P c ds k r h = good_same P c (c.derivations ++ ds) c.derivations k r _ _
    (λ i l. known_before c ds i (omega arith))
    (ap (λ (x : Known). x.stated) (known_before c ds k h))

pub good_next : (P : Profile) (c : Certificate) (d : Derivation) (r : Reason)
    → IsGoodStep P (with_next c d) (count c) r (constraint_at (with_next c d) (count c))
    ↔ IsGoodStep P c (count c) r (condition d.stated)
good_next P c d r = good_same P c (c.derivations ++ d ∷ []) c.derivations (count c) r _ _
    (known_before c (d ∷ [])) (ap (λ (x : Known). x.stated) (known_next c d []))

pub good_before : (P : Profile) (c : Certificate) (k : ℕ) (r : Reason) → reason_at c k ≡ Some r
    → FirstFailing (PassesStep P (before c k) (constraint_at c k)) (step_tests r) None
    ↔ IsGoodStep P c k r (constraint_at c k)
good_before P c k r e =
    let h = is_derived c k r e in
    let n : count (before c k) ≡ k = before_count c k h.0 (omega arith) in
    let t = no_test_fails P (before c k) (constraint_at c k) r in
    let g = good_same P c (before c k).derivations c.derivations k r (constraint_at c k)
    (constraint_at c k) (known_in c k h.0 (omega arith)) refl in (
      λ f. g.0 (subst (λ n. IsGoodStep P (before c k) n r (constraint_at c k)) n (t.0 f)),
      λ f. t.1 (subst (λ n. IsGoodStep P (before c k) n r (constraint_at c k)) (sym n) (g.1 f)),
    )

pub steps_read : (P : Profile) (c : Certificate) → PassesSteps P c ↔ HasGoodSteps P c
steps_read P c = (λ p k r e. (good_before P c k r e).0 (p k r e), λ g k r e. (good_before P c k r e).1 (g k r e))

-- ---- the next step
pub good_steps_next : (P : Profile) (c : Certificate) (d : Derivation)
    → HasGoodSteps P (with_next c d) ↔ (HasGoodSteps P c × IsGoodNext P c d)
good_steps_next P c d = (λ g. (sooner g, (good_next P c d d.reason).0 (g (count c) d.reason last)), later)
  where
    last : reason_at (with_next c d) (count c) ≡ Some d.reason
    last = ap (λ (x : Known). x.reason) (known_next c d [])

    reason_more : (k : ℕ) → k < count c → reason_at (with_next c d) k ≡ reason_at c k
    reason_more k h = ap (λ (x : Known). x.reason) (known_before c (d ∷ []) k h)

    sooner : HasGoodSteps P (with_next c d) → HasGoodSteps P c
    sooner g k r e = let h = (is_derived c k r e).1 in (good_more P c (d ∷ []) k r h).0 (g k r (reason_more k h ∙ e))

    later : HasGoodSteps P c × IsGoodNext P c d → HasGoodSteps P (with_next c d)
    later g k r e = ⊎_elim
        (λ (h : k < count c). (good_more P c (d ∷ []) k r h).1 (g.0 k r (sym (reason_more k h) ∙ e)))
        (λ (h : count c ≤ k).
        let n = (is_derived (with_next c d) k r e).1 in
        let m = count_next c d in
        let at : count c ≡ k = omega arith in
        subst (λ n. (r : Reason) → reason_at (with_next c d) n ≡ Some r
        → IsGoodStep P (with_next c d) n r (constraint_at (with_next c d) n)) at
        (λ r e. (good_next P c d r).1
        (subst (λ q. IsGoodStep P c (count c) q (condition d.stated))
        (ap (λ o. unwrap_or o r) (sym last ∙ e)) g.1)) r e)
        (cases_lt k (count c))

pub good_without : (P : Profile) (c : Certificate) → c.derivations ≡ [] → HasGoodSteps P c
good_without P c e k r q =
    let h = is_derived c k r q in
    let l = h.0 in
    let n = h.1 in
    let z : length c.derivations ≡ 0 = ap length e in
    absurd (omega arith)

back_by : (P : Profile) (c : Certificate) → HasGoodSteps P c → (k : ℕ) (o : Option Reason)
    → reason_at c k ≡ o → NamesEarlier k o
back_by P c g k None e = tt
back_by P c g k (Some r) e = (g k r e).earlier

pub refers_back : (P : Profile) (c : Certificate) → HasGoodSteps P c → RefersBack c
refers_back P c g k = back_by P c g k (reason_at c k) refl

-- ---- assumption sets
module _ (c : Certificate) (ds : List Derivation) (back : RefersBack c) where
  -- an earlier constraint rests on the same in a certificate with more derivations
  pub rests_more : (i a : ℕ) → i < count c → RestsOn (with_more c ds) i a ↔ RestsOn c i a
  rests_more i a h = grind (arith, rests_alike, known_before)

-- what the next derivation rests on
rests_next_by : (c : Certificate) (d : Derivation) (a : ℕ) (r : Reason) → RefersBack c
    → NamesEarlier (count c) (Some r)
    → RestsBy (with_next c d) (count c) (Some r) a ↔ RestsBy c (count c) (Some r) a
rests_next_by c d a r back n = by r n
  where
    m : (i : ℕ) → i < count c → RestsOn (with_next c d) i a ↔ RestsOn c i a
    m i h = rests_more c (d ∷ []) back i a h

    some : (es : List (ℕ × ℚ)) → All (λ e. e.0 < count c) es → SomeRestsOn (with_next c d) es a ↔ SomeRestsOn c es a
    some es n = (
      λ h. (h.0, h.1, h.2, (m h.0.0 (All-contains (λ (e : ℕ × ℚ). e.0 < count c) es h.0 n h.1)).0 h.3),
      λ h. (h.0, h.1, h.2, (m h.0.0 (All-contains (λ (e : ℕ × ℚ). e.0 < count c) es h.0 n h.1)).1 h.3),
    )

    by : (r : Reason) → NamesEarlier (count c) (Some r)
        → RestsBy (with_next c d) (count c) (Some r) a ↔ RestsBy c (count c) (Some r) a
    by asm n = (λ h. h, λ h. h)
    by (lin es) n = some es n
    by (rnd es) n = some es n
    by (uns i1 l1 i2 l2) n = (
      λ h. elim h [ inl g ↦ inl ((m i1 n.0).0 g.0, g.1) | inr g ↦ inr ((m i2 n.2).0 g.0, g.1) ],
      λ h. elim h [ inl g ↦ inl ((m i1 n.0).1 g.0, g.1) | inr g ↦ inr ((m i2 n.2).1 g.0, g.1) ],
    )
    by sol n = (λ h. h, λ h. h)

pub rests_next : (c : Certificate) (d : Derivation) (a : ℕ) → RefersBack c
    → NamesEarlier (count c) (Some d.reason)
    → RestsOn (with_next c d) (count c) a ↔ RestsBy c (count c) (Some d.reason) a
rests_next c d a back n = grind (arith, rests_next_by, rests_by, reason_next, rests_in)

-- ---- soundness
rests_below : (c : Certificate) → RefersBack c → (i a : ℕ) → RestsOn c i a → a ≤ i
rests_below c back i a (itself e) = omega arith
rests_below c back i a (brought {j = j} b r) =
    let l = brings_earlier i j a (reason_at c i) (back i) b in
    let h = rests_below c back j a r in
    omega arith

pub sound_given : (c : Certificate) (i : ℕ) → i < length c.problem.constraints → IsSound c i
sound_given c i h = sound_none c i (reason_given c i h)

pub sound_before : (c : Certificate) (ds : List Derivation) (i : ℕ) → RefersBack c → i < count c
    → IsSound c i → IsSound (with_more c ds) i
sound_before c ds i back h s x admitted given = grind (arith, known_before, rests_below, rests_more)

-- the next derivation is sound where those are that it refers to
pub sound_next : (P : Profile) (c : Certificate) (d : Derivation) → RefersBack c
    → NamesEarlier (count c) (Some d.reason) → FollowsBy P c d.reason (condition d.stated)
    → ((i : ℕ) → RefersTo (Some d.reason) i → IsSound c i) → IsSound (with_next c d) (count c)
sound_next P c d back n f s =
    let q = known_next c d [] in
    step_sound P (with_next c d) (count c) d.reason (ap (λ (x : Known). x.reason) q)
    (subst (λ (x : Known). FollowsBy P (with_next c d) d.reason x.stated) (sym q)
    (follows_alike c c.derivations (with_next c d).derivations (count c)
    (λ i h. sym (known_before c (d ∷ []) i h)) P d.reason (condition d.stated) n f))
    (λ i r. sound_before c (d ∷ []) i back (refers_earlier (count c) d.reason n i r) (s i r))
