-- A proof with what is kept alone is a proof, where what is referred to is kept
use Rattle.std.proofs.Common.{◌≡◌, ◌≢◌, ℕ, ◌<◌, ◌≤◌, ◌⊎◌, Bool, true, false, List, [], ◌∷◌, map}
use Rattle.std.proofs.Common.{length, filter, Option, Some, None, All, Contains, arith, refl, sym}
use Rattle.std.proofs.Common.{◌∙◌, ap, ap₂, subst, inl, inr, ⊎_elim}
use Rattle.std.proofs.lemmas.Bool.{cases_Bool, cases_lt}
use Rattle.std.proofs.lemmas.List.Elements.{All-contains, Contains-get_or}
use Rattle.vipr_spec.specs.{ℚ, zero_ℚ, Profile, Condition, SumOfFits, Combines, CombinesRounded}
use Rattle.vipr_spec.specs.{Reason, asm, lin, rnd, uns, sol, constraint_at, reason_at, Brings}
use Rattle.vipr_spec.specs.{RestsOn, itself, brought, entries, NamesEarlier, FollowsBy, StepFits}
use Rattle.vipr_spec.specs.{IsGoodStep, HasGoodSteps, RefersTo, MeetsDual, NeedsGoal, count}
use Rattle.vipr_spec.specs.{ProvesDual, IsProof, RefersBack, new_index, renumbered_entries}
use Rattle.vipr_spec.specs.{renumbered_reason, renumbered_at, with_kept, is_nonzero}
use Rattle.vipr_spec.specs.Certificate.{Certificate}
use Rattle.vipr_spec.proofs.SmallerSums.{is_there, not_zero_is, filter_yes, filter_no}
use Rattle.vipr_spec.proofs.SmallerSums.{Contains-head, Contains-tail, smaller_combines}
use Rattle.vipr_spec.proofs.SmallerSums.{smaller_rounds, smaller_fits}
use Rattle.vipr_spec.proofs.Places.{entry_new, entry_old, refers_new, refers_old, constraint_new}
use Rattle.vipr_spec.proofs.Places.{reason_new, count_new, old_of, live_new}
use Rattle.vipr_spec.proofs.{Kept.index_lt, Kept.index_injective, PairRows.not_zero}
use Rattle.vipr_spec.proofs.{Prefix.reason_past, Prefix.is_derived, References.refers_earlier}

All-of : {A : Type 0} (P : A → Type 0) (xs : List A) → ((x : A) → Contains xs x → P x) → All P xs
All-of P xs f k d h = f _ (Contains-get_or xs k d h)

-- ---- reasons, back

asm_back : (new : ℕ → ℕ) (q : Option Reason) → renumbered_at new q ≡ Some asm → q ≡ Some asm
asm_back new None e = absurd (cc)
asm_back new (Some asm) e = refl
asm_back new (Some (lin es)) e = absurd (cc)
asm_back new (Some (rnd es)) e = absurd (cc)
asm_back new (Some (uns i1 l1 i2 l2)) e = absurd (cc)
asm_back new (Some sol) e = absurd (cc)

some_back : (new : ℕ → ℕ) (q : Option Reason) (r : Reason) → renumbered_at new q ≡ Some r
    → (o : Reason) × (q ≡ Some o) × (renumbered_reason new o ≡ r)
some_back new None r e = absurd (cc)
some_back new (Some o) r e = (o, refl, cc)

-- ---- what is kept

module _ (c : Certificate) (keep : ℕ → Bool) (given : (i : ℕ) → i < length c.problem.constraints
    → keep i ≡ true) (closed : (k i : ℕ) → keep k ≡ true → RefersTo (reason_at c k) i
    → keep i ≡ true) where
  closed_by : (k i : ℕ) (r : Reason) → keep k ≡ true → reason_at c k ≡ Some r → RefersTo (Some r) i → keep i ≡ true
  closed_by k i r h e f = closed k i h (subst (λ q. RefersTo q i) (sym e) f)

  pub refers_at_new : (k i : ℕ) → keep k ≡ true → RefersTo (reason_at c k) i
      → RefersTo (reason_at (with_kept c keep) (new_index keep k)) (new_index keep i)
  refers_at_new k i h r = subst (λ q. RefersTo q (new_index keep i))
      (sym (reason_new c keep given k h)) (refers_new (new_index keep) (reason_at c k) i r)

  pub refers_at_old : (k p : ℕ) → keep k ≡ true
      → RefersTo (reason_at (with_kept c keep) (new_index keep k)) p
      → (i : ℕ) × RefersTo (reason_at c k) i × (new_index keep i ≡ p)
  refers_at_old k p h r = refers_old (new_index keep) (reason_at c k) p
      (subst (λ q. RefersTo q p) (reason_new c keep given k h) r)

  -- ---- steps

  entries_new : (es : List (ℕ × ℚ))
      → ((e : ℕ × ℚ) → Contains es e → is_nonzero e ≡ true → keep e.0 ≡ true)
      → entries (with_kept c keep) (renumbered_entries (new_index keep) es) ≡ filter is_there
      (entries c es)
  entries_new [] k = refl
  entries_new (e ∷ es) k = by (entries_new es (λ f m t. k f (Contains-tail e f es m) t)) (cases_Bool (is_nonzero e))
    where
      by : entries (with_kept c keep) (renumbered_entries (new_index keep) es) ≡ filter is_there
          (entries c es) → (is_nonzero e ≡ true) ⊎ (is_nonzero e ≡ false)
          → entries (with_kept c keep) (renumbered_entries (new_index keep) (e ∷ es)) ≡ filter
          is_there (entries c (e ∷ es))
      by rest (inl t) =
          ap (λ l. entries (with_kept c keep) (map (λ (e : ℕ × ℚ). (new_index keep e.0, e.1)) l))
          (filter_yes is_nonzero e es t)
          ∙ ap₂ (λ x xs. (e.1, x) ∷ xs) (constraint_new c keep given e.0 (k e (Contains-head e es) t)) rest
          ∙ sym (filter_yes is_there (e.1, constraint_at c e.0) (entries c es) t)
      by rest (inr n) =
          ap (λ l. entries (with_kept c keep) (map (λ (e : ℕ × ℚ). (new_index keep e.0, e.1)) l))
          (filter_no is_nonzero e es n)
          ∙ rest ∙ sym (filter_no is_there (e.1, constraint_at c e.0) (entries c es) n)

  earlier_new : (k : ℕ) (es : List (ℕ × ℚ))
      → ((e : ℕ × ℚ) → Contains es e → is_nonzero e ≡ true → keep e.0 ≡ true)
      → All (λ e. e.0 < k) es
      → All (λ e. e.0 < new_index keep k) (renumbered_entries (new_index keep) es)
  earlier_new k es kept a = All-of (λ (e : ℕ × ℚ). e.0 < new_index keep k)
      (renumbered_entries (new_index keep) es) (λ f m.
      let r = entry_old (new_index keep) es f m in
      let l = index_lt keep r.0.0 k (kept r.0 r.1 (not_zero_is r.0.1 r.2))
      (All-contains (λ (e : ℕ × ℚ). e.0 < k) es r.0 a r.1) in
      let same : new_index keep r.0.0 ≡ f.0 = ap (λ (e : ℕ × ℚ). e.0) r.3 in
      omega arith)

  kept_lin : (k : ℕ) (es : List (ℕ × ℚ)) → keep k ≡ true → reason_at c k ≡ Some (lin es)
      → (e : ℕ × ℚ) → Contains es e → is_nonzero e ≡ true → keep e.0 ≡ true
  kept_lin k es h q e m t = closed_by k e.0 (lin es) h q (e.1, m, not_zero e.1 t)

  kept_rnd : (k : ℕ) (es : List (ℕ × ℚ)) → keep k ≡ true → reason_at c k ≡ Some (rnd es)
      → (e : ℕ × ℚ) → Contains es e → is_nonzero e ≡ true → keep e.0 ≡ true
  kept_rnd k es h q e m t = closed_by k e.0 (rnd es) h q (e.1, m, not_zero e.1 t)

  names_new : (k : ℕ) (r : Option Reason) → keep k ≡ true → reason_at c k ≡ r → NamesEarlier k r
      → NamesEarlier (new_index keep k) (renumbered_at (new_index keep) r)
  names_new k None h q n = tt
  names_new k (Some asm) h q n = tt
  names_new k (Some (lin es)) h q n = earlier_new k es (kept_lin k es h q) n
  names_new k (Some (rnd es)) h q n = earlier_new k es (kept_rnd k es h q) n
  names_new k (Some (uns i1 l1 i2 l2)) h q n =
      let r = uns i1 l1 i2 l2 in (
        index_lt keep i1 k (closed_by k i1 r h q (inl refl)) n.0,
        index_lt keep l1 k (closed_by k l1 r h q (inr (inl refl))) n.1,
        index_lt keep i2 k (closed_by k i2 r h q (inr (inr (inl refl)))) n.2,
        index_lt keep l2 k (closed_by k l2 r h q (inr (inr (inr refl)))) n.3,
      )
  names_new k (Some sol) h q n = tt

  pub back_new : RefersBack c → RefersBack (with_kept c keep)
  back_new back p = ⊎_elim
      (λ (l : p < count (with_kept c keep)).
      let o = old_of c keep given p l in
      subst (λ n. NamesEarlier n (reason_at (with_kept c keep) n)) o.3
      (subst (NamesEarlier (new_index keep o.0)) (sym (reason_new c keep given o.0 o.2))
      (names_new o.0 (reason_at c o.0) o.2 refl (back o.0))))
      (λ (l : count (with_kept c keep) ≤ p). subst (NamesEarlier p) (sym (reason_past (with_kept c keep) p l)) tt)
      (cases_lt p (count (with_kept c keep)))

  follows_new : (P : Profile) (k : ℕ) (r : Reason) (d : Condition) → keep k ≡ true
      → reason_at c k ≡ Some r → FollowsBy P c r d
      → FollowsBy P (with_kept c keep) (renumbered_reason (new_index keep) r) d
  follows_new P k asm d h q v = tt
  follows_new P k (lin es) d h q v =
      subst (λ l. Combines l d) (sym (entries_new es (kept_lin k es h q)))
      (smaller_combines (entries c es) d v)
  follows_new P k (rnd es) d h q v = subst (λ l. CombinesRounded c.problem.integers l d)
      (sym (entries_new es (kept_rnd k es h q)))
      (smaller_rounds c.problem.integers (entries c es) d v)
  follows_new P k (uns i1 l1 i2 l2) d h q v =
      let r = uns i1 l1 i2 l2 in
      let k1 = closed_by k i1 r h q (inl refl) in let m1 = closed_by k l1 r h q (inr (inl refl)) in
      let k2 = closed_by k i2 r h q (inr (inr (inl refl))) in let m2 = closed_by k l2 r h q (inr (inr (inr refl))) in (
        reason_new c keep given l1 m1 ∙ ap (renumbered_at (new_index keep)) v.0,
        reason_new c keep given l2 m2 ∙ ap (renumbered_at (new_index keep)) v.1,
        rw (
          constraint_new c keep given l1 m1,
          constraint_new c keep given l2 m2,
          constraint_new c keep given i1 k1,
          constraint_new c keep given i2 k2,
        ) v.2,
      )
  follows_new P k sol d h q v = v

  fits_new : (k : ℕ) (r : Reason) → keep k ≡ true → reason_at c k ≡ Some r → StepFits c r
      → StepFits (with_kept c keep) (renumbered_reason (new_index keep) r)
  fits_new k asm h q v = tt
  fits_new k (lin es) h q v = subst SumOfFits (sym (entries_new es (kept_lin k es h q))) (smaller_fits (entries c es) v)
  fits_new k (rnd es) h q v = subst SumOfFits (sym (entries_new es (kept_rnd k es h q))) (smaller_fits (entries c es) v)
  fits_new k (uns i1 l1 i2 l2) h q v = tt
  fits_new k sol h q v = tt

  good_new : (P : Profile) (k : ℕ) (r : Reason) → keep k ≡ true → reason_at c k ≡ Some r
      → IsGoodStep P c k r (constraint_at c k)
      → IsGoodStep P (with_kept c keep) (new_index keep k) (renumbered_reason (new_index keep) r)
      (constraint_at (with_kept c keep) (new_index keep k))
  good_new P k r h q g =
      let t = with_kept c keep in
      let p = new_index keep k in
      let s = renumbered_reason (new_index keep) r in
      let there : reason_at t p ≡ Some s = reason_new c keep given k h ∙ ap (renumbered_at (new_index keep)) q in
      let earlier : NamesEarlier p (Some s) = names_new k (Some r) h q g.earlier in
      record {
        earlier = earlier;
        follows = subst (FollowsBy P t s) (sym (constraint_new c keep given k h))
            (follows_new P k r (constraint_at c k) h q g.follows);
        fits = fits_new k r h q g.fits;
        references = λ i f. live_new c keep given p i (refers_earlier p (Some s) i earlier f)
            (subst (λ o. RefersTo o i) (sym there) f);
      }

  good_all : (P : Profile) → HasGoodSteps P c → HasGoodSteps P (with_kept c keep)
  good_all P v p r e =
      let t = with_kept c keep in
      let o = old_of c keep given p (is_derived t p r e).1 in
      let back = some_back (new_index keep) (reason_at c o.0) r
      (sym (reason_new c keep given o.0 o.2) ∙ ap (reason_at t) o.3 ∙ e) in
      let good = good_new P o.0 back.0 o.2 back.1 (v o.0 back.0 back.1) in
      subst (λ n. IsGoodStep P t n r (constraint_at t n)) o.3
      (subst (λ q. IsGoodStep P t (new_index keep o.0) q (constraint_at t (new_index keep o.0)))
      back.2 good)

  -- ---- assumption sets

  brings_entry : (es : List (ℕ × ℚ)) (p : ℕ)
      → (m : ℚ) × Contains (renumbered_entries (new_index keep) es) (p, m) × (m ≢ zero_ℚ)
      → (j : ℕ) × ((m : ℚ) × Contains es (j, m) × (m ≢ zero_ℚ)) × (new_index keep j ≡ p)
  brings_entry es p h =
      let r = entry_old (new_index keep) es (p, h.0) h.1 in
      (r.0.0, (r.0.1, r.1, r.2), ap (λ (e : ℕ × ℚ). e.0) r.3)

  -- what a reason brings under its new indices, it brings
  brings_old : (q : Option Reason) (p b : ℕ) → Brings (renumbered_at (new_index keep) q) p b
      → (j : ℕ) × (new_index keep j ≡ p) × RefersTo q j
      × ((a : ℕ) → new_index keep a ≡ b → Brings q j a)
  brings_old None p b h = absurd h
  brings_old (Some asm) p b h = absurd h
  brings_old (Some (lin es)) p b h = let r = brings_entry es p h in (r.0, r.2, r.1, λ a e. r.1)
  brings_old (Some (rnd es)) p b h = let r = brings_entry es p h in (r.0, r.2, r.1, λ a e. r.1)
  brings_old (Some (uns i1 l1 i2 l2)) p b (inl h) =
      (i1, sym h.0, inl refl, λ a e. inl (refl, λ z. h.1 (sym e ∙ ap (new_index keep) z)))
  brings_old (Some (uns i1 l1 i2 l2)) p b (inr h) = (
    i2,
    sym h.0,
    inr (inr (inl refl)),
    λ a e. inr (refl, λ z. h.1 (sym e ∙ ap (new_index keep) z)),
  )
  brings_old (Some sol) p b h = absurd h

  brings_refers : (q : Option Reason) (j a : ℕ) → Brings q j a → RefersTo q j
  brings_refers None j a h = absurd h
  brings_refers (Some asm) j a h = absurd h
  brings_refers (Some (lin es)) j a h = h
  brings_refers (Some (rnd es)) j a h = h
  brings_refers (Some (uns i1 l1 i2 l2)) j a (inl h) = inl h.0
  brings_refers (Some (uns i1 l1 i2 l2)) j a (inr h) = inr (inr (inl h.0))
  brings_refers (Some sol) j a h = absurd h

  -- the assumption a is kept, and so is all that the reason refers to
  brings_new : (q : Option Reason) (j a : ℕ) → ((i : ℕ) → RefersTo q i → keep i ≡ true)
      → keep a ≡ true → Brings q j a → Brings (renumbered_at (new_index keep) q) (new_index keep j)
      (new_index keep a)
  brings_new None j a k h b = b
  brings_new (Some asm) j a k h b = b
  brings_new (Some (lin es)) j a k h b = (b.0, entry_new (new_index keep) es (j, b.0) b.1 b.2, b.2)
  brings_new (Some (rnd es)) j a k h b = (b.0, entry_new (new_index keep) es (j, b.0) b.1 b.2, b.2)
  brings_new (Some (uns i1 l1 i2 l2)) j a k h (inl b) =
      inl (
        ap (new_index keep) b.0,
        λ z. b.1 (index_injective keep a l1 h (k l1 (inr (inl refl))) z),
      )
  brings_new (Some (uns i1 l1 i2 l2)) j a k h (inr b) =
      inr (
        ap (new_index keep) b.0,
        λ z. b.1 (index_injective keep a l2 h (k l2 (inr (inr (inr refl)))) z),
      )
  brings_new (Some sol) j a k h b = b

  pub rests_old : (p b : ℕ) → RestsOn (with_kept c keep) p b → (i : ℕ) → keep i ≡ true
      → new_index keep i ≡ p → (a : ℕ) × RestsOn c i a × (new_index keep a ≡ b)
  rests_old p b (itself r) i k e =
      let q = asm_back (new_index keep) (reason_at c i) (sym (reason_new c keep given i k)
      ∙ ap (reason_at (with_kept c keep)) e ∙ r) in
      (i, itself q, e)
  rests_old p b (brought {j = j} h d) i k e =
      let there : reason_at (with_kept c keep) p ≡ renumbered_at (new_index keep) (reason_at c i) =
      ap (reason_at (with_kept c keep)) (sym e) ∙ reason_new c keep given i k in
      let o = brings_old (reason_at c i) j b (subst (λ q. Brings q j b) there h) in
      let s = rests_old j b d o.0 (closed i o.0 k o.2) o.1 in
      (s.0, brought (o.3 s.0 s.2) s.1, s.2)

  pub rests_new : (i a : ℕ) → RestsOn c i a → keep i ≡ true
      → (keep a ≡ true) × RestsOn (with_kept c keep) (new_index keep i) (new_index keep a)
  rests_new i a (itself r) k = (k, itself (reason_new c keep given i k ∙ ap (renumbered_at (new_index keep)) r))
  rests_new i a (brought {j = j} h d) k =
      let s = rests_new j a d (closed i j k (brings_refers (reason_at c i) j a h)) in (
        s.0,
        brought
            (subst (λ q. Brings q (new_index keep j) (new_index keep a))
            (sym (reason_new c keep given i k))
            (brings_new (reason_at c i) j a (λ n f. closed i n k f) s.0 h)) s.1,
      )

  pub proves_new : (P : Profile) (i : ℕ) → keep i ≡ true → ProvesDual P c i
      → ProvesDual P (with_kept c keep) (new_index keep i)
  proves_new P i k d = (
    let e = count_new c keep given in let l = index_lt keep i (count c) k d.0 in omega arith,
    λ b r. let s = rests_old (new_index keep i) b r i k refl in d.1 s.0 s.1,
    subst (MeetsDual P c.problem c.problem.claim) (sym (constraint_new c keep given i k)) d.2,
  )

  pub proves_old : (P : Profile) (i : ℕ) → i < count c → keep i ≡ true
      → ProvesDual P (with_kept c keep) (new_index keep i) → ProvesDual P c i
  proves_old P i h k d = (
    h,
    λ a r. d.1 (new_index keep a) (rests_new i a r k).1,
    subst (MeetsDual P c.problem c.problem.claim) (constraint_new c keep given i k) d.2,
  )

  pub smaller_proof : (P : Profile) → IsProof P c
      → (NeedsGoal c.problem c.problem.claim → (goal : ℕ) × (keep goal ≡ true)
      × ProvesDual P c goal) → IsProof P (with_kept c keep)
  smaller_proof P p dual = record {
    solutions = p.solutions;
    solutions_fit = p.solutions_fit;
    steps = good_all P p.steps;
    primal = p.primal;
    dual = λ n. let g = dual n in (new_index keep g.0, proves_new P g.0 g.1 g.2);
  }
