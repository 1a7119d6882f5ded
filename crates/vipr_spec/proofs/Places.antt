-- Where constraints, reasons and references stand in a certificate with what is kept alone
use Rattle.std.proofs.Common.{rules, ◌≡◌, ◌≢◌, ℕ, zero, suc, ◌+◌, ◌-◌, ◌<◌, ◌≤◌, Bool, true, nat_lt}
use Rattle.std.proofs.Common.{List, [], ◌∷◌, ◌++◌, map, length, slice_index_or, filter, Option}
use Rattle.std.proofs.Common.{Some, None, Contains, arith, refl, sym, ◌∙◌, ap, subst, inl, inr}
use Rattle.std.proofs.Common.{⊎_elim, le-leb, lt-ltb}
use Rattle.std.proofs.lemmas.Bool.{and_from, or_right, cases_lt}
use Rattle.std.proofs.lemmas.List.{get_or_append_left, length-map}
use Rattle.vipr_spec.specs.{ℚ, zero_ℚ, Reason, asm, lin, rnd, uns, sol, Derivation}
use Rattle.vipr_spec.specs.{constraint_at, reason_at, last_at, is_assumption}
use Rattle.vipr_spec.specs.{lasts_to, is_live, RefersTo, count, kept_of, new_index}
use Rattle.vipr_spec.specs.{renumbered_entries, renumbered_reason, renumbered_at, with_new_indices}
use Rattle.vipr_spec.specs.{with_kept, is_nonzero, Certificate.Certificate}
use Rattle.vipr_spec.proofs.Kept.{map_with, length_with, index_mono, index_same, old_index}
use Rattle.vipr_spec.proofs.Kept.{kept_map, length_kept, kept_at}
use Rattle.vipr_spec.proofs.Prefix.{constraints_listed, reasons_listed, lasts_listed}
use Rattle.vipr_spec.proofs.SmallerSums.{Contains-filter, Contains-filter_back, Contains-map}
use Rattle.vipr_spec.proofs.SmallerSums.{Contains-map_back, not_zero_is}
use Rattle.vipr_spec.proofs.References.{reason_in, last_in, last_then, last_names}
use Rattle.vipr_spec.proofs.{PairRows.not_zero, Placed.at_place, Placed.reason_placed}

-- ---- reasons under new indices

pub entry_new : (new : ℕ → ℕ) (es : List (ℕ × ℚ)) (e : ℕ × ℚ) → Contains es e → e.1 ≢ zero_ℚ
    → Contains (renumbered_entries new es) (new e.0, e.1)
entry_new new es e h n = Contains-map (λ (e : ℕ × ℚ). (new e.0, e.1)) (filter is_nonzero es) e
    (Contains-filter is_nonzero es e h (not_zero_is e.1 n))

pub entry_old : (new : ℕ → ℕ) (es : List (ℕ × ℚ)) (f : ℕ × ℚ)
    → Contains (renumbered_entries new es) f
    → (e : ℕ × ℚ) × Contains es e × (e.1 ≢ zero_ℚ) × ((new e.0, e.1) ≡ f)
entry_old new es f h =
    let r = Contains-map_back (λ (e : ℕ × ℚ). (new e.0, e.1)) (filter is_nonzero es) f h in
    let s = Contains-filter_back is_nonzero es r.0 r.1 in
    (r.0, s.0, not_zero r.0.1 s.1, r.2)

pub refers_new : (new : ℕ → ℕ) (r : Option Reason) (i : ℕ) → RefersTo r i
    → RefersTo (renumbered_at new r) (new i)
refers_new new None i h = h
refers_new new (Some asm) i h = h
refers_new new (Some (lin es)) i h = (h.0, entry_new new es (i, h.0) h.1 h.2, h.2)
refers_new new (Some (rnd es)) i h = (h.0, entry_new new es (i, h.0) h.1 h.2, h.2)
refers_new new (Some (uns i1 l1 i2 l2)) i (inl e) = inl (ap new e)
refers_new new (Some (uns i1 l1 i2 l2)) i (inr (inl e)) = inr (inl (ap new e))
refers_new new (Some (uns i1 l1 i2 l2)) i (inr (inr (inl e))) = inr (inr (inl (ap new e)))
refers_new new (Some (uns i1 l1 i2 l2)) i (inr (inr (inr e))) = inr (inr (inr (ap new e)))
refers_new new (Some sol) i h = h

refers_entry : (new : ℕ → ℕ) (es : List (ℕ × ℚ)) (p : ℕ)
    → (m : ℚ) × Contains (renumbered_entries new es) (p, m) × (m ≢ zero_ℚ)
    → (i : ℕ) × ((m : ℚ) × Contains es (i, m) × (m ≢ zero_ℚ)) × (new i ≡ p)
refers_entry new es p h =
    let r = entry_old new es (p, h.0) h.1 in
    (r.0.0, (r.0.1, r.1, r.2), ap (λ (e : ℕ × ℚ). e.0) r.3)

pub refers_old : (new : ℕ → ℕ) (r : Option Reason) (p : ℕ) → RefersTo (renumbered_at new r) p
    → (i : ℕ) × RefersTo r i × (new i ≡ p)
refers_old new None p h = absurd h
refers_old new (Some asm) p h = absurd h
refers_old new (Some (lin es)) p h = refers_entry new es p h
refers_old new (Some (rnd es)) p h = refers_entry new es p h
refers_old new (Some (uns i1 l1 i2 l2)) p (inl e) = (i1, inl refl, sym e)
refers_old new (Some (uns i1 l1 i2 l2)) p (inr (inl e)) = (l1, inr (inl refl), sym e)
refers_old new (Some (uns i1 l1 i2 l2)) p (inr (inr (inl e))) = (i2, inr (inr (inl refl)), sym e)
refers_old new (Some (uns i1 l1 i2 l2)) p (inr (inr (inr e))) = (l2, inr (inr (inr refl)), sym e)
refers_old new (Some sol) p h = absurd h

-- ---- lists of what is given and what is derived

at_new : {A X : Type 0} (keep : ℕ → Bool) (f : A → X) (d : X) (cs : List A) (ys zs : List X)
    → ((i : ℕ) → i < length cs → keep i ≡ true) → ys ≡ kept_of keep (length cs) zs
    → (i : ℕ) → keep i ≡ true
    → slice_index_or (map f cs ++ ys) (new_index keep i) d ≡ slice_index_or (map f cs ++ zs) i d
at_new keep f d cs ys zs given e i k = ⊎_elim
    (λ (l : i < length cs).
    let same : new_index keep i ≡ i = index_same keep (length cs) given i (omega arith) in
    let small : i < length (map f cs) = simp length-map l in
    ap (λ n. slice_index_or (map f cs ++ ys) n d) same ∙ get_or_append_left (map f cs) ys d i small
    ∙ sym (get_or_append_left (map f cs) zs d i small))
    (λ (l : length cs ≤ i).
    let m = length cs in
    let first : new_index keep m ≡ m = index_same keep m given m (omega arith) in
    let up : new_index keep m ≤ new_index keep i = index_mono keep m i l in
    let old : m + (i - m) ≡ i = omega arith in
    let new : new_index keep i ≡ m + (new_index keep i - m) = omega arith in
    let here : new_index keep (m + (i - m)) ≡ new_index keep i = ap (new_index keep) old in
    ap (λ n. slice_index_or (map f cs ++ ys) n d) new ∙ at_place f cs ys (new_index keep i - m) d
    ∙ ap (λ l. slice_index_or l (new_index keep i - m) d) e
    ∙ kept_at keep d m (i - m) (new_index keep i - m) zs (subst (λ n. keep n ≡ true) (sym old) k) (omega arith)
    ∙ sym (at_place f cs zs (i - m) d) ∙ ap (λ n. slice_index_or (map f cs ++ zs) n d) old)
    (cases_lt i (length cs))

option_out : (new : ℕ → ℕ) (A : Type 0) (cs : List A) (ds : List Derivation) (i : ℕ)
    → slice_index_or
    (map (λ (a : A). None) cs ++ map (λ d. Some (renumbered_reason new d.reason)) ds) i None
    ≡ renumbered_at new
    (slice_index_or (map (λ a. None) cs ++ map (λ d. Some d.reason) ds) i None)
option_out new A [] [] i = refl
option_out new A [] (d ∷ ds) zero = refl
option_out new A [] (d ∷ ds) (suc i) = option_out new A [] ds i
option_out new A (a ∷ cs) ds zero = refl
option_out new A (a ∷ cs) ds (suc i) = option_out new A cs ds i

map_map : {A B C : Type 0} (f : A → B) (g : B → C) (xs : List A)
    → map g (map f xs) ≡ map (λ x. g (f x)) xs
map_map f g [] = refl
map_map f g (x ∷ xs) = ap (λ l. g (f x) ∷ l) (map_map f g xs)

given_none : {A : Type 0} (cs : List A) (ys : List (Option ℕ)) (i : ℕ) → i < length cs
    → slice_index_or (map (λ a. None) cs ++ ys) i None ≡ None
given_none [] ys i h = absurd (omega arith)
given_none (x ∷ cs) ys zero h = refl
given_none (x ∷ cs) ys (suc i) h = given_none cs ys i (omega arith)

-- ---- the certificate with what is kept alone

module _ (c : Certificate) (keep : ℕ → Bool) (given : (i : ℕ) → i < length c.problem.constraints → keep i ≡ true) where
  pub kept_values : {X : Type 0} (g h : Derivation → X)
      → ((d : Derivation) (l : Option ℕ) → h (record d { last = l }) ≡ h d)
      → ((d : Derivation) → h (with_new_indices (new_index keep) d) ≡ g d)
      → map h (with_kept c keep).derivations ≡ kept_of keep (length c.problem.constraints) (map g c.derivations)
  kept_values g h same new = grind (arith, map_with, map_map, kept_map)

  pub new_given : (i : ℕ) → i ≤ length c.problem.constraints → new_index keep i ≡ i
  new_given i h = index_same keep (length c.problem.constraints) given i h

  pub new_derived : (i : ℕ) → length c.problem.constraints ≤ i → length c.problem.constraints ≤ new_index keep i
  new_derived i h =
      let e = new_given (length c.problem.constraints) (omega arith) in
      let l = index_mono keep (length c.problem.constraints) i h in
      omega arith

  pub old_derived : (i : ℕ) → length c.problem.constraints ≤ new_index keep i → length c.problem.constraints ≤ i
  old_derived i h =
      ⊎_elim (λ (l : i < length c.problem.constraints). absurd (let e = new_given i (omega arith) in
      omega arith)) (λ (l : length c.problem.constraints ≤ i). l)
      (cases_lt i (length c.problem.constraints))

  pub constraint_new : (i : ℕ) → keep i ≡ true → constraint_at (with_kept c keep) (new_index keep i) ≡ constraint_at c i
  constraint_new i k = search (rules, constraints_listed, at_new, kept_values)

  pub reason_new : (i : ℕ) → keep i ≡ true
      → reason_at (with_kept c keep) (new_index keep i) ≡ renumbered_at (new_index keep)
      (reason_at c i)
  reason_new i k = grind (
    arith,
    reasons_listed (with_kept c keep) (new_index keep i),
    at_new,
    kept_values,
    option_out (new_index keep),
    reasons_listed c i,
  )

  pub length_new : length (with_kept c keep).derivations + length c.problem.constraints ≡ new_index keep (count c)
  length_new = grind (arith, length_with, length-map, length_kept, new_given)

  pub count_new : count (with_kept c keep) ≡ new_index keep (count c)
  count_new = let e = length_new in omega arith

  pub old_of : (p : ℕ) → p < count (with_kept c keep) → (i : ℕ) × (i < count c) × (keep i ≡ true)
      × (new_index keep i ≡ p)
  old_of p h = let e = count_new in old_index keep (count c) p (omega arith)

  -- ---- last references
  pub last_of : (p : ℕ) → last_at (with_kept c keep) (length c.problem.constraints + p) ≡ last_in
      (with_kept c keep).derivations p
  last_of p = lasts_listed (with_kept c keep) (length c.problem.constraints + p)
      ∙ at_place (λ a. None) c.problem.constraints
      (map (λ d. d.last) (with_kept c keep).derivations) p None

  reasons_in : (j : ℕ) → reason_in (with_kept c keep).derivations j ≡ reason_in
      (map (with_new_indices (new_index keep))
      (kept_of keep (length c.problem.constraints) c.derivations)) j
  reasons_in j = ap (λ l. slice_index_or l j None)
      (map_with (λ d. Some d.reason) (λ d l. refl) (length c.problem.constraints)
      (map (with_new_indices (new_index keep))
      (kept_of keep (length c.problem.constraints) c.derivations)))

  -- a later one that refers to a derivation is no later than its last reference
  pub last_then_new : (k i : ℕ) → length c.problem.constraints ≤ i → i < k
      → RefersTo (reason_at (with_kept c keep) k) i
      → (l : ℕ) × (last_at (with_kept c keep) i ≡ Some l) × (k ≤ l)
  last_then_new k i h lt r =
      let m = length c.problem.constraints in
      let t = with_kept c keep in
      let ds = map (with_new_indices (new_index keep)) (kept_of keep m c.derivations) in
      let pi : i ≡ m + (i - m) = omega arith in
      let pk : k ≡ m + (k - m) = omega arith in
      let same : reason_at t k ≡ reason_in ds (k - m) = ap (reason_at t) pk
      ∙ reason_placed t (k - m) ∙ reasons_in (k - m) in
      let found = last_then m ds (i - m) (k - m) (omega arith)
      (subst (RefersTo (reason_in ds (k - m))) pi (subst (λ q. RefersTo q i) same r)) in
      (found.0, ap (last_at t) pi ∙ last_of (i - m) ∙ found.1, let q = found.2 in omega arith)

  -- the last reference is one
  pub last_is_new : (i l : ℕ) → length c.problem.constraints ≤ i
      → last_at (with_kept c keep) i ≡ Some l → (i < l) × (l < count (with_kept c keep))
      × RefersTo (reason_at (with_kept c keep) l) i
  last_is_new i l h e =
      let m = length c.problem.constraints in
      let t = with_kept c keep in
      let ds = map (with_new_indices (new_index keep)) (kept_of keep m c.derivations) in
      let pi : i ≡ m + (i - m) = omega arith in
      let found = last_names m ds (i - m) l (sym (last_of (i - m)) ∙ ap (last_at t) (sym pi) ∙ e) in
      let size : length t.derivations ≡ length ds = length_with m ds in
      let same : reason_at t l ≡ reason_in ds found.0 = ap (reason_at t) found.1
      ∙ reason_placed t found.0 ∙ reasons_in found.0 in (
        let a = found.1 in let b = found.2 in omega arith,
        let a = found.1 in let b = found.3 in omega arith,
        subst (λ q. RefersTo q i) (sym same) (subst (RefersTo (reason_in ds found.0)) (sym pi) found.4),
      )

  pub live_new : (k i : ℕ) → i < k → RefersTo (reason_at (with_kept c keep) k) i → is_live (with_kept c keep) k i ≡ true
  live_new k i lt r =
      let t = with_kept c keep in
      and_from (nat_lt i k) _ (lt-ltb i k lt) (or_right (is_assumption (reason_at t i)) _ (⊎_elim
      (λ (l : i < length c.problem.constraints). ap (lasts_to k)
      (lasts_listed t i ∙ given_none c.problem.constraints (map (λ d. d.last) t.derivations) i
      l))
      (λ (l : length c.problem.constraints ≤ i). let found = last_then_new k i l lt r in
      ap (lasts_to k) found.1 ∙ le-leb k found.0 found.2)
      (cases_lt i (length c.problem.constraints))))
