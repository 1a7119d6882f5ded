-- What a reason refers to, as it is tested, and the last references
use Rattle.std.proofs.Common.{◌≡◌, ◌≢◌, ℕ, zero, suc, ◌+◌, ◌<◌, ◌≤◌, Bool, true, false, cond, ◌&&◌}
use Rattle.std.proofs.Common.{nat_eq, List, [], ◌∷◌, map, length, slice_index_or, Option, Some}
use Rattle.std.proofs.Common.{None, Contains, arith, refl, sym, ap, ap₂, subst, inl, inr, eq-eqb}
use Rattle.std.proofs.Common.{eqb-true}
use Rattle.std.proofs.lemmas.Bool.{and_parts, and_from, or_left, or_right}
use Rattle.std.proofs.lemmas.List.Folds.{Any-from_list_any, list_any-from_Any}
use Rattle.std.proofs.{lemmas.Grind.common_steps}
use Rattle.std.specs.List.{list_any}
use Rattle.vipr_spec.specs.{ℚ, zero_ℚ, Reason, asm, lin, rnd, uns, sol, Derivation, NamesEarlier}
use Rattle.vipr_spec.specs.{RefersTo, refers_to, or_else, last_reference, with_last_references}
use Rattle.vipr_spec.specs.{is_nonzero}
use Rattle.vipr_spec.proofs.SmallerSums.{not_zero_is, Any-contains}
use Rattle.vipr_spec.proofs.{Kept.map_with, PairRows.not_zero}

-- ---- the test

entry_true : (es : List (ℕ × ℚ)) (i : ℕ) → list_any (λ e. nat_eq i e.0 && is_nonzero e) es ≡ true
    → (m : ℚ) × Contains es (i, m) × (m ≢ zero_ℚ)
entry_true es i t =
    let r = Any-contains (λ (e : ℕ × ℚ). (nat_eq i e.0 && is_nonzero e) ≡ true) es
    (Any-from_list_any (λ (e : ℕ × ℚ). nat_eq i e.0 && is_nonzero e) es t) in
    let both = and_parts (nat_eq i r.0.0) (is_nonzero r.0) r.2 in
    let same : (r.0.0, r.0.1) ≡ (i, r.0.1) = ap (λ n. (n, r.0.1)) (sym (eqb-true i r.0.0 both.0)) in
    (r.0.1, subst (Contains es) same r.1, not_zero r.0.1 both.1)

entry_from : (es : List (ℕ × ℚ)) (i : ℕ) (m : ℚ) → Contains es (i, m) → m ≢ zero_ℚ
    → list_any (λ e. nat_eq i e.0 && is_nonzero e) es ≡ true
entry_from es i m h n = grind (arith, common_steps, list_any-from_Any, and_from, eq-eqb, not_zero_is)

pub refers_true : (r : Reason) (i : ℕ) → refers_to r i ≡ true → RefersTo (Some r) i
refers_true r i h = grind (arith, entry_true)

pub refers_from : (r : Reason) (i : ℕ) → RefersTo (Some r) i → refers_to r i ≡ true
refers_from asm i h = absurd h
refers_from (lin es) i h = entry_from es i h.0 h.1 h.2
refers_from (rnd es) i h = entry_from es i h.0 h.1 h.2
refers_from (uns i1 l1 i2 l2) i (inl e) = or_left (nat_eq i i1) _ (eq-eqb i i1 e)
refers_from (uns i1 l1 i2 l2) i (inr (inl e)) = or_right (nat_eq i i1) _ (or_left (nat_eq i l1) _ (eq-eqb i l1 e))
refers_from (uns i1 l1 i2 l2) i (inr (inr (inl e))) =
    or_right (nat_eq i i1) _ (or_right (nat_eq i l1) _ (or_left (nat_eq i i2) _ (eq-eqb i i2 e)))
refers_from (uns i1 l1 i2 l2) i (inr (inr (inr e))) =
    or_right (nat_eq i i1) _ (or_right (nat_eq i l1) _ (or_right (nat_eq i i2) _ (eq-eqb i l2 e)))
refers_from sol i h = absurd h

-- ---- what is referred to is earlier
pub refers_earlier : (k : ℕ) (r : Option Reason) (i : ℕ) → NamesEarlier k r → RefersTo r i → i < k
refers_earlier k r i n h = grind arith

-- ---- the last reference

-- the reason of the derivation at j
abbrev pub reason_in : List Derivation → ℕ → Option Reason
reason_in ds j = slice_index_or (map (λ d. Some d.reason) ds) j None

abbrev pub last_in : List Derivation → ℕ → Option ℕ
last_in ds j = slice_index_or (map (λ d. d.last) ds) j None

-- the last reference is one
pub last_is : (k : ℕ) (ds : List Derivation) (i l : ℕ) → last_reference k ds i ≡ Some l
    → (j : ℕ) × (l ≡ k + j) × (j < length ds) × RefersTo (reason_in ds j) i
last_is k [] i l e = absurd (cc)
last_is k (d ∷ ds) i l e = by (λ l. last_is (suc k) ds i l) (last_reference (suc k) ds i) refl
    (refers_to d.reason i) refl e
  where
    by : ((l : ℕ) → last_reference (suc k) ds i ≡ Some l → (j : ℕ) × (l ≡ suc k + j)
        × (j < length ds) × RefersTo (reason_in ds j) i)
        → (o : Option ℕ) → last_reference (suc k) ds i ≡ o → (b : Bool) → refers_to d.reason i ≡ b
        → or_else o (cond b (Some k) None) ≡ Some l
        → (j : ℕ) × (l ≡ k + j) × (j < length (d ∷ ds)) × RefersTo (reason_in (d ∷ ds) j) i
    by rest None f true t e = let same : k ≡ l = cc in (0, omega arith, omega arith, refers_true d.reason i t)
    by rest None f false t e = absurd (cc)
    by rest (Some n) f b t e =
        let same : n ≡ l = cc in
        let r = rest n f in
        (suc r.0, let q = r.1 in omega arith, let q = r.2 in omega arith, r.3)

-- none refers to i after the last reference
last_after : (k : ℕ) (ds : List Derivation) (i j : ℕ) → RefersTo (reason_in ds j) i
    → (l : ℕ) × (last_reference k ds i ≡ Some l) × (k + j ≤ l)
last_after k [] i j h = absurd h
last_after k (d ∷ ds) i zero h = by (last_reference (suc k) ds i) refl
  where
    by : (o : Option ℕ) → last_reference (suc k) ds i ≡ o
        → (l : ℕ) × (or_else (last_reference (suc k) ds i)
        (cond (refers_to d.reason i) (Some k) None) ≡ Some l) × (k + 0 ≤ l)
    by None f = (k, ap₂ (λ o b. or_else o (cond b (Some k) None)) f (refers_from d.reason i h), omega arith)
    by (Some n) f =
        let r = last_is (suc k) ds i n f in
        (n, ap (λ o. or_else o (cond (refers_to d.reason i) (Some k) None)) f, let q = r.1 in omega arith)
last_after k (d ∷ ds) i (suc j) h =
    let r = last_after (suc k) ds i j h in
    (r.0, ap (λ o. or_else o (cond (refers_to d.reason i) (Some k) None)) r.1, let q = r.2 in omega arith)

-- ---- derivations with their last references

pub last_then : (k : ℕ) (ds : List Derivation) (i j : ℕ) → i < j → RefersTo (reason_in ds j) (k + i)
    → (l : ℕ) × (last_in (with_last_references k ds) i ≡ Some l) × (k + j ≤ l)
last_then k [] i j h r = absurd r
last_then k (d ∷ ds) i zero h r = absurd (omega arith)
last_then k (d ∷ ds) zero (suc j) h r =
    let same : k + 0 ≡ k = omega arith in
    let a = last_after (suc k) ds k j (subst (RefersTo (reason_in ds j)) same r) in
    (a.0, a.1, let q = a.2 in omega arith)
last_then k (d ∷ ds) (suc i) (suc j) h r =
    let same : k + suc i ≡ suc k + i = omega arith in
    let a = last_then (suc k) ds i j (omega arith) (subst (RefersTo (reason_in ds j)) same r) in
    (a.0, a.1, let q = a.2 in omega arith)

pub last_names : (k : ℕ) (ds : List Derivation) (i l : ℕ)
    → last_in (with_last_references k ds) i ≡ Some l
    → (j : ℕ) × (l ≡ k + j) × (i < j) × (j < length ds) × RefersTo (reason_in ds j) (k + i)
last_names k [] i l e = absurd (cc)
last_names k (d ∷ ds) zero l e =
    let same : k ≡ k + 0 = omega arith in
    let r = last_is (suc k) ds k l e in (
      suc r.0,
      let q = r.1 in omega arith,
      omega arith,
      let q = r.2 in
          omega arith,
      subst (RefersTo (reason_in ds r.0)) same r.3,
    )
last_names k (d ∷ ds) (suc i) l e =
    let same : suc k + i ≡ k + suc i = omega arith in
    let r = last_names (suc k) ds i l e in (
      suc r.0,
      let q = r.1 in omega arith,
      let q = r.2 in omega arith,
      let q = r.3 in
          omega arith,
      subst (RefersTo (reason_in ds r.0)) same r.4,
    )

-- they depend on the reasons alone
same_reference : (k : ℕ) (ds es : List Derivation) (i : ℕ)
    → map (λ d. d.reason) ds ≡ map (λ d. d.reason) es
    → last_reference k ds i ≡ last_reference k es i
same_reference k [] [] i e = refl
same_reference k [] (f ∷ fs) i e = absurd (cc)
same_reference k (d ∷ ds) [] i e = absurd (cc)
same_reference k (d ∷ ds) (f ∷ fs) i e =
    let head : d.reason ≡ f.reason = cc in
    let tail : map (λ (d : Derivation). d.reason) ds ≡ map (λ (d : Derivation). d.reason) fs = cc in
    ap₂ (λ o r. or_else o (cond (refers_to r i) (Some k) None)) (same_reference (suc k) ds fs i tail) head

pub with_again : (k : ℕ) (ds : List Derivation)
    → with_last_references k (with_last_references k ds) ≡ with_last_references k ds
with_again k [] = refl
with_again k (d ∷ ds) = grind (arith, same_reference, map_with, with_again (suc k) ds)
