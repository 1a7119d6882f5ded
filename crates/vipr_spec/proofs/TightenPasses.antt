-- The two passes of the tightener, step by step: marks from the end, and what is kept from the
-- front
use Rattle.std.proofs.Common.{◌≡◌, ℕ, suc, ◌+◌, ◌<◌, ◌≤◌, Bool, true, false, cond, ◌&&◌, ◌||◌, List}
use Rattle.std.proofs.Common.{[], ◌∷◌, ◌++◌, map, take, drop, length, slice_index_or, Option, Some}
use Rattle.std.proofs.Common.{None, All, filter, nat_eq, eqb-true, subst, arith, refl, ◌∙◌, ap, ap₂}
use Rattle.std.proofs.Common.{append-nil}
use Rattle.std.proofs.lemmas.List.{take_more, drop_more, map_push, length-take-le, length-map}
use Rattle.std.proofs.lemmas.List.Elements.{All-head, All-tail, All-filter}
use Rattle.std.proofs.{lemmas.Grind.common_steps, lemmas.List.Folds.list_any_none}
use Rattle.std.specs.{FinMap.empty, List.list_any}
use Rattle.vipr_spec.specs.{ℚ, zero_ℚ, is_nonzero, NamesEarlier, equal, Reason, asm, lin, rnd, uns}
use Rattle.vipr_spec.specs.{sol, Derivation, refers_to, is_the_goal, is_marked, renumbered_reason}
use Rattle.vipr_spec.specs.{kept_of, new_index, with_new_indices, or_else, last_reference}
use Rattle.vipr_spec.specs.{with_last_references, kept_derivations, referred_by}
use Rattle.vipr_spec.proofs.Kept.{index_same, length_kept}

pub kept_more : {A : Type 0} (keep : ℕ → Bool) (k : ℕ) (xs : List A) (x : A)
    → kept_of keep k (xs ++ x ∷ []) ≡ kept_of keep k xs ++ cond (keep (k + length xs)) (x ∷ []) []
kept_more keep k [] x = ap (λ n. cond (keep n) (x ∷ []) []) {x = k} {y = k + 0} (omega arith)
kept_more keep k (y ∷ xs) x = by (keep k) (kept_more keep (suc k) xs x)
  where
    place : suc k + length xs ≡ k + suc (length xs)
    place = omega arith

    by : (b : Bool) → kept_of keep (suc k) (xs ++ x ∷ []) ≡ kept_of keep (suc k) xs
        ++ cond (keep (suc k + length xs)) (x ∷ []) []
        → cond b (y ∷ kept_of keep (suc k) (xs ++ x ∷ [])) (kept_of keep (suc k) (xs ++ x ∷ []))
        ≡ cond b (y ∷ kept_of keep (suc k) xs) (kept_of keep (suc k) xs)
        ++ cond (keep (k + suc (length xs))) (x ∷ []) []
    by b rest = grind arith

reference_more : (k : ℕ) (ds : List Derivation) (d : Derivation) (i : ℕ)
    → last_reference k (ds ++ d ∷ []) i
    ≡ cond (refers_to d.reason i) (Some (k + length ds)) (last_reference k ds i)
reference_more k [] d i =
    ap (λ n. cond (refers_to d.reason i) (Some n) None) {x = k} {y = k + 0} (omega arith)
reference_more k (e ∷ ds) d i =
    ap (λ o. or_else o (cond (refers_to e.reason i) (Some k) None)) (reference_more (suc k) ds d i
    ∙ ap (λ n. cond (refers_to d.reason i) (Some n) (last_reference (suc k) ds i)) place)
    ∙ by (refers_to d.reason i)
  where
    place : suc k + length ds ≡ k + suc (length ds)
    place = omega arith

    by : (b : Bool) → or_else (cond b (Some (k + suc (length ds))) (last_reference (suc k) ds i))
        (cond (refers_to e.reason i) (Some k) None)
        ≡ cond b (Some (k + suc (length ds)))
        (or_else (last_reference (suc k) ds i) (cond (refers_to e.reason i) (Some k) None))
    by b = grind arith

pub with_more_references : (k : ℕ) (ds : List Derivation) (d : Derivation)
    → with_last_references k (ds ++ d ∷ [])
    ≡ referred_by (refers_to d.reason) (k + length ds) k (with_last_references k ds)
    ++ record d { last = None } ∷ []
with_more_references k [] d = refl
with_more_references k (e ∷ ds) d = grind (arith, reference_more (suc k) ds d k, with_more_references (suc k) ds d)

-- ---- the pass from the front

-- the derivations so far, and one that is kept
kept_and : (keep : ℕ → Bool) (m j : ℕ) (ds : List Derivation) (d : Derivation) → j < length ds
    → kept_of keep m (take (j + 1) ds) ≡ kept_of keep m (take j ds)
    ++ cond (keep (m + j)) (slice_index_or ds j d ∷ []) []
kept_and keep m j ds d h = grind (arith, common_steps, length-take-le, take_more, kept_more)

pub next_left_out : (keep : ℕ → Bool) (m j : ℕ) (ds : List Derivation) → j < length ds
    → keep (m + j) ≡ false
    → kept_derivations keep m (take (j + 1) ds) ≡ kept_derivations keep m (take j ds)
next_left_out keep m j ds h e =
    let d : Derivation =
    record {
      name = [];
      stated = record { row = empty; sense = equal; bound = zero_ℚ };
      reason = asm;
      last = None;
    } in
    ap (λ l. with_last_references m (map (with_new_indices (new_index keep)) l))
    (kept_and keep m j ds d h
    ∙ ap (λ b. kept_of keep m (take j ds) ++ cond b (slice_index_or ds j d ∷ []) []) e
    ∙ append-nil (kept_of keep m (take j ds)))

pub next_kept : (keep : ℕ → Bool) (m j : ℕ) (ds : List Derivation) (d : Derivation)
    → ((i : ℕ) → i < m → keep i ≡ true) → j < length ds → keep (m + j) ≡ true
    → kept_derivations keep m (take (j + 1) ds)
    ≡ (let new = with_new_indices (new_index keep) (slice_index_or ds j d) in
    referred_by (refers_to new.reason) (new_index keep (m + j)) m
    (kept_derivations keep m (take j ds)) ++ record new { last = None } ∷ [])
next_kept keep m j all d given h e =
    let w = with_new_indices (new_index keep) in
    let ds = kept_of keep m (take j all) in
    let x = slice_index_or all j d in
    let first : new_index keep m ≡ m = index_same keep m given m (omega arith) in
    let size : length (take j all) ≡ j = length-take-le j all (omega arith) in
    let many : length ds + new_index keep m ≡ new_index keep (m + length (take j all)) =
    length_kept keep m (take j all) in
    let same : new_index keep (m + length (take j all)) ≡ new_index keep (m + j) = grind arith in
    let mapped : length (map w ds) ≡ length ds = length-map ds w in
    let place : m + length (map w ds) ≡ new_index keep (m + j) = omega arith in
    let kept : kept_of keep m (take (j + 1) all) ≡ ds ++ x ∷ [] = kept_and keep m j all d h
    ∙ ap (λ b. ds ++ cond b (x ∷ []) []) e in
    let longer : map w (kept_of keep m (take (j + 1) all)) ≡ map w ds ++ w x ∷ [] = ap (map w) kept
    ∙ map_push w ds x in
    ap (with_last_references m) longer ∙ with_more_references m (map w ds) (w x) ∙ ap
    (λ n. referred_by (refers_to (w x).reason) n m (with_last_references m (map w ds))
    ++ record (w x) { last = None } ∷ []) place

-- ---- the pass from the end

-- one step of the pass from the end
pub marked_down : (goal : Option ℕ) (m j i : ℕ) (ds : List Derivation) (d : Derivation)
    → j < length ds
    → is_marked goal (m + j) (drop j ds) i ≡ (is_marked goal (m + (j + 1)) (drop (j + 1) ds) i ||
    (is_marked goal (m + (j + 1)) (drop (j + 1) ds) (m + j)
    && refers_to (slice_index_or ds j d).reason i))
marked_down goal m j i ds d h = grind (arith, drop_more)

-- ---- what is not marked

apart : (i n : ℕ) → n < i → nat_eq i n ≡ false
apart i n h = by (nat_eq i n) refl
  where
    by : (b : Bool) → nat_eq i n ≡ b → nat_eq i n ≡ false
    by true e = absurd (let same = eqb-true i n e in omega arith)
    by false e = e

unnamed : (k i : ℕ) (es : List (ℕ × ℚ)) → k ≤ i → All (λ e. e.0 < k) es
    → list_any (λ e. nat_eq i e.0 && is_nonzero e) es ≡ false
unnamed k i es h a = grind (arith, list_any_none, apart)

not_referred : (k : ℕ) (r : Reason) (i : ℕ) → NamesEarlier k (Some r) → k ≤ i
    → refers_to r i ≡ false
not_referred k r i n h = grind (arith, unnamed)

-- nothing past the derivations but the goal
pub marked_past : (goal : Option ℕ) (k : ℕ) (ds : List Derivation) (i : ℕ)
    → is_the_goal goal i ≡ false
    → ((j : ℕ) → NamesEarlier (k + j) (slice_index_or (map (λ d. Some d.reason) ds) j None))
    → k + length ds ≤ i → is_marked goal k ds i ≡ false
marked_past goal k [] i other earlier h = other
marked_past goal k (d ∷ ds) i other earlier h =
    let next : (j : ℕ) → NamesEarlier (suc k + j)
    (slice_index_or (map (λ (d : Derivation). Some d.reason) ds) j None) =
    λ j. let same : k + suc j ≡ suc k + j = omega arith in
    subst
    (λ n. NamesEarlier n (slice_index_or (map (λ (d : Derivation). Some d.reason) ds) j None))
    same (earlier (suc j)) in
    let rest : is_marked goal (suc k) ds i ≡ false =
    marked_past goal (suc k) ds i other next (omega arith) in
    let here : refers_to d.reason i ≡ false =
    not_referred k d.reason i (let same : k + 0 ≡ k = omega arith in
    subst (λ n. NamesEarlier n (Some d.reason)) same (earlier 0)) (omega arith) in
    ap₂ (λ a b. a || (is_marked goal (suc k) ds k && b)) rest here
    ∙ by (is_marked goal (suc k) ds k)
  where
    by : (b : Bool) → (b && false) ≡ false
    by true = refl
    by false = refl

-- ---- indices that are looked up

pairs_alike : (f g : ℕ → ℕ) (k : ℕ) → ((i : ℕ) → i < k → f i ≡ g i) → (es : List (ℕ × ℚ))
    → All (λ e. e.0 < k) es → map {B = ℕ × ℚ} (λ e. (f e.0, e.1)) es ≡ map (λ e. (g e.0, e.1)) es
pairs_alike f g k same [] a = refl
pairs_alike f g k same (e ∷ es) a =
    ap₂ (λ i l. (i, e.1) ∷ l) (same e.0 (All-head (λ (e : ℕ × ℚ). e.0 < k) e es a))
    (pairs_alike f g k same es (All-tail (λ (e : ℕ × ℚ). e.0 < k) e es a))

-- those alone that are named
pub renumbered_alike : (f g : ℕ → ℕ) (k : ℕ) → ((i : ℕ) → i < k → f i ≡ g i) → (r : Reason)
    → NamesEarlier k (Some r) → renumbered_reason f r ≡ renumbered_reason g r
renumbered_alike f g k same asm n = refl
renumbered_alike f g k same (lin es) n =
    ap lin (pairs_alike f g k same (filter is_nonzero es)
    (All-filter is_nonzero (λ (e : ℕ × ℚ). e.0 < k) es n))
renumbered_alike f g k same (rnd es) n =
    ap rnd (pairs_alike f g k same (filter is_nonzero es)
    (All-filter is_nonzero (λ (e : ℕ × ℚ). e.0 < k) es n))
renumbered_alike f g k same (uns i1 l1 i2 l2) n = grind arith
renumbered_alike f g k same sol n = refl
