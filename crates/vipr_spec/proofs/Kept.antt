-- What is kept of a list, and its new indices
use Rattle.std.proofs.Common.{◌≡◌, ℕ, Option, zero, suc, ◌+◌, ◌<◌, ◌≤◌, ◌⊎◌, Bool, true, false}
use Rattle.std.proofs.Common.{cond, List, [], ◌∷◌, map, length, slice_index_or, arith, refl, sym}
use Rattle.std.proofs.Common.{◌∙◌, ap, ap₂, subst, inl, inr, ⊎_elim}
use Rattle.std.proofs.{lemmas.Bool.cases_Bool, lemmas.Bool.cases_order, lemmas.List.length-map}
use Rattle.vipr_spec.specs.{Derivation, kept_of, new_index, with_last_references, kept_derivations}

-- ---- new indices

pub index_yes : (keep : ℕ → Bool) (i : ℕ) → keep i ≡ true
    → new_index keep (suc i) ≡ suc (new_index keep i)
index_yes keep i e = rw e (omega arith)

pub index_no : (keep : ℕ → Bool) (i : ℕ) → keep i ≡ false
    → new_index keep (suc i) ≡ new_index keep i
index_no keep i e = rw e (omega arith)

-- rising
pub index_mono : (keep : ℕ → Bool) (i j : ℕ) → i ≤ j → new_index keep i ≤ new_index keep j
index_mono keep zero j h = omega arith
index_mono keep (suc i) zero h = absurd (omega arith)
index_mono keep (suc i) (suc j) h = ⊎_elim
    (λ (e : i ≡ j). subst (λ n. new_index keep (suc i) ≤ new_index keep (suc n)) e (omega arith))
    (λ s. ⊎_elim
    (λ (l : i < j). grind (arith, index_mono keep (suc i) j l))
    (λ (l : j < i). absurd (omega arith))
    s)
    (cases_order i j)

-- strictly so past what is kept
pub index_lt : (keep : ℕ → Bool) (i j : ℕ) → keep i ≡ true → i < j
    → new_index keep i < new_index keep j
index_lt keep i j k h = grind (arith, index_yes keep i k, index_mono keep (suc i) j h)

pub index_lt_back : (keep : ℕ → Bool) (i j : ℕ) → new_index keep i < new_index keep j → i < j
index_lt_back keep i j h = grind (arith, index_mono)

pub index_injective : (keep : ℕ → Bool) (i j : ℕ) → keep i ≡ true → keep j ≡ true
    → new_index keep i ≡ new_index keep j → i ≡ j
index_injective keep i j k l e = grind (arith, index_lt)

-- they are the old ones where all before is kept
pub index_same : (keep : ℕ → Bool) (n : ℕ) → ((i : ℕ) → i < n → keep i ≡ true) → (i : ℕ) → i ≤ n
    → new_index keep i ≡ i
index_same keep n all zero h = refl
index_same keep n all (suc i) h = grind (arith, index_yes, index_same keep n all i (omega arith))

-- each new index has an old one
pub old_index : (keep : ℕ → Bool) (n p : ℕ) → p < new_index keep n
    → (i : ℕ) × (i < n) × (keep i ≡ true) × (new_index keep i ≡ p)
old_index keep zero p h = absurd (omega arith)
old_index keep (suc n) p h =
    by (λ l. let r = old_index keep n p l in (r.0, omega arith, r.2, r.3)) (cases_Bool (keep n))
  where
    by : (p < new_index keep n → (i : ℕ) × (i < suc n) × (keep i ≡ true) × (new_index keep i ≡ p))
        → (keep n ≡ true) ⊎ (keep n ≡ false)
        → (i : ℕ) × (i < suc n) × (keep i ≡ true) × (new_index keep i ≡ p)
    by before (inl e) = let s = index_yes keep n e in ⊎_elim
        (λ (q : p ≡ new_index keep n). (n, omega arith, e, sym q))
        (λ t. ⊎_elim (λ (l : p < new_index keep n). before l)
        (λ (l : new_index keep n < p). absurd (omega arith)) t)
        (cases_order p (new_index keep n))
    by before (inr e) = let s = index_no keep n e in before (omega arith)

-- ---- lists

pub kept_yes : {A : Type 0} (keep : ℕ → Bool) (k : ℕ) (x : A) (xs : List A) → keep k ≡ true
    → kept_of keep k (x ∷ xs) ≡ x ∷ kept_of keep (suc k) xs
kept_yes keep k x xs e = rw e

pub kept_no : {A : Type 0} (keep : ℕ → Bool) (k : ℕ) (x : A) (xs : List A) → keep k ≡ false
    → kept_of keep k (x ∷ xs) ≡ kept_of keep (suc k) xs
kept_no keep k x xs e = rw e

pub kept_map : {A B : Type 0} (f : A → B) (keep : ℕ → Bool) (k : ℕ) (xs : List A)
    → kept_of keep k (map f xs) ≡ map f (kept_of keep k xs)
kept_map f keep k [] = refl
kept_map f keep k (x ∷ xs) = by (kept_map f keep (suc k) xs) (keep k)
  where
    by : kept_of keep (suc k) (map f xs) ≡ map f (kept_of keep (suc k) xs) → (b : Bool)
        → cond b (f x ∷ kept_of keep (suc k) (map f xs)) (kept_of keep (suc k) (map f xs))
        ≡ map f (cond b (x ∷ kept_of keep (suc k) xs) (kept_of keep (suc k) xs))
    by rest true = ap (λ l. f x ∷ l) rest
    by rest false = rest

pub length_kept : {A : Type 0} (keep : ℕ → Bool) (k : ℕ) (xs : List A)
    → length (kept_of keep k xs) + new_index keep k ≡ new_index keep (k + length xs)
length_kept keep k [] =
    let e : new_index keep k ≡ new_index keep (k + 0) =
    ap (new_index keep) {x = k} {y = k + 0} (omega arith) in omega arith
length_kept keep k (x ∷ xs) = by (length_kept keep (suc k) xs) (cases_Bool (keep k))
  where
    moved : new_index keep (suc k + length xs) ≡ new_index keep (k + suc (length xs))
    moved = ap (new_index keep) (omega arith)

    by : length (kept_of keep (suc k) xs) + new_index keep (suc k)
        ≡ new_index keep (suc k + length xs) → (keep k ≡ true) ⊎ (keep k ≡ false)
        → length (kept_of keep k (x ∷ xs)) + new_index keep k ≡ new_index keep (k + suc (length xs))
    by rest h = grind (arith, index_yes, kept_yes, index_no, kept_no)

-- all of a list is kept
pub kept_all : {A : Type 0} (keep : ℕ → Bool) (k : ℕ) (xs : List A)
    → ((i : ℕ) → k ≤ i → i < k + length xs → keep i ≡ true) → kept_of keep k xs ≡ xs
kept_all keep k [] all = refl
kept_all keep k (x ∷ xs) all =
    grind (arith, kept_yes, kept_all keep (suc k) xs (λ i a b. all i (omega arith) (omega arith)))

-- what was at an index that is kept
pub kept_at : {A : Type 0} (keep : ℕ → Bool) (d : A) (k j p : ℕ) (xs : List A) → keep (k + j) ≡ true
    → new_index keep (k + j) ≡ p + new_index keep k
    → slice_index_or (kept_of keep k xs) p d ≡ slice_index_or xs j d
kept_at keep d k j p [] h e = refl
kept_at keep d k zero p (x ∷ xs) h e =
    let here : keep k ≡ true = subst (λ n. keep n ≡ true) (omega arith) h in
    let same : new_index keep (k + 0) ≡ new_index keep k = ap (new_index keep) (omega arith) in
    let first : p ≡ 0 = omega arith in
    ap₂ (λ l n. slice_index_or l n d) (kept_yes keep k x xs here) first
kept_at keep d k (suc j) p (x ∷ xs) h e =
    by (λ q. kept_at keep d (suc k) j q xs) (cases_Bool (keep k)) p refl
  where
    next : keep (suc k + j) ≡ true
    next = subst (λ n. keep n ≡ true) (omega arith) h

    same : new_index keep (suc k + j) ≡ new_index keep (k + suc j)
    same = ap (new_index keep) (omega arith)

    up : new_index keep (suc k) ≤ new_index keep (suc k + j)
    up = index_mono keep (suc k) (suc k + j) (omega arith)

    by : ((q : ℕ) → keep (suc k + j) ≡ true
        → new_index keep (suc k + j) ≡ q + new_index keep (suc k)
        → slice_index_or (kept_of keep (suc k) xs) q d ≡ slice_index_or xs j d)
        → (keep k ≡ true) ⊎ (keep k ≡ false) → (q : ℕ) → p ≡ q
        → slice_index_or (kept_of keep k (x ∷ xs)) q d ≡ slice_index_or xs j d
    by rest (inl y) zero f = let s = index_yes keep k y in let t = same in let u = up in
        absurd (omega arith)
    by rest (inl y) (suc q) f = grind (arith, index_yes, same, kept_yes)
    by rest (inr n) q f =
        let s = index_no keep k n in let t = same in
        ap (λ l. slice_index_or l q d) (kept_no keep k x xs n) ∙ rest q next (omega arith)

-- no new index is larger
pub index_le : (keep : ℕ → Bool) (i : ℕ) → new_index keep i ≤ i
index_le keep zero = omega arith
index_le keep (suc i) = let rest = index_le keep i in let one = at_most_one (keep i) in omega arith
  where
    at_most_one : (b : Bool) → cond b 1 0 ≤ 1
    at_most_one true = omega arith
    at_most_one false = omega arith

-- ---- derivations with their last references

pub length_with : (k : ℕ) (ds : List Derivation) → length (with_last_references k ds) ≡ length ds
length_with k [] = refl
length_with k (d ∷ ds) = ap suc (length_with (suc k) ds)

-- nothing else changes
pub map_with : {X : Type 0} (f : Derivation → X)
    → ((d : Derivation) (l : Option ℕ) → f (record d { last = l }) ≡ f d)
    → (k : ℕ) (ds : List Derivation) → map f (with_last_references k ds) ≡ map f ds
map_with f same k [] = refl
map_with f same k (d ∷ ds) = grind (arith, same, map_with f same (suc k) ds)

pub length_kept_derivations : (keep : ℕ → Bool) (m : ℕ) (ds : List Derivation)
    → length (kept_derivations keep m ds) + new_index keep m ≡ new_index keep (m + length ds)
length_kept_derivations keep m ds = grind (arith, length-map, length_with, length_kept)
