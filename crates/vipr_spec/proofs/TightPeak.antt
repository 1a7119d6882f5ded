-- What the tightened certificate holds
use Rattle.std.proofs.Common.{rules, ◌≡◌, ℕ, zero, suc, ◌+◌, ◌-◌, ◌<◌, ◌≤◌, ◌⊎◌, max, not, cond}
use Rattle.std.proofs.Common.{Bool, true, false, ◌||◌, nat_lt, List, [], ◌∷◌, map, length, Option}
use Rattle.std.proofs.Common.{Some, None, arith, refl, sym, ◌∙◌, ap, subst, inl, inr, ⊎_elim}
use Rattle.std.proofs.Common.{leb-true, lt-ltb}
use Rattle.std.proofs.lemmas.List.Sums.{sum_by-append}
use Rattle.std.proofs.lemmas.Bool.{cases_Bool, cases_lt, and_parts, or_cases, or_left, or_right}
use Rattle.std.specs.List.{range_with_len, count_by, fold}
use Rattle.vipr_spec.specs.{Profile, reason_at, last_at, is_assumption, lasts_to, is_live}
use Rattle.vipr_spec.specs.{count_held, peak, RefersTo, IsProof, IsNeeded, is_kept, new_index}
use Rattle.vipr_spec.specs.{tightened_certificate, Certificate.Certificate}
use Rattle.vipr_spec.proofs.Kept.{index_yes, index_no, index_mono, index_lt, index_lt_back}
use Rattle.vipr_spec.proofs.Kept.{index_injective}
use Rattle.vipr_spec.proofs.Marked.{back_at, needed_cases, needed_below, kept_given, kept_closed}
use Rattle.vipr_spec.proofs.Marked.{kept_needed, needed_kept}
use Rattle.vipr_spec.proofs.Places.{new_given, new_derived, old_derived, reason_new, length_new}
use Rattle.vipr_spec.proofs.Places.{old_of, last_then_new, last_is_new}
use Rattle.vipr_spec.proofs.Smaller.{refers_at_new, refers_at_old}
use Rattle.vipr_spec.proofs.Tight.{back_of_proof, live_in_proof, tight_none}

-- ---- counts over ranges

pub count_cons : (p : ℕ → Bool) (x : ℕ) (xs : List ℕ)
    → count_by p (x ∷ xs) ≡ cond (p x) 1 0 + count_by p xs
count_cons p x xs = let e = sum_by-append (λ x. cond (p x) 1 0) (x ∷ []) xs in omega arith

pub count_from : (p : ℕ → Bool) (a n b : ℕ) → a + n ≡ b
    → count_by p (range_with_len a (suc n)) ≡ count_by p (range_with_len a n) + cond (p b) 1 0
count_from p a zero b e = let same : a ≡ b = omega arith in ap (λ x. 0 + cond (p x) 1 0) same
count_from p a (suc n) b e =
    grind (
      arith,
      count_from p (a + 1) n b (omega arith),
      count_cons p a (range_with_len (a + 1) (suc n)),
      count_cons p a (range_with_len (a + 1) n),
    )

count_kept : (keep : ℕ → Bool) (a n : ℕ)
    → new_index keep (a + n) ≡ new_index keep a + count_by keep (range_with_len a n)
count_kept keep a zero =
    let same : new_index keep (a + 0) ≡ new_index keep a = ap (new_index keep) {x = a + 0} {y = a} (omega arith) in
    omega arith
count_kept keep a (suc n) =
    grind (
      arith,
      count_kept keep a n,
      count_from keep a n (a + n) refl,
      ap (new_index keep) {x = a + suc n} {y = suc (a + n)} (omega arith),
    )

count_both : (p : ℕ → Bool) (a n : ℕ)
    → count_by p (range_with_len a n) + count_by (λ i. not (p i)) (range_with_len a n) ≡ n
count_both p a zero = refl
count_both p a (suc n) =
    let rest = count_both p (a + 1) n in
    let yes = count_cons p a (range_with_len (a + 1) n) in
    let no = count_cons (λ i. not (p i)) a (range_with_len (a + 1) n) in
    let one = one_of (p a) in
    omega arith
  where
    one_of : (b : Bool) → cond b 1 0 + cond (not b) 1 0 ≡ 1
    one_of true = refl
    one_of false = refl

-- q counts new indices and p old ones
count_new_old : (keep p q : ℕ → Bool) (a : ℕ) → new_index keep a ≡ a → (n : ℕ)
    → ((i : ℕ) → a ≤ i → i < a + n → keep i ≡ true → q (new_index keep i) ≡ true → p i ≡ true)
    → count_by q (range_with_len a (new_index keep (a + n) - a)) ≤ count_by p (range_with_len a n)
count_new_old keep p q a e zero h =
    let none : new_index keep (a + 0) - a ≡ 0 =
    (let same : new_index keep (a + 0) ≡ new_index keep a =
    ap (new_index keep) {x = a + 0} {y = a} (omega arith) in omega arith) in
    subst (λ n. count_by q (range_with_len a n) ≤ 0) (sym none) (omega arith)
count_new_old keep p q a e (suc n) h =
    by (count_new_old keep p q a e n (λ i low l. h i low (omega arith))) (cases_Bool (keep (a + n)))
  where
    next : new_index keep (a + suc n) ≡ new_index keep (suc (a + n))
    next = ap (new_index keep) {x = a + suc n} {y = suc (a + n)} (omega arith)

    up : a ≤ new_index keep (a + n)
    up = let l = index_mono keep a (a + n) (omega arith) in omega arith

    more : count_by p (range_with_len a (suc n)) ≡ count_by p (range_with_len a n) + cond (p (a + n)) 1 0
    more = count_from p a n (a + n) refl

    one : keep (a + n) ≡ true → cond (q (new_index keep (a + n))) 1 0 ≤ cond (p (a + n)) 1 0
    one k = grind arith

    by : count_by q (range_with_len a (new_index keep (a + n) - a)) ≤ count_by p
        (range_with_len a n) → (keep (a + n) ≡ true) ⊎ (keep (a + n) ≡ false)
        → count_by q (range_with_len a (new_index keep (a + suc n) - a)) ≤ count_by p (range_with_len a (suc n))
    by rest (inl k) =
        let s = index_yes keep (a + n) k in
        let x = next in
        let y = up in
        let size : new_index keep (a + suc n) - a ≡ suc (new_index keep (a + n) - a) = omega arith in
        let longer = count_from q a (new_index keep (a + n) - a) (new_index keep (a + n)) (omega arith) in
        let here = one k in
        let m = more in
        subst (λ z. count_by q (range_with_len a z) ≤ count_by p (range_with_len a (suc n))) (sym size) (omega arith)
    by rest (inr f) =
        let s = index_no keep (a + n) f in
        let x = next in
        let size : new_index keep (a + suc n) - a ≡ new_index keep (a + n) - a = omega arith in
        let m = more in
        subst (λ z. count_by q (range_with_len a z) ≤ count_by p (range_with_len a (suc n))) (sym size) (omega arith)

-- ---- greatest values

start_le_max : (f : ℕ → ℕ) (z a n : ℕ) → z ≤ fold max z (map f (range_with_len a n))
start_le_max f z a zero = omega arith
start_le_max f z a (suc n) = let rest = start_le_max f (max z (f a)) (a + 1) n in omega arith

value_le_max : (f : ℕ → ℕ) (z a n k : ℕ) → a ≤ k → k < a + n
    → f k ≤ fold max z (map f (range_with_len a n))
value_le_max f z a zero k low l = absurd (omega arith)
value_le_max f z a (suc n) k low l = ⊎_elim
    (λ (h : a < k). value_le_max f (max z (f a)) (a + 1) n k (omega arith) (omega arith))
    (λ (h : k ≤ a). let same : f k ≡ f a = ap f {x = k} {y = a} (omega arith) in
    let rest = start_le_max f (max z (f a)) (a + 1) n in omega arith)
    (cases_lt a k)

max_le : (f : ℕ → ℕ) (z a n b : ℕ) → z ≤ b → ((k : ℕ) → a ≤ k → k < a + n → f k ≤ b)
    → fold max z (map f (range_with_len a n)) ≤ b
max_le f z a zero b h each = h
max_le f z a (suc n) b h each = max_le f (max z (f a)) (a + 1) n b
    (let here = each a (omega arith) (omega arith) in omega arith)
    (λ k low l. each k (omega arith) (omega arith))

-- ---- what is live

lasts_sooner : (k j : ℕ) (o : Option ℕ) → k ≤ j → lasts_to j o ≡ true → lasts_to k o ≡ true
lasts_sooner k j o h e = grind arith

module _ (P : Profile) (c : Certificate) (g : ℕ) (proof : IsProof P c) where
  -- constraint i is needed, and derivation k after it is
  lasts_old : (i k : ℕ) → length c.problem.constraints ≤ i → i < k → is_kept c (Some g) i ≡ true
      → is_kept c (Some g) k ≡ true
      → (o : Option ℕ) → last_at (tightened_certificate c (Some g))
      (new_index (is_kept c (Some g)) i) ≡ o
      → lasts_to (new_index (is_kept c (Some g)) k + 1) o ≡ true
      → (is_assumption (reason_at c i) || lasts_to (k + 1) (last_at c i)) ≡ true
  lasts_old i k low h ki kk None e l =
      let keep = is_kept c (Some g) in
      let back = back_of_proof P c proof in
      absurd (⊎_elim
      (λ (same : i ≡ g). let b = needed_below c g k back (kept_needed c g k (omega arith) kk) in omega arith)
      (λ (r : (j : ℕ) × IsNeeded c g j × RefersTo (reason_at c j) i).
      let there = last_then_new c keep (kept_given c (Some g)) (new_index keep r.0)
      (new_index keep i) (new_derived c keep (kept_given c (Some g)) i low)
      (index_lt keep i r.0 ki (back_at c back r.0 i r.2))
      (refers_at_new c keep (kept_given c (Some g)) (kept_closed c (Some g) back) r.0 i
      (needed_kept c g r.0 back r.1) r.2) in
      let clash : None ≡ Some there.0 = sym e ∙ there.1 in
      cc)
      (needed_cases c g i (kept_needed c g i low ki)))
  lasts_old i k low h ki kk (Some l) e le =
      let keep = is_kept c (Some g) in
      let given = kept_given c (Some g) in
      let back = back_of_proof P c proof in
      let closed = kept_closed c (Some g) back in
      let last = last_is_new c keep given (new_index keep i) l (new_derived c keep given i low) e in
      let past : new_index keep k + 1 ≤ l = leb-true (new_index keep k + 1) l le in
      let o = old_of c keep given l last.1 in
      let there : RefersTo (reason_at (tightened_certificate c (Some g)) (new_index keep o.0))
      (new_index keep i) =
      subst (λ n. RefersTo (reason_at (tightened_certificate c (Some g)) n) (new_index keep i))
      (sym o.3) last.2 in
      let r = refers_at_old c keep given closed o.0 (new_index keep i) o.2 there in
      let same : r.0 ≡ i = index_injective keep r.0 i (closed o.0 r.0 o.2 r.1) ki r.2 in
      let later : k < o.0 = index_lt_back keep k o.0 (let f = o.3 in omega arith) in
      let live = live_in_proof P c proof o.0 i (subst (RefersTo (reason_at c o.0)) same r.1) in
      ⊎_elim
      (λ (a : is_assumption (reason_at c i) ≡ true). or_left (is_assumption (reason_at c i)) _ a)
      (λ (a : lasts_to o.0 (last_at c i) ≡ true). or_right (is_assumption (reason_at c i)) _
      (lasts_sooner (k + 1) o.0 (last_at c i) (omega arith) a))
      (or_cases (is_assumption (reason_at c i)) (lasts_to o.0 (last_at c i)) (and_parts (nat_lt i o.0) _ live).1)

  live_old : (i k : ℕ) → length c.problem.constraints ≤ i → i < k → is_kept c (Some g) i ≡ true
      → is_kept c (Some g) k ≡ true
      → is_live (tightened_certificate c (Some g)) (new_index (is_kept c (Some g)) k + 1)
      (new_index (is_kept c (Some g)) i) ≡ true → is_live c (k + 1) i ≡ true
  live_old i k low h ki kk l = grind (arith, lt-ltb, reason_new, lasts_old)

  pub held_old : (k : ℕ) → length c.problem.constraints ≤ k → is_kept c (Some g) k ≡ true
      → count_held (tightened_certificate c (Some g)) (new_index (is_kept c (Some g)) k) ≤
      count_held c k
  held_old k low kk =
      let keep = is_kept c (Some g) in
      let m = length c.problem.constraints in
      let place : m + (k - m) ≡ k = omega arith in
      let counted = count_new_old keep (is_live c (k + 1))
      (is_live (tightened_certificate c (Some g)) (new_index keep k + 1)) m
      (new_given c keep (kept_given c (Some g)) m (omega arith)) (k - m)
      (λ i a b ki l. live_old i k a (omega arith) ki kk l) in
      let same : new_index keep (m + (k - m)) ≡ new_index keep k = ap (new_index keep) place in
      let moved = subst
      (λ n. count_by (is_live (tightened_certificate c (Some g)) (new_index keep k + 1))
      (range_with_len m (n - m)) ≤ count_by (is_live c (k + 1)) (range_with_len m (k - m))) same
      counted in
      omega arith

  pub some_peak : peak (tightened_certificate c (Some g)) ≤ peak c
  some_peak =
      let keep = is_kept c (Some g) in
      let m = length c.problem.constraints in
      max_le (count_held (tightened_certificate c (Some g))) 0 m
      (length (tightened_certificate c (Some g)).derivations) (peak c) (omega arith) (λ p a b.
      let o = old_of c keep (kept_given c (Some g)) p (omega arith) in
      let e = o.3 in
      let low = old_derived c keep (kept_given c (Some g)) o.0 (omega arith) in
      let here = held_old o.0 low o.2 in
      let most = value_le_max (count_held c) 0 m (length c.derivations) o.0 low o.1 in
      let same : count_held (tightened_certificate c (Some g)) (new_index keep o.0) ≡ count_held
      (tightened_certificate c (Some g)) p =
      ap (count_held (tightened_certificate c (Some g))) e in
      omega arith)

pub tight_peak : (P : Profile) (c : Certificate) (goal : Option ℕ) → IsProof P c
    → peak (tightened_certificate c goal) ≤ peak c
tight_peak P c None p = search (rules, tight_none, back_of_proof)
tight_peak P c (Some g) p = some_peak P c g p

-- ---- how many are kept

pub tight_counts : (c : Certificate) (goal : Option ℕ)
    → length (tightened_certificate c goal).derivations + count_by (λ i. not (is_kept c goal i))
    (range_with_len (length c.problem.constraints) (length c.derivations))
    ≡ length c.derivations
tight_counts c goal = grind (arith, length_new, kept_given, new_given, count_kept, count_both)
