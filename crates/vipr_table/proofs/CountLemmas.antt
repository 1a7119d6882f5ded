-- How many keys a map by number has: as many as pass the test in a range that has them all.
use Rattle.std.proofs.Common.{◌≡◌, ℕ, zero, suc, ◌+◌, ◌-◌, ◌<◌, ◌≤◌, Bool, true, false, cond}
use Rattle.std.proofs.Common.{nat_eq, Option, None, is_some, List, [], ◌∷◌, ◌++◌, refl, sym}
use Rattle.std.proofs.Common.{ap, ap₂, ◌∙◌, arith, add-zero, inl, inr}
use Rattle.std.proofs.lemmas.List.Sums.{sum_by-cons, sum_by_push}
use Rattle.std.proofs.{lemmas.Bool.cases_lt, lemmas.Bool.Decides.nat_tests}
use Rattle.std.specs.FinMap.{FinMap, get, remove, empty, len, contains_key, get-empty, len-empty}
use Rattle.std.specs.FinMap.{len-remove, empty_of_len}
use Rattle.std.specs.{Cmp.nat_cmp_total, List.range_with_len, List.count_by, Ordering.nat_cmp}
use Rattle.vipr_table.proofs.TableLemmas.{get-remove_at, same_numbers}

range_more : (a n : ℕ) → range_with_len a (suc n) ≡ range_with_len a n ++ (a + n) ∷ []
range_more a zero = ap (λ k. k ∷ []) (sym (add-zero a))
range_more a (suc n) =
    ap (λ l. a ∷ l) (range_more (a + 1) n ∙ ap (λ k. range_with_len (a + 1) n ++ k ∷ [])
    (let e : (a + 1) + n ≡ a + suc n = omega arith in e))

count_cons : (p : ℕ → Bool) (k : ℕ) (ks : List ℕ)
    → count_by p (k ∷ ks) ≡ cond (p k) 1 0 + count_by p ks
count_cons p k ks = sum_by-cons (λ x. cond (p x) 1 0) k ks

pub count_same : (p q : ℕ → Bool) (a n : ℕ) → ((k : ℕ) → a ≤ k → k < a + n → p k ≡ q k)
    → count_by p (range_with_len a n) ≡ count_by q (range_with_len a n)
count_same p q a zero same = refl
count_same p q a (suc n) same =
    count_cons p a (range_with_len (a + 1) n)
    ∙ ap₂ (λ b m. cond b 1 0 + m) (same a (omega arith) (omega arith))
    (count_same p q (a + 1) n (λ k le lt. same k (omega arith) (omega arith)))
    ∙ sym (count_cons q a (range_with_len (a + 1) n))

pub count_more : (p : ℕ → Bool) (a n : ℕ)
    → count_by p (range_with_len a (suc n)) ≡ count_by p (range_with_len a n) + cond (p (a + n)) 1 0
count_more p a n = ap (count_by p) (range_more a n) ∙ sum_by_push (λ x. cond (p x) 1 0) (range_with_len a n) (a + n)

some_or_none : {X : Type 0} (o : Option X) → ((is_some o ≡ true → ⊥) → o ≡ None)
some_or_none o h = grind arith

other : (q k : ℕ) → k < q → nat_eq q k ≡ false
other q k h = grind (arith, nat_tests)

module _ {X : Type 0} where
  pub some_held : (m : FinMap nat_cmp X) (i : ℕ) (b : Bool) → contains_key m i ≡ b → cond b 1 0 ≤ len m
  some_held m i b e = grind (arith, empty_of_len, get-empty)

  less_one : (m : FinMap nat_cmp X) (k : ℕ) (b : Bool) → contains_key m k ≡ b → len m ≡ cond b 1 0 + len (remove m k)
  less_one m k b e = by b (some_held m k b e) (len-remove nat_cmp_total m k ∙ ap (λ d. cond d (len m - 1) (len m)) e)
    where
      by : (b : Bool) → cond b 1 0 ≤ len m → len (remove m k) ≡ cond b (len m - 1) (len m)
          → len m ≡ cond b 1 0 + len (remove m k)
      by true h g = omega arith
      by false h g = omega arith

  without_none : (m : FinMap nat_cmp X) → ((q : ℕ) → contains_key m q ≡ true → ⊥) → len m ≡ 0
  without_none m none =
      ap len (same_numbers m empty (λ q. some_or_none (get m q) (none q)
      ∙ sym (get-empty nat_cmp q))) ∙ len-empty nat_cmp X

  still_there : (m : FinMap nat_cmp X) (a q : ℕ) → a < q → contains_key (remove m a) q ≡ contains_key m q
  still_there m a q h = ap is_some (get-remove_at m a q ∙ ap (λ b. cond b None (get m q)) (other q a h))

  was_there : (m : FinMap nat_cmp X) (a q : ℕ) → contains_key (remove m a) q ≡ true
      → (contains_key m q ≡ true) × (q ≡ a → ⊥)
  was_there m a q h = by (nat_eq q a) refl (sym (ap is_some (get-remove_at m a q)) ∙ h)
    where
      by : (b : Bool) → nat_eq q a ≡ b → is_some (cond b None (get m q)) ≡ true
          → (contains_key m q ≡ true) × (q ≡ a → ⊥)
      by true e g = absurd (cc)
      by false e g = (g, apart e)
        where
          apart : nat_eq q a ≡ false → q ≡ a → ⊥
          apart e f = grind (arith, nat_tests)

  pub len_counts : (m : FinMap nat_cmp X) (a n : ℕ)
      → ((q : ℕ) → contains_key m q ≡ true → (a ≤ q) × (q < a + n))
      → len m ≡ count_by (contains_key m) (range_with_len a n)
  len_counts m a zero within = without_none m (λ q h. let w = within q h in absurd (omega (arith, w.0, w.1)))
  len_counts m a (suc n) within =
      less_one m a (contains_key m a) refl
      ∙ ap (λ k. cond (contains_key m a) 1 0 + k)
      (len_counts (remove m a) (a + 1) n (λ q h. let t = was_there m a q h in
      let w = within q t.0 in after q w.0 w.1 t.1)
      ∙ count_same (contains_key (remove m a)) (contains_key m) (a + 1) n (λ k le lt. still_there m a k (omega arith)))
      ∙ sym (count_cons (contains_key m) a (range_with_len (a + 1) n))
    where
      after : (q : ℕ) → a ≤ q → q < a + suc n → (q ≡ a → ⊥) → (a + 1 ≤ q) × (q < (a + 1) + n)
      after q le lt apart = elim (cases_lt a q) [
        | inl past ↦ (omega arith, omega arith)
        | inr same ↦
            absurd (apart (omega arith))
      ]
