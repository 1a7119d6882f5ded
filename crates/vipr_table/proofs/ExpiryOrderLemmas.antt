-- What keeps a table and the order of its expiries together, and what the order says of the live
-- part.
use Rattle.std.proofs.Common.{◌≡◌, ℕ, ◌+◌, ◌<◌, ◌≤◌, true, false, cond, nat_eq, nat_le, Option}
use Rattle.std.proofs.Common.{Some, None, List, [], ◌∷◌, All, Contains, IsPermutation, refl, sym}
use Rattle.std.proofs.Common.{ap, ◌∙◌, subst, arith, ◌⊎◌, inl, inr}
use Rattle.std.proofs.lemmas.Bool.Decides.{nat_tests}
use Rattle.std.proofs.lemmas.List.Elements.{All-cons, All-head, All-tail, All-weaker}
use Rattle.std.proofs.lemmas.List.Elements.{Contains-append_right}
use Rattle.std.proofs.lemmas.List.Sorted.{All-permutation, Contains-permutation}
use Rattle.std.specs.Ordering.{nat_cmp}
use Rattle.std.specs.FinMap.{FinMap, get, insert, remove, empty, get-empty}
use Rattle.vipr_spec.specs.Certificate.{lasts_to}
use Rattle.vipr_table.specs.Table.{Table, advance_table, expiry, if_live, live_part}
use Rattle.vipr_table.specs.{Expiry.Notes, Expiry.IsTied, declared.rows.Entry.Entry}
use Rattle.vipr_table.proofs.TableLemmas.{get-insert_at, get-remove_at, get-live_part, same_numbers}
use Rattle.vipr_table.proofs.TableLemmas.{if_live-true, if_live-false, same_table}

ahead_cases : (x y : ℕ × ℕ) (ds : List (ℕ × ℕ)) → Contains (x ∷ ds) y → (y ≡ x) ⊎ Contains ds y
ahead_cases x y ds h = grind arith

eq_cases : (i j : ℕ) → ((i ≡ j) × (nat_eq i j ≡ true)) ⊎ ((i ≡ j → ⊥) × (nat_eq i j ≡ false))
eq_cases i j = grind (arith, nat_tests)

module _ (m : FinMap nat_cmp Entry) (i : ℕ) where
  -- what is left after a removal was there before, at another index
  left_over : (j : ℕ) (e : Entry) → get (remove m i) j ≡ Some e → (get m j ≡ Some e) × (j ≡ i → ⊥)
  left_over j e h = grind (arith, eq_cases, get-remove_at, cond, get)

module _ (m : FinMap nat_cmp Entry) (next : ℕ) (new : Entry) where
  put_cases : (j : ℕ) (e : Entry) → get (insert m next new) j ≡ Some e → ((j ≡ next) × (e ≡ new))
      ⊎ ((j ≡ next → ⊥) × (get m j ≡ Some e))
  put_cases j e h = grind (arith, eq_cases, get-insert_at, cond, get)

-- the pair is taken out of the order, and its index out of the map
pub IsTied-removed : (next : ℕ) (m : FinMap nat_cmp Entry) (ds es : List (ℕ × ℕ)) (last i : ℕ)
    → IsTied next m ds → IsPermutation ds ((last, i) ∷ es) → IsTied next (remove m i) es
IsTied-removed next m ds es last i t p = record {
  below = All-tail (λ d. d.1 < next) (last, i) es (All-permutation (λ d. d.1 < next) ds _ p t.below);
  right = All-weaker (λ d. (e : Entry) → get m d.1 ≡ Some e → expiry e ≡ Some d.0)
      (λ d. (e : Entry) → get (remove m i) d.1 ≡ Some e → expiry e ≡ Some d.0)
      (λ d h e is. h e (left_over m i d.1 e is).0) es
      (All-tail (λ d. (e : Entry) → get m d.1 ≡ Some e → expiry e ≡ Some d.0) (last, i) es
      (All-permutation (λ d. (e : Entry) → get m d.1 ≡ Some e → expiry e ≡ Some d.0) ds _ p
      t.right));
  listed = λ j l e is expires.
      let was = left_over m i j e is in
      elim (ahead_cases (last, i) (l, j) es (Contains-permutation ds _ (l, j) p (t.listed j l e was.0 expires))) [
        | inl here ↦ absurd (was.1 (ap (λ d. d.1) here))
        | inr rest ↦ rest
      ];
}

-- an entry that is taken out when it is due was not live
live_part-removed : (next now : ℕ) (m : FinMap nat_cmp Entry) (ds es : List (ℕ × ℕ))
    (last i : ℕ)
    → IsTied next m ds → IsPermutation ds ((last, i) ∷ es) → last ≤ now
    → live_part (now + 1) (remove m i) ≡ live_part (now + 1) m
live_part-removed next now m ds es last i t p due =
    same_numbers _ _ (λ q. get-live_part (now + 1) (remove m i) q ∙ at q
    ∙ sym (get-live_part (now + 1) m q))
  where
    expired : (e : Entry) → get m i ≡ Some e → if_live (now + 1) (Some e) ≡ None
    expired e is =
        let expires = All-head (λ d. (e : Entry) → get m d.1 ≡ Some e → expiry e ≡ Some d.0) (last, i) es
        (All-permutation (λ d. (e : Entry) → get m d.1 ≡ Some e → expiry e ≡ Some d.0) ds _ p t.right) e is in
        if_live-false (now + 1) e (ap (lasts_to (now + 1)) expires ∙ past last due)
      where
        past : (last : ℕ) → last ≤ now → nat_le (now + 1) last ≡ false
        past last due = grind (arith, nat_tests)

    gone : (o : Option Entry) → get m i ≡ o → None ≡ if_live (now + 1) o
    gone None is = refl
    gone (Some e) is = sym (expired e is)

    at : (q : ℕ) → if_live (now + 1) (get (remove m i) q) ≡ if_live (now + 1) (get m q)
    at q = grind (arith, eq_cases, get-remove_at, cond, get, gone)

-- where nothing is due, all is live
live_part-none_due : (next now : ℕ) (m : FinMap nat_cmp Entry) (ds : List (ℕ × ℕ))
    → IsTied next m ds → All (λ (d : ℕ × ℕ). now < d.0) ds → live_part (now + 1) m ≡ m
live_part-none_due next now m ds t none = same_numbers _ _ (λ q. get-live_part (now + 1) m q ∙ at q (get m q) refl)
  where
    ahead : (last : ℕ) → now < last → nat_le (now + 1) last ≡ true
    ahead last h = grind (arith, nat_tests)

    stays : (q : ℕ) (e : Entry) → get m q ≡ Some e → (o : Option ℕ) → expiry e ≡ o → lasts_to (now + 1) o ≡ true
    stays q e is o expires = grind arith

    at : (q : ℕ) (o : Option Entry) → get m q ≡ o → if_live (now + 1) o ≡ o
    at q o is = grind (arith, if_live-true, stays)

-- an advance of the table t that has come to the map m and the order ds
pub record AdvancesTo (t : Table) (first next : ℕ) (m : FinMap nat_cmp Entry) (ds : List (ℕ × ℕ)) : Type 0 where
  pub tied : IsTied next m ds
  pub first_stays : first ≡ t.first
  pub next_stays : next ≡ t.next
  pub live : live_part (t.next + 1) m ≡ live_part (t.next + 1) t.entries

module _ (t : Table) (first next : ℕ) (m : FinMap nat_cmp Entry) (ds : List (ℕ × ℕ))
    (a : AdvancesTo t first next m ds) where
  pub AdvancesTo-removed : (es : List (ℕ × ℕ)) (last i : ℕ) → IsPermutation ds ((last, i) ∷ es)
      → last ≤ next → AdvancesTo t first next (remove m i) es
  AdvancesTo-removed es last i p due = record {
    tied = IsTied-removed next m ds es last i a.tied p;
    first_stays = a.first_stays;
    next_stays = a.next_stays;
    live = live_part-removed next t.next m ds es last i a.tied p (let e = a.next_stays in omega (arith, due)) ∙ a.live;
  }

  pub advanced : All (λ (d : ℕ × ℕ). next < d.0) ds
      → ◌≡◌ {A = Table} (record { first = first; next = next; entries = m }) (advance_table t)
  advanced none =
      same_table _ _ a.first_stays a.next_stays
      (sym (live_part-none_due next t.next m ds a.tied
      (subst (λ n. All (λ (d : ℕ × ℕ). n < d.0) ds) a.next_stays none)) ∙ a.live)

still_right : (next : ℕ) (m : FinMap nat_cmp Entry) (ds : List (ℕ × ℕ)) (e : Entry)
    → IsTied next m ds → All
    (λ (d : ℕ × ℕ). (f : Entry) → get (insert m next e) d.1 ≡ Some f → expiry f ≡ Some d.0) ds
still_right next m ds e t k d lt f is = grind (arith, put_cases)

first : (x : ℕ × ℕ) (ds : List (ℕ × ℕ)) → Contains (x ∷ ds) x
first x ds = (0, omega arith, refl)

-- an entry that never expires
IsTied-kept : (next : ℕ) (m : FinMap nat_cmp Entry) (ds : List (ℕ × ℕ)) (e : Entry)
    → IsTied next m ds → expiry e ≡ None → IsTied (next + 1) (insert m next e) ds
IsTied-kept next m ds e t never = grind (arith, still_right, put_cases)

-- an entry that expires
IsTied-added : (next : ℕ) (m : FinMap nat_cmp Entry) (ds es : List (ℕ × ℕ)) (e : Entry) (last : ℕ)
    → IsTied next m ds → expiry e ≡ Some last → IsPermutation ((last, next) ∷ ds) es
    → IsTied (next + 1) (insert m next e) es
IsTied-added next m ds es e last t expires p = record {
  below = All-permutation (λ d. d.1 < next + 1) ((last, next) ∷ ds) es p
      (All-cons (λ d. d.1 < next + 1) (last, next) ds (omega arith)
      (All-weaker (λ d. d.1 < next) (λ d. d.1 < next + 1) (λ d h. omega arith) ds t.below));
  right = All-permutation (λ d. (f : Entry) → get (insert m next e) d.1 ≡ Some f
      → expiry f ≡ Some d.0) ((last, next) ∷ ds) es p
      (All-cons (λ d. (f : Entry) → get (insert m next e) d.1 ≡ Some f → expiry f ≡ Some d.0) (last, next) ds
      (λ f is. elim (put_cases m next e next f is) [
        | inl new ↦ ap expiry new.1 ∙ expires
        | inr old ↦
            absurd (old.0 refl)
      ])
      (still_right next m ds e t));
  listed = λ j l f is says.
      Contains-permutation ((last, next) ∷ ds) es (l, j) p
      (elim (put_cases m next e j f is) [
        | inl new ↦
            let same : l ≡ last = cc (says, expires, new.1) in
            subst (Contains ((last, next) ∷ ds)) (λ k. (sym same k, sym new.0 k)) (first (last, next) ds)
        | inr old ↦ Contains-append_right ((last, next) ∷ []) ds (l, j) (t.listed j l f old.1 says)
      ]);
}

pub IsTied-put : (next : ℕ) (m : FinMap nat_cmp Entry) (ds es : List (ℕ × ℕ)) (e : Entry)
    → IsTied next m ds → Notes (expiry e) next ds es → IsTied (next + 1) (insert m next e) es
IsTied-put next m ds es e t notes = by (expiry e) refl notes
  where
    by : (o : Option ℕ) → expiry e ≡ o → Notes o next ds es → IsTied (next + 1) (insert m next e) es
    by None never n = subst (IsTied (next + 1) (insert m next e)) (sym n) (IsTied-kept next m ds e t never)
    by (Some last) expires n = IsTied-added next m ds es e last t expires n

-- nothing is in the table yet
pub IsTied-empty : (next : ℕ) → IsTied next empty []
IsTied-empty next = grind (arith, get-empty)
