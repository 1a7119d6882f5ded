-- The table of a certificate, one derivation after another.
use Rattle.std.proofs.Common.{◌≡◌, ℕ, suc, ◌+◌, ◌-◌, ◌<◌, ◌≤◌, Bool, true, false, cond, ◌&&◌, ◌||◌}
use Rattle.std.proofs.Common.{nat_eq, nat_lt, nat_le, Option, Some, None, is_some, List, [], ◌∷◌}
use Rattle.std.proofs.Common.{length, refl, sym, ap, ap₂, ◌∙◌, arith, length-append, ◌⊎◌, inl, inr}
use Rattle.std.proofs.{lemmas.Bool.cases_lt, lemmas.Bool.Decides.nat_tests}
use Rattle.std.specs.FinMap.{get, get-empty, contains_key}
use Rattle.std.specs.{List.range_with_len, List.count_by, Ordering.nat_cmp}
use Rattle.vipr_spec.specs.Certificate.{Derivation, Certificate, reason_at, last_at, is_assumption}
use Rattle.vipr_spec.specs.Certificate.{lasts_to, is_live, count}
use Rattle.vipr_spec.specs.Certificate as spec
use Rattle.vipr_spec.specs.Steps.{RefersBack}
use Rattle.vipr_spec.proofs.Laws.{with_more, constraint_before, reason_before, last_before}
use Rattle.vipr_spec.proofs.Laws.{rests_more}
use Rattle.vipr_table.specs.declared.rows.Entry.{Entry}
use Rattle.vipr_table.specs.Table.{Table, is_live_before, if_live, empty_table, step}
use Rattle.vipr_table.specs.Table.{entry_at, held_count}
use Rattle.vipr_table.specs.History.{IsEntryOf, is_derived, is_held, IsTableOf, FindsLive}
use Rattle.vipr_table.proofs.TableLemmas.{get-insert_at, get-live_part}
use Rattle.vipr_table.proofs.CountLemmas.{count_same, count_more, len_counts}

-- later derivations change no entry
entry_later : (c : Certificate) (ds : List Derivation) (i : ℕ) (e : Entry) → RefersBack c
    → i < count c → IsEntryOf c i e → IsEntryOf (with_more c ds) i e
entry_later c ds i e back h x = grind (arith, constraint_before, rests_more, reason_before, last_before)

-- constraint i lasts to k
abbrev lasts : Certificate → ℕ → ℕ → Bool
lasts c k i = is_assumption (reason_at c i) || lasts_to k (last_at c i)

entry_lasts : (c : Certificate) (i : ℕ) (e : Entry) (k : ℕ) → IsEntryOf c i e
    → is_live_before k e ≡ lasts c k i
entry_lasts c i e k x = by e.is_assumption ∙ ap₂ (λ b l. b || lasts_to k l) x.is_assumed x.last
  where
    by : (b : Bool) → lasts_to k (cond b None e.last) ≡ (b || lasts_to k e.last)
    by true = refl
    by false = refl

-- what the tests say
held_within : (m n q : ℕ) (s : Bool)
    → (nat_le m q && (nat_eq (q + 1) n || (nat_lt q n && s))) ≡ true → (m ≤ q) × (q < n)
held_within m n q s h = grind (arith, nat_tests)

pub held_range : (c : Certificate) (q : ℕ) → is_held c q ≡ true
    → (length c.problem.constraints ≤ q) × (q < count c)
held_range c q h = held_within (length c.problem.constraints) (count c) q (lasts c (count c) q) h

last_is_held : (m n : ℕ) (s : Bool) → m ≤ n → (nat_le m n && (nat_eq (n + 1) (n + 1) || s)) ≡ true
last_is_held m n s h = grind (arith, nat_tests)

before_next : (m n q : ℕ) (s : Bool) → q < n → m ≤ q
    → (nat_le m q && (nat_eq (q + 1) (n + 1) || (nat_lt q (n + 1) && s))) ≡ s
before_next m n q s h g = grind arith

not_next : (m n q : ℕ) (s t : Bool) → (q ≡ n → ⊥) → (q < n → t ≡ true → s ≡ true)
    → (nat_le m q && (nat_eq (q + 1) n || (nat_lt q n && s))) ≡ false
    → (nat_le m q && (nat_eq (q + 1) (n + 1) || (nat_lt q (n + 1) && t))) ≡ false
not_next m n q s false apart less h = grind (arith, nat_tests)
not_next m n q true true apart less h = grind (arith, nat_tests)
not_next m n q false true apart less h =
    elim (cases_lt q n) [
      | inl before ↦ absurd (let x = less before refl in cc)
      | inr past ↦ beyond apart past
    ]
  where
    beyond : (q ≡ n → ⊥) → n ≤ q → (nat_le m q && (nat_eq (q + 1) (n + 1) || (nat_lt q (n + 1) && true))) ≡ false
    beyond apart past = grind (arith, nat_tests)

live_within : (m n q : ℕ) (s : Bool) → m ≤ q → q < n → s ≡ (nat_le m q && (nat_lt q n && s))
live_within m n q s h g = grind arith

not_live : (m n q : ℕ) (s : Bool) → (nat_le m q && (nat_eq (q + 1) n || (nat_lt q n && s))) ≡ false
    → (nat_le m q && (nat_lt q n && s)) ≡ false
not_live m n q s h = grind arith

not_last : (m k q : ℕ) (s : Bool) → m ≤ q → q < k
    → (nat_le m q && (nat_eq (q + 1) (k + 1) || s)) ≡ s
not_last m k q s h g = grind arith

eq_cases : (i j : ℕ) → ((i ≡ j) × (nat_eq i j ≡ true)) ⊎ ((i ≡ j → ⊥) × (nat_eq i j ≡ false))
eq_cases i j = grind (arith, nat_tests)

pub if_live_of : (k : ℕ) (o : Option Entry) (x : Entry) → if_live k o ≡ Some x → o ≡ Some x
if_live_of k None x h = absurd (cc)
if_live_of k (Some e) x h = by (is_live_before k e) h
  where
    by : (b : Bool) → cond b (Some e) None ≡ Some x → Some e ≡ Some x
    by true g = g
    by false g = absurd (cc)

is_some_live : (k : ℕ) (e : Entry) → is_some (if_live k (Some e)) ≡ is_live_before k e
is_some_live k e = by (is_live_before k e)
  where
    by : (b : Bool) → is_some (cond b (Some e) None) ≡ b
    by true = refl
    by false = refl

-- before the first derivation there is nothing
pub IsTableOf-empty : (c : Certificate) → c.derivations ≡ []
    → IsTableOf c (empty_table (length c.problem.constraints))
IsTableOf-empty c none = record {
  first = refl;
  next = let e = ap length none in omega (arith, e);
  held = λ i. ap is_some (get-empty {X = Entry} nat_cmp i) ∙ sym (nothing i (is_held c i) refl);
  entry = λ i e h. absurd (let none = get-empty {X = Entry} nat_cmp i in cc (none, h));
}
  where
    nothing : (i : ℕ) (b : Bool) → is_held c i ≡ b → is_held c i ≡ false
    nothing i true h = absurd (let r = held_range c i h in let e = ap length none in omega (arith, r.0, r.1, e))
    nothing i false h = h

module _ (c : Certificate) (d : Derivation) (e : Entry) (t : Table)
    (is : IsTableOf c t) (back : RefersBack c) (new : IsEntryOf (with_more c (d ∷ [])) (count c) e) where
  abbrev after : Certificate
  after = with_more c (d ∷ [])

  abbrev given : ℕ
  given = length c.problem.constraints

  one_more : count after ≡ count c + 1
  one_more = let l = length-append c.derivations (d ∷ []) in omega (arith, l)

  get-step : (q : ℕ) → get (step t e).entries q ≡ cond (nat_eq q (count c)) (Some e)
      (if_live (count c + 1) (get t.entries q))
  get-step q = grind (arith, get-insert_at, get-live_part)

  held_after : (q : ℕ)
      → is_held after
      q ≡ (nat_le given q &&
      (nat_eq (q + 1) (count c + 1) || (nat_lt q (count c + 1) && lasts after (count c + 1) q)))
  held_after q = ap (λ n. nat_le given q && (nat_eq (q + 1) n || is_live after n q)) one_more

  same_lasts : (q : ℕ) → q < count c → lasts after (count c + 1) q ≡ lasts c (count c + 1) q
  same_lasts q h = ap₂ (λ r l. is_assumption r || lasts_to (count c + 1) l)
      (reason_before c (d ∷ []) q h) (last_before c (d ∷ []) q h)

  held_other : (q : ℕ) → (q ≡ count c → ⊥) → (o : Option Entry) → get t.entries q ≡ o
      → is_some (if_live (count c + 1) o) ≡ is_held after q
  held_other q apart o at = grind (arith, held_range, entry_lasts, same_lasts, before_next, held_after, not_next)

  pub IsTableOf-step : IsTableOf after (step t e)
  IsTableOf-step = record {
    first = is.first;
    next = ap (λ n. n + 1) is.next ∙ sym one_more;
    held = λ q. ap is_some (get-step q) ∙ held_at q (eq_cases q (count c));
    entry = λ q x h. entry_at_step q x (eq_cases q (count c)) (sym (get-step q) ∙ h);
  }
    where
      held_at : (q : ℕ) → ((q ≡ count c) × (nat_eq q (count c) ≡ true))
          ⊎ ((q ≡ count c → ⊥) × (nat_eq q (count c) ≡ false))
          → is_some (cond (nat_eq q (count c)) (Some e) (if_live (count c + 1) (get t.entries q))) ≡ is_held after q
      held_at q (inl here) =
          ap (λ b. is_some (cond b (Some e) (if_live (count c + 1) (get t.entries q)))) here.1
          ∙ sym (held_after q
          ∙ ap (λ n. nat_le given n &&
          (nat_eq (n + 1) (count c + 1) ||
          (nat_lt n (count c + 1) && lasts after (count c + 1) n))) here.0
          ∙ last_is_held given (count c)
          (nat_lt (count c) (count c + 1) && lasts after (count c + 1) (count c)) (omega arith))
      held_at q (inr apart) =
          ap (λ b. is_some (cond b (Some e) (if_live (count c + 1) (get t.entries q)))) apart.1
          ∙ held_other q apart.0 (get t.entries q) refl

      entry_at_step : (q : ℕ) (x : Entry) → ((q ≡ count c) × (nat_eq q (count c) ≡ true))
          ⊎ ((q ≡ count c → ⊥) × (nat_eq q (count c) ≡ false))
          → cond (nat_eq q (count c)) (Some e) (if_live (count c + 1) (get t.entries q)) ≡ Some x → IsEntryOf after q x
      entry_at_step q x (inl here) h = grind arith
      entry_at_step q x (inr apart) h =
          let was : get t.entries q ≡ Some x = if_live_of (count c + 1) (get t.entries q) x
          (ap (λ b. cond b (Some e) (if_live (count c + 1) (get t.entries q))) (sym apart.1)
          ∙ h) in
          let r = held_range c q (sym (is.held q) ∙ ap is_some was) in
          entry_later c (d ∷ []) q x back r.1 (is.entry q x was)

module _ (c : Certificate) (t : Table) (is : IsTableOf c t) where
  -- a look-up answers exactly the derived constraints that are live before the next derivation
  pub IsTableOf-answers : (i : ℕ) → FindsLive c i (entry_at t i)
  IsTableOf-answers i = record {
    live = ap (λ n. is_some (if_live n (get t.entries i))) is.next ∙ at (get t.entries i) refl;
    entry = λ e h. is.entry i e (if_live_of t.next (get t.entries i) e h);
  }
    where
      at : (o : Option Entry) → get t.entries i ≡ o
          → is_some (if_live (count c) o) ≡ (is_derived c i && is_live c (count c) i)
      at (Some x) there =
          let h : is_held c i ≡ true = sym (is.held i) ∙ ap is_some there in
          let r = held_range c i h in
          is_some_live (count c) x ∙ entry_lasts c i x (count c) (is.entry i x there)
          ∙ live_within (length c.problem.constraints) (count c) i (lasts c (count c) i) r.0 r.1
      at None there =
          sym (not_live (length c.problem.constraints) (count c) i (lasts c (count c) i)
          (sym (is.held i) ∙ ap is_some there))

  -- as many are held as the certificate says
  pub IsTableOf-held : (k : ℕ) → k + 1 ≡ count c → length c.problem.constraints ≤ k → held_count t ≡ spec.count_held c k
  IsTableOf-held k last derived =
      let m = length c.problem.constraints in
      let n = k - m in
      let here : m + n ≡ k = omega arith in
      len_counts t.entries m (suc n) (λ q h. let r = held_range c q (sym (is.held q) ∙ h) in
      (r.0, let b = r.1 in omega (arith, b, here, last)))
      ∙ count_same (contains_key t.entries) (is_held c) m (suc n) (λ q le lt. is.held q)
      ∙ count_more (is_held c) m n
      ∙ ap₂ (λ a b. a + cond b 1 0)
      (count_same (is_held c) (is_live c (k + 1)) m n (λ q le lt. earlier q le (omega arith)))
      (ap (is_held c) here ∙ itself)
      ∙ (let e : count_by (is_live c (k + 1)) (range_with_len m n) + 1 ≡ 1 + count_by
      (is_live c (k + 1)) (range_with_len m n) = omega arith in e)
    where
      itself : is_held c k ≡ true
      itself = ap (λ n. nat_le (length c.problem.constraints) k &&
          (nat_eq (k + 1) n || is_live c n k)) (sym last)
          ∙ last_is_held (length c.problem.constraints) k (is_live c (k + 1) k) derived

      earlier : (q : ℕ) → length c.problem.constraints ≤ q → q < k → is_held c q ≡ is_live c (k + 1) q
      earlier q le lt =
          ap (λ n. nat_le (length c.problem.constraints) q && (nat_eq (q + 1) n || is_live c n q))
          (sym last) ∙ not_last (length c.problem.constraints) k q (is_live c (k + 1) q) le lt
