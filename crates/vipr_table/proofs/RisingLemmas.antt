-- Lists that rise: what a push, a join, a filter and a step of a merge leave.
use Rattle.std.proofs.Common.{rules, ◌≡◌, ℕ, zero, suc, ◌+◌, ◌-◌, ◌<◌, ◌≤◌, ◌^◌, Bool, true, false}
use Rattle.std.proofs.Common.{not, cond, ◌||◌, ◌&&◌, min, nat_eq, List, [], ◌∷◌, ◌++◌, length, drop}
use Rattle.std.proofs.Common.{take, get_or, filter, refl, sym, ap, ◌∙◌, subst, arith, add-one}
use Rattle.std.proofs.Common.{drop-cons, length-drop, ◌⊎◌, inl, inr}
use Rattle.std.proofs.lemmas.List.Folds.{list_any-append}
use Rattle.std.proofs.{Math.Seq.take-length, lemmas.Bool.cases_lt, lemmas.Bool.Decides.nat_tests}
use mir.Val.{bool_byte}
use Rattle.vipr_table.specs.Rising.{RisesWithin, IsRising, IsUnion, has}
use Rattle.vipr_table.specs.Merging.{Merging}

pub rises_from : (low low' high : ℕ) (xs : List ℕ) → low' ≤ low → RisesWithin low high xs
    → RisesWithin low' high xs
rises_from low low' high [] le r = tt
rises_from low low' high (x ∷ xs) le r = (omega arith, r.1, r.2)

rises_append : (low mark high : ℕ) (xs ys : List ℕ) → low ≤ mark → mark ≤ high
    → RisesWithin low mark xs → RisesWithin mark high ys → RisesWithin low high (xs ++ ys)
rises_append low mark high [] ys le le' r s = rises_from mark low high ys le s
rises_append low mark high (x ∷ xs) ys le le' r s =
    (r.0, omega arith, rises_append (x + 1) mark high xs ys (omega arith) le' r.2 s)

pub rises_filter : (p : ℕ → Bool) (low high : ℕ) (xs : List ℕ) → RisesWithin low high xs
    → RisesWithin low high (filter p xs)
rises_filter p low high [] r = tt
rises_filter p low high (x ∷ xs) r = by (p x) (rises_filter p (x + 1) high xs r.2)
  where
    by : (b : Bool) → RisesWithin (x + 1) high (filter p xs)
        → RisesWithin low high (cond b (x ∷ filter p xs) (filter p xs))
    by true rest = (r.0, r.1, rest)
    by false rest = rises_from (x + 1) low high (filter p xs) (let le : low ≤ x = r.0 in omega arith) rest

left_out : (b c d h : Bool) → (d ≡ true → c ≡ b) → (b ≡ true → c ≡ d)
    → cond (not b) (d || (not c && h)) (not c && h) ≡ (not c && (d || h))
left_out b c d h e f = grind arith

has_cond : (b : Bool) (x q : ℕ) (f : List ℕ)
    → has (cond b (x ∷ f) f) q ≡ cond b (nat_eq x q || has f q) (has f q)
has_cond b x q f = grind arith

same_test : (x q k : ℕ) → nat_eq x q ≡ true → nat_eq q k ≡ nat_eq x k
same_test x q k h = grind (arith, nat_tests)

same_test' : (x q k : ℕ) → nat_eq x k ≡ true → nat_eq q k ≡ nat_eq x q
same_test' x q k h = grind (arith, nat_tests)

-- a filter that leaves one number out
pub has_all_but : (k : ℕ) (xs : List ℕ) (q : ℕ)
    → has (filter (λ x. not (nat_eq x k)) xs) q ≡ (not (nat_eq q k) && has xs q)
has_all_but k [] q = both (not (nat_eq q k))
  where
    both : (b : Bool) → false ≡ (b && false)
    both true = refl
    both false = refl
has_all_but k (x ∷ xs) q =
    has_cond (not (nat_eq x k)) x q (filter (λ y. not (nat_eq y k)) xs)
    ∙ ap (λ h. cond (not (nat_eq x k)) (nat_eq x q || h) h) (has_all_but k xs q)
    ∙ left_out (nat_eq x k) (nat_eq q k) (nat_eq x q) (has xs q) (same_test x q k) (same_test' x q k)

within_by : (b : Bool) (i n : ℕ) → i < n → i + bool_byte b ≤ n
within_by b i n h = grind arith

is_eq : (a b : ℕ) → a ≡ b → nat_eq a b ≡ true
is_eq a b h = grind (arith, nat_tests)

-- what is left of a list from which the lower first item is taken, if it begins with it
left_over : (x low mark : ℕ) (us : List ℕ) → RisesWithin mark (2 ^ 32) (x ∷ us) → low ≤ x
    → RisesWithin (low + 1) (2 ^ 32) (cond (nat_eq x low) us (x ∷ us))
left_over x low mark us r le = grind arith

module _ (out us vs : List ℕ) (x y low : ℕ) (q : ℕ) where
  abbrev moved : Bool → Bool → Bool
  moved a b = has (out ++ low ∷ []) q || (has (cond a us (x ∷ us)) q || has (cond b vs (y ∷ vs)) q)

  pushed : has (out ++ low ∷ []) q ≡ (has out q || (nat_eq low q || false))
  pushed = list_any-append (λ n. nat_eq n q) out (low ∷ [])

first_item : (xs : List ℕ) (i : ℕ) → i < length xs → drop i xs ≡ get_or xs i 0 ∷ drop (i + 1) xs
first_item xs i h = rw (add-one, drop-cons xs i 0)

-- one step: the lower of the two first items goes out, and is taken from each list that begins with
-- it
pub merge_step : (xs ys : List ℕ) (i j : ℕ) (out : List ℕ) (low : ℕ) → Merging xs ys i j out
    → i < length xs → j < length ys
    → low ≡ min (get_or xs i 0) (get_or ys j 0)
    → Merging xs ys (i + bool_byte (nat_eq (get_or xs i 0) low))
    (j + bool_byte (nat_eq (get_or ys j 0) low)) (out ++ low ∷ [])
merge_step xs ys i j out low m a b e = grind (arith, first_item, rises_append, pushed)

or_assoc : (a b c : Bool) → ((a || b) || c) ≡ (a || (b || c))
or_assoc a b c = grind arith

rises_all : (mark : ℕ) (out us vs : List ℕ) → RisesWithin 0 mark out → mark ≤ 2 ^ 32
    → RisesWithin mark (2 ^ 32) us → RisesWithin mark (2 ^ 32) vs → (us ≡ []) ⊎ (vs ≡ [])
    → IsRising ((out ++ us) ++ vs)
rises_all mark out us vs o top a b none = search (rules, rises_append)

pub no_items : (zs : List ℕ) → length zs ≡ 0 → zs ≡ []
no_items [] e = refl
no_items (z ∷ zs) e = absurd (omega arith)

none_left : (i : ℕ) (xs : List ℕ) → length xs ≤ i → drop i xs ≡ []
none_left i xs h = no_items (drop i xs) (omega (arith, length-drop i xs))

pub merge_end : (xs ys : List ℕ) (i j : ℕ) (out zs : List ℕ) → Merging xs ys i j out
    → (i < length xs → length ys ≤ j) → zs ≡ (out ++ drop i xs) ++ drop j ys → IsUnion xs ys zs
merge_end xs ys i j out zs m over is = record {
  rising = subst IsRising (sym is)
      (rises_all m.mark out (drop i xs) (drop j ys) m.done m.mark_fits m.left m.right spent);
  members = λ q.
      ap (λ ws. has ws q) is
      ∙ list_any-append (λ n. nat_eq n q) (out ++ drop i xs) (drop j ys)
      ∙ ap (λ b. b || has (drop j ys) q) (list_any-append (λ n. nat_eq n q) out (drop i xs))
      ∙ or_assoc (has out q) (has (drop i xs) q) (has (drop j ys) q)
      ∙ m.members q;
}
  where
    spent : (drop i xs ≡ []) ⊎ (drop j ys ≡ [])
    spent = elim (cases_lt i (length xs)) [
      | inl more ↦ inr (none_left j ys (over more))
      | inr past ↦
          inl (none_left i xs past)
    ]

-- a list that rises is in order
pub rises_order : (low high : ℕ) (xs : List ℕ) → RisesWithin low high xs → (i j : ℕ) → i ≤ j
    → j < length xs → get_or xs i 0 ≤ get_or xs j 0
rises_order low high [] r i j le lt = absurd (omega arith)
rises_order low high (x ∷ xs) r zero zero le lt = omega arith
rises_order low high (x ∷ xs) r zero (suc j) le lt =
    let h = above (x + 1) high xs r.2 j (omega arith) in
    omega (arith, h)
  where
    above : (low high : ℕ) (xs : List ℕ) → RisesWithin low high xs → (j : ℕ) → j < length xs → low ≤ get_or xs j 0
    above low high [] r j lt = absurd (omega arith)
    above low high (x ∷ xs) r zero lt = r.0
    above low high (x ∷ xs) r (suc j) lt =
        let h = above (x + 1) high xs r.2 j (omega arith) in
        let le : low ≤ x = r.0 in
        omega (arith, h)
rises_order low high (x ∷ xs) r (suc i) zero le lt = absurd (omega arith)
rises_order low high (x ∷ xs) r (suc i) (suc j) le lt = rises_order (x + 1) high xs r.2 i j (omega arith) (omega arith)

-- what a slice from i to the end is
pub to_end : (i : ℕ) (xs : List ℕ) → take (length xs - i) (drop i xs) ≡ drop i xs
to_end i xs = ap (λ n. take n (drop i xs)) (sym (length-drop i xs)) ∙ take-length (drop i xs)

-- two lists, where the last item of one is below the first of the other
all_below : (low high i : ℕ) (xs : List ℕ) (y : ℕ) (ys : List ℕ) → i + 1 ≡ length xs
    → get_or xs i 0 < y → RisesWithin low high xs → RisesWithin 0 high (y ∷ ys)
    → RisesWithin low high (xs ++ y ∷ ys)
all_below low high i [] y ys e lt r s = absurd (omega arith)
all_below low high zero (x ∷ []) y ys e lt r s = (r.0, r.1, (omega arith, s.1, s.2))
all_below low high zero (x ∷ z ∷ xs) y ys e lt r s = absurd (omega arith)
all_below low high (suc i) (x ∷ xs) y ys e lt r s = (r.0, r.1, all_below (x + 1) high i xs y ys (omega arith) lt r.2 s)

pub below_joined : (xs ys : List ℕ) → IsRising xs → IsRising ys → 0 < length xs → 0 < length ys
    → get_or xs (length xs - 1) 0 < get_or ys 0 0 → IsRising (xs ++ ys)
below_joined xs [] r s h k lt = absurd (omega arith)
below_joined xs (y ∷ ys) r s h k lt = all_below 0 (2 ^ 32) (length xs - 1) xs y ys (omega arith) lt r s

but_cond : (b : Bool) (x : ℕ) (xs : List ℕ) → b ≡ true → cond (not b) (x ∷ xs) xs ≡ xs
but_cond b x xs e = rw e refl

is_under : (a b : ℕ) → a < b → nat_eq a b ≡ false
is_under a b h = grind (arith, nat_tests)

last_above : (low high k : ℕ) (rest : List ℕ) → RisesWithin low high (rest ++ k ∷ []) → low ≤ k
last_above low high k [] r = r.0
last_above low high k (x ∷ rest) r = grind (arith, last_above (x + 1) high k rest r.2)

last_out : (low high k : ℕ) (rest : List ℕ) → RisesWithin low high (rest ++ k ∷ [])
    → rest ≡ filter (λ x. not (nat_eq x k)) (rest ++ k ∷ [])
last_out low high k [] r = sym (but_cond (nat_eq k k) k [] (is_eq k k refl))
last_out low high k (x ∷ rest) r =
    grind (
      arith,
      last_out (x + 1) high k rest r.2,
      is_under x k (omega (arith, (last_above (x + 1) high k rest r.2))),
    )

pub without_last : (k : ℕ) (xs rest : List ℕ) → IsRising xs → xs ≡ rest ++ k ∷ []
    → rest ≡ filter (λ x. not (nat_eq x k)) xs
without_last k xs rest r is = grind (arith, last_out)
