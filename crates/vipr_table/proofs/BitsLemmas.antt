-- A run of words, as a set.
use Rattle.std.proofs.Common.{◌≡◌, ◌≢◌, ℕ, zero, suc, ◌+◌, ◌-◌, ◌*◌, ◌/◌, ◌%◌, ◌^◌, ◌<◌, ◌≤◌, max}
use Rattle.std.proofs.Common.{Bool, true, false, not, cond, ◌||◌, ◌&&◌, nat_eq, nat_le, nat_lt, List, [], ◌∷◌, ◌++◌}
use Rattle.std.proofs.Common.{length, get_or, set, take, refl, sym, ap, ap₂, ◌∙◌, arith, inl, inr, bit_or, w64, ⊎_elim}
use Rattle.std.proofs.lemmas.Bool.{true≢false, cases_eq, cases_lt, cases_order}
use Rattle.std.proofs.lemmas.Bool.Decides.{nat_tests}
use Rattle.std.proofs.lemmas.List.{get_or_past, get_or-set_same, get_or-set_other, get_or-take}
use Rattle.std.proofs.lemmas.List.{take_more, length-take, length-append}
use Rattle.std.proofs.lemmas.Nat.Bits.{bit_at_or, bit_at-zero, bit_at-lt, bit_at_set_same, bit_at_set_other}
use Rattle.std.proofs.lemmas.Nat.Bits.{bit_at_clear_same, bit_at_clear_other, bit_at-trailing_zeros}
use Rattle.std.proofs.lemmas.Nat.{and_le_l}
use Rattle.std.specs.Int.{bit_not, trailing_zeros}
use Rattle.std.specs.Int.Bits.{or_zero_r}
use Rattle.std.specs.Prelude.{bit_and}
use Rattle.std.specs.{Int.bit_at, Ordering.nat_cmp, Cmp.nat_cmp_total}
use Rattle.std.specs.FinSet.{FinSet, contains, empty, insert, union, remove, from_list, from_list_push}
use Rattle.std.specs.FinSet.{nat_cmp-IsAntisymmetric}
use Rattle.std.specs.FinSet.{contains-empty, contains-insert, contains-remove, contains-union}
use Rattle.vipr_table.specs.Rising.{IsRising, RisesWithin}
use Rattle.vipr_table.specs.Bits.{word_at, has_bit, numbers_below, page_set}
use Rattle.vipr_table.proofs.SetLemmas.{same_numbers, tied_numbers}
use Rattle.vipr_table.proofs.UnionsLemmas.{union_assoc}

-- ---- what the set has

with_next : (s : FinSet nat_cmp) (n : ℕ) (b : Bool) (q : ℕ)
    → contains (cond b (insert s n) s) q ≡ ((b && nat_eq q n) || contains s q)
with_next s n true q =
    contains-insert nat_cmp_total s n q ∙ ap (λ t. t || contains s q) (sym (tied_numbers q n))
with_next s n false q = refl

further_same : (p : ℕ → Bool) (n q : ℕ) → q ≡ n
    → ((p n && nat_eq q n) || (nat_lt q n && p q)) ≡ (nat_lt q (suc n) && p q)
further_same p n q same = let e = ap p same in grind (arith, nat_tests)

further_other : (p : ℕ → Bool) (n q : ℕ) → (q ≡ n → ⊥)
    → ((p n && nat_eq q n) || (nat_lt q n && p q)) ≡ (nat_lt q (suc n) && p q)
further_other p n q other = grind (arith, nat_tests)

one_further : (p : ℕ → Bool) (n q : ℕ)
    → ((p n && nat_eq q n) || (nat_lt q n && p q)) ≡ (nat_lt q (suc n) && p q)
one_further p n q = ⊎_elim (further_same p n q) (further_other p n q) (cases_eq q n)

eq_true : (a b : ℕ) → a ≡ b → nat_eq a b ≡ true
eq_true a b e = grind (arith, nat_tests)

eq_false : (a b : ℕ) → (a ≡ b → ⊥) → nat_eq a b ≡ false
eq_false a b e = grind (arith, nat_tests)

none_below : (q : ℕ) (b : Bool) → (nat_lt q 0 && b) ≡ false
none_below q b = grind (arith, nat_tests)

contains-below : (n : ℕ) (p : ℕ → Bool) (q : ℕ) → contains (numbers_below n p) q ≡ (nat_lt q n && p q)
unfolding numbers_below
contains-below zero p q = contains-empty nat_cmp q ∙ sym (none_below q (p q))
contains-below (suc n) p q =
    with_next (numbers_below n p) n (p n) q
    ∙ ap (λ t. (p n && nat_eq q n) || t) (contains-below n p q)
    ∙ one_further p n q

pub word_before : (first k : ℕ) (words : List ℕ) → k < first → word_at first words k ≡ 0
word_before first k words lt = grind (arith, nat_tests)

pub word_past : (first k : ℕ) (words : List ℕ) → first + length words ≤ k → word_at first words k ≡ 0
word_past first k words le =
    let past = get_or_past words (k - first) 0 (omega (arith, le)) in grind (arith, nat_tests)

no_bit : (w i : ℕ) → w ≡ 0 → nat_eq (bit_at w i) 1 ≡ false
no_bit w i e = ap (λ v. nat_eq (bit_at v i) 1) e ∙ ap (λ b. nat_eq b 1) (bit_at-zero i)

not_below : (q n : ℕ) → nat_lt q n ≡ false → n ≤ q
not_below q n e = grind (arith, nat_tests)

within : (first q : ℕ) (words : List ℕ)
    → (nat_lt q (64 * (first + length words)) && has_bit first words q) ≡ has_bit first words q
within first q words = by (nat_lt q (64 * (first + length words))) refl
  where
    by : (b : Bool) → nat_lt q (64 * (first + length words)) ≡ b
        → (b && has_bit first words q) ≡ has_bit first words q
    by true e = refl
    by false e =
        let above : 64 * (first + length words) ≤ q = not_below q _ e in
        sym (no_bit _ (q % 64) (word_past first (q / 64) words (omega (arith, above))))

pub contains-page_set : (first : ℕ) (words : List ℕ) (q : ℕ)
    → contains (page_set first words) q ≡ has_bit first words q
unfolding page_set
contains-page_set first words q = contains-below _ (has_bit first words) q ∙ within first q words

-- ---- equal words, and the words of both

pub same_words : (f g : ℕ) (xs ys : List ℕ) → ((k : ℕ) → word_at f xs k ≡ word_at g ys k)
    → page_set f xs ≡ page_set g ys
same_words f g xs ys each = same_numbers _ _ (λ q.
    contains-page_set f xs q
    ∙ ap (λ w. nat_eq (bit_at w (q % 64)) 1) (each (q / 64))
    ∙ sym (contains-page_set g ys q))

either : (x y z : ℕ) → z ≡ max x y → x < 2 → y < 2 → nat_eq z 1 ≡ (nat_eq x 1 || nat_eq y 1)
either x y z is a b = grind (arith, nat_tests)

or_bit : (v w i : ℕ) → nat_eq (bit_at (bit_or v w) i) 1 ≡ (nat_eq (bit_at v i) 1 || nat_eq (bit_at w i) 1)
or_bit v w i = either _ _ _ (bit_at_or v w i) (bit_at-lt v i) (bit_at-lt w i)

pub page_union : (h f g : ℕ) (zs xs ys : List ℕ)
    → ((k : ℕ) → word_at h zs k ≡ bit_or (word_at f xs k) (word_at g ys k))
    → page_set h zs ≡ union (page_set f xs) (page_set g ys)
page_union h f g zs xs ys each = same_numbers _ _ (λ q.
    contains-page_set h zs q
    ∙ ap (λ w. nat_eq (bit_at w (q % 64)) 1) (each (q / 64))
    ∙ or_bit (word_at f xs (q / 64)) (word_at g ys (q / 64)) (q % 64)
    ∙ sym (contains-union nat_cmp_total _ _ q
    ∙ ap₂ (λ a b. a || b) (contains-page_set f xs q) (contains-page_set g ys q)))

-- ---- one bit more or less

pub one_less : (f i : ℕ) (xs zs : List ℕ) → ((q : ℕ) → q ≢ i → has_bit f zs q ≡ has_bit f xs q)
    → has_bit f zs i ≡ false → page_set f zs ≡ remove (page_set f xs) i
one_less f i xs zs others gone = same_numbers _ _ (λ q.
    contains-page_set f zs q
    ∙ by q
    ∙ sym (contains-remove nat_cmp_total (page_set f xs) i q
    ∙ ap₂ (λ a b. not a && b) (sym (tied_numbers q i)) (contains-page_set f xs q)))
  where
    by : (q : ℕ) → has_bit f zs q ≡ (not (nat_eq q i) && has_bit f xs q)
    by q = elim (cases_eq q i) [
      | inl same ↦
          ap (has_bit f zs) same ∙ gone
          ∙ ap (λ b. not b && has_bit f xs q) (sym (eq_true q i same))
      | inr other ↦
          others q other
          ∙ ap (λ b. not b && has_bit f xs q) (sym (eq_false q i other))
    ]

pub one_more : (f i : ℕ) (xs zs : List ℕ) → ((q : ℕ) → q ≢ i → has_bit f zs q ≡ has_bit f xs q)
    → has_bit f zs i ≡ true → page_set f zs ≡ insert (page_set f xs) i
one_more f i xs zs others here = same_numbers _ _ (λ q.
    contains-page_set f zs q
    ∙ by q
    ∙ sym (contains-insert nat_cmp_total (page_set f xs) i q
    ∙ ap₂ (λ a b. a || b) (sym (tied_numbers q i)) (contains-page_set f xs q)))
  where
    by : (q : ℕ) → has_bit f zs q ≡ (nat_eq q i || has_bit f xs q)
    by q = elim (cases_eq q i) [
      | inl same ↦
          ap (has_bit f zs) same ∙ here
          ∙ ap (λ b. b || has_bit f xs q) (sym (eq_true q i same))
      | inr other ↦
          others q other
          ∙ ap (λ b. b || has_bit f xs q) (sym (eq_false q i other))
    ]

-- a word is written
pub word_written : (f i v : ℕ) (xs : List ℕ) → f ≤ i → i - f < length xs
    → word_at f (set xs (i - f) v) i ≡ v
word_written f i v xs le lt = grind (arith, nat_tests, get_or-set_same)

pub word_beside : (f i k v : ℕ) (xs : List ℕ) → f ≤ i → k ≢ i
    → word_at f (set xs (i - f) v) k ≡ word_at f xs k
word_beside f i k v xs le other = elim (cases_lt k f) [
  | inl before ↦ word_before f k (set xs (i - f) v) before ∙ sym (word_before f k xs before)
  | inr from ↦
      ap (λ w. cond (nat_le f k) w 0)
      (let apart : k - f ≢ i - f = omega (arith, le, from, other) in get_or-set_other xs (i - f) (k - f) v 0 apart)
]

-- .. in which one bit changes
pub bits_beside : (f i : ℕ) (xs zs : List ℕ)
    → ((k : ℕ) → k ≢ i / 64 → word_at f zs k ≡ word_at f xs k)
    → ((j : ℕ) → j < 64 → j ≢ i % 64 → bit_at (word_at f zs (i / 64)) j ≡ bit_at (word_at f xs (i / 64)) j)
    → (q : ℕ) → q ≢ i → has_bit f zs q ≡ has_bit f xs q
bits_beside f i xs zs words bits q other = elim (cases_eq (q / 64) (i / 64)) [
  | inl same ↦
      let apart : q % 64 ≢ i % 64 = omega (arith, same, other) in
      let here = bits (q % 64) (omega arith) apart in
      ap (λ k. nat_eq (bit_at (word_at f zs k) (q % 64)) 1) same
      ∙ ap (λ b. nat_eq b 1) here
      ∙ sym (ap (λ k. nat_eq (bit_at (word_at f xs k) (q % 64)) 1) same)
  | inr elsewhere ↦ ap (λ w. nat_eq (bit_at w (q % 64)) 1) (words (q / 64) elsewhere)
]

word_is : (f k : ℕ) (xs : List ℕ) → f ≤ k → word_at f xs k ≡ get_or xs (k - f) 0
word_is f k xs le = grind (arith, nat_tests)

-- .. by `|=` and by `&=`

bit_within : (i : ℕ) → i % 64 < 64
bit_within i = omega arith

other_bits : (f i v : ℕ) (xs : List ℕ) → f ≤ i / 64 → i / 64 - f < length xs
    → ((j : ℕ) → j < 64 → j ≢ i % 64 → bit_at v j ≡ bit_at (get_or xs (i / 64 - f) 0) j)
    → (q : ℕ) → q ≢ i → has_bit f (set xs (i / 64 - f) v) q ≡ has_bit f xs q
other_bits f i v xs le lt bits =
    bits_beside f i xs (set xs (i / 64 - f) v) (λ k ne. word_beside f (i / 64) k v xs le ne)
    (λ j small ne.
    ap (λ w. bit_at w j) (word_written f (i / 64) v xs le lt)
    ∙ bits j small ne
    ∙ sym (ap (λ w. bit_at w j) (word_is f (i / 64) xs le)))

this_bit : (f i v b : ℕ) (xs : List ℕ) → f ≤ i / 64 → i / 64 - f < length xs → bit_at v (i % 64) ≡ b
    → has_bit f (set xs (i / 64 - f) v) i ≡ nat_eq b 1
this_bit f i v b xs le lt is =
    ap (λ w. nat_eq (bit_at w (i % 64)) 1) (word_written f (i / 64) v xs le lt) ∙ ap (λ n. nat_eq n 1) is

pub bit_put : (f i : ℕ) (xs : List ℕ) → f ≤ i / 64 → i / 64 - f < length xs
    → page_set f (set xs (i / 64 - f) (bit_or (get_or xs (i / 64 - f) 0) (1 * 2 ^ (i % 64) % 2 ^ 64)))
    ≡ insert (page_set f xs) i
bit_put f i xs le lt =
    let w : ℕ = get_or xs (i / 64 - f) 0 in
    one_more f i xs _
    (other_bits f i _ xs le lt (λ j small ne. bit_at_set_other w64 w (i % 64) (bit_within i) j ne))
    (this_bit f i _ 1 xs le lt (bit_at_set_same w64 w (i % 64) (bit_within i)))

pub bit_cleared : (f i : ℕ) (xs : List ℕ) → f ≤ i / 64 → i / 64 - f < length xs
    → page_set f (set xs (i / 64 - f) (bit_and (get_or xs (i / 64 - f) 0) (bit_not w64 (1 * 2 ^ (i % 64) % 2 ^ 64))))
    ≡ remove (page_set f xs) i
bit_cleared f i xs le lt =
    let w : ℕ = get_or xs (i / 64 - f) 0 in
    one_less f i xs _
    (other_bits f i _ xs le lt (λ j small ne. bit_at_clear_other w64 w (i % 64) (bit_within i) j small ne))
    (this_bit f i _ 0 xs le lt (bit_at_clear_same w64 w (i % 64) (bit_within i)))

-- a number whose word isn't there isn't in the set
pub absent_before : (f i : ℕ) (xs : List ℕ) → i / 64 < f → contains (page_set f xs) i ≡ false
absent_before f i xs lt = contains-page_set f xs i ∙ no_bit _ (i % 64) (word_before f (i / 64) xs lt)

pub absent_past : (f i : ℕ) (xs : List ℕ) → f + length xs ≤ i / 64 → contains (page_set f xs) i ≡ false
absent_past f i xs le = contains-page_set f xs i ∙ no_bit _ (i % 64) (word_past f (i / 64) xs le)

-- ---- the words of both, one by one

pub united_words : (start end f g : ℕ) (zs xs ys : List ℕ) → start ≤ f → start ≤ g
    → f + length xs ≤ end → g + length ys ≤ end → start + length zs ≡ end
    → ((k : ℕ) → k < length zs → get_or zs k 0 ≡ bit_or (word_at f xs (start + k)) (word_at g ys (start + k)))
    → (k : ℕ) → word_at start zs k ≡ bit_or (word_at f xs k) (word_at g ys k)
united_words start end f g zs xs ys sf sg xe ye ze each k = elim (cases_lt k start) [
  | inl before ↦
      word_before start k zs before
      ∙ sym (ap₂ bit_or (word_before f k xs (omega (arith, before, sf)))
      (word_before g k ys (omega (arith, before, sg))))
  | inr from ↦ elim (cases_lt k end) [
    | inl inside ↦
        word_is start k zs from
        ∙ each (k - start) (omega (arith, from, inside, ze))
        ∙ (let e : start + (k - start) ≡ k = omega (arith, from) in
        ap (λ n. bit_or (word_at f xs n) (word_at g ys n)) e)
    | inr past ↦
        word_past start k zs (omega (arith, past, ze))
        ∙ sym (ap₂ bit_or (word_past f k xs (omega (arith, past, xe))) (word_past g k ys (omega (arith, past, ye))))
  ]
]

-- ---- no word, and one word more

pub zero_words : (f : ℕ) (xs : List ℕ) → ((k : ℕ) → k < length xs → get_or xs k 0 ≡ 0) → page_set f xs ≡ empty
zero_words f xs none = same_numbers _ _ (λ q.
    contains-page_set f xs q ∙ no_bit _ (q % 64) (zero (q / 64)) ∙ sym (contains-empty nat_cmp q))
  where
    zero : (k : ℕ) → word_at f xs k ≡ 0
    zero k = elim (cases_lt k f) [
      | inl before ↦ word_before f k xs before
      | inr from ↦ elim (cases_lt (k - f) (length xs)) [
        | inl inside ↦ word_is f k xs from ∙ none (k - f) inside
        | inr past ↦ word_past f k xs (omega (arith, from, past))
      ]
    ]

bit_is : (f k b : ℕ) (xs : List ℕ) → b < 64 → bit_at (get_or xs k 0) b ≡ 1
    → contains (page_set f xs) (64 * (f + k) + b) ≡ true
bit_is f k b xs small set =
    let word : (64 * (f + k) + b) / 64 ≡ f + k = omega (arith, small) in
    let bit : (64 * (f + k) + b) % 64 ≡ b = omega (arith, small) in
    let back : f + k - f ≡ k = omega arith in
    contains-page_set f xs (64 * (f + k) + b)
    ∙ ap₂ (λ n j. nat_eq (bit_at (word_at f xs n) j) 1) word bit
    ∙ ap (λ w. nat_eq (bit_at w b) 1) (word_is f (f + k) xs (omega arith) ∙ ap (λ n. get_or xs n 0) back)
    ∙ ap (λ n. nat_eq n 1) set

pub some_word : (f k : ℕ) (xs : List ℕ) → 0 < get_or xs k 0 → get_or xs k 0 < 2 ^ 64
    → page_set f xs ≡ empty → ⊥
some_word f k xs more fits none =
    let low = bit_at-trailing_zeros w64 (get_or xs k 0) more fits in
    let b : ℕ = trailing_zeros w64 (get_or xs k 0) in
    let here = bit_is f k b xs low.0 low.1 in
    let gone = ap (λ s. contains s (64 * (f + k) + b)) none in
    let nothing = contains-empty nat_cmp (64 * (f + k) + b) in
    absurd (true≢false (sym here ∙ gone ∙ nothing))

pub one_word_more : (f i : ℕ) (xs : List ℕ) → i < length xs
    → page_set f (take (i + 1) xs) ≡ union (page_set f (take i xs)) (page_set (f + i) (get_or xs i 0 ∷ []))
one_word_more f i xs lt = page_union f f (f + i) (take (i + 1) xs) (take i xs) (get_or xs i 0 ∷ []) each
  where
    w : ℕ
    w = get_or xs i 0

    each : (k : ℕ) → word_at f (take (i + 1) xs) k
        ≡ bit_or (word_at f (take i xs) k) (word_at (f + i) (get_or xs i 0 ∷ []) k)
    each k = elim (cases_order k (f + i)) [
      | inl same ↦
          let at : k - f ≡ i = omega (arith, same) in
          let zero : k - (f + i) ≡ 0 = omega (arith, same) in
          word_is f k (take (i + 1) xs) (omega (arith, same))
          ∙ ap (λ n. get_or (take (i + 1) xs) n 0) at
          ∙ get_or-take (i + 1) xs i 0 (omega arith)
          ∙ sym (ap₂ bit_or (word_past f k (take i xs) (omega (arith, same, length-take i xs, lt)))
          (word_is (f + i) k (get_or xs i 0 ∷ []) (omega (arith, same))
          ∙ ap (λ n. get_or (get_or xs i 0 ∷ []) n 0) zero))
      | inr (inl before) ↦ elim (cases_lt k f) [
        | inl low ↦
            word_before f k (take (i + 1) xs) low
            ∙ sym (ap₂ bit_or (word_before f k (take i xs) low) (word_before (f + i) k (get_or xs i 0 ∷ []) before))
        | inr from ↦
            word_is f k (take (i + 1) xs) from
            ∙ get_or-take (i + 1) xs (k - f) 0 (omega (arith, before, from))
            ∙ sym (get_or-take i xs (k - f) 0 (omega (arith, before, from)))
            ∙ sym (word_is f k (take i xs) from)
            ∙ sym (or_zero_r (word_at f (take i xs) k))
            ∙ sym (ap (bit_or (word_at f (take i xs) k)) (word_before (f + i) k (get_or xs i 0 ∷ []) before))
      ]
      | inr (inr past) ↦
          word_past f k (take (i + 1) xs) (omega (arith, past, length-take (i + 1) xs))
          ∙ sym (ap₂ bit_or (word_past f k (take i xs) (omega (arith, past, length-take i xs)))
          (word_past (f + i) k (get_or xs i 0 ∷ []) (omega (arith, past))))
    ]

-- ---- one number after another

moved_here : (e a b : Bool) → e ≡ true → b ≡ true → ((e || a) || (not e && b)) ≡ (a || b)
moved_here e a b is here = grind arith

moved_not : (e a b : Bool) → e ≡ false → ((e || a) || (not e && b)) ≡ (a || b)
moved_not e a b is = grind arith

moved : (s t : FinSet nat_cmp) (i : ℕ) → contains t i ≡ true → union (insert s i) (remove t i) ≡ union s t
moved s t i here = same_numbers _ _ (λ q.
    contains-union nat_cmp_total (insert s i) (remove t i) q
    ∙ ap₂ (λ a b. a || b) (contains-insert nat_cmp_total s i q ∙ ap (λ b. b || contains s q) (sym (tied_numbers q i)))
    (contains-remove nat_cmp_total t i q ∙ ap (λ b. not b && contains t q) (sym (tied_numbers q i)))
    ∙ by q
    ∙ sym (contains-union nat_cmp_total s t q))
  where
    by : (q : ℕ) → ((nat_eq q i || contains s q) || (not (nat_eq q i) && contains t q)) ≡ (contains s q || contains t q)
    by q = elim (cases_eq q i) [
      | inl same ↦ moved_here (nat_eq q i) (contains s q) (contains t q) (eq_true q i same)
          (ap (contains t) same ∙ here)
      | inr other ↦ moved_not (nat_eq q i) (contains s q) (contains t q) (eq_false q i other)
    ]

-- the lowest 1 of a word goes to a list
pub lowest_moved : (n w : ℕ) (all : FinSet nat_cmp) (xs ys : List ℕ) → 0 < w → w < 2 ^ 64
    → ys ≡ xs ++ (n * 64 + trailing_zeros w64 w) ∷ []
    → union (from_list xs) (page_set n (w ∷ [])) ≡ all
    → union (from_list ys) (page_set n (bit_and w (bit_not w64 (1 * 2 ^ trailing_zeros w64 w % 2 ^ 64)) ∷ [])) ≡ all
lowest_moved n w all xs ys more fits is so_far =
    let low = bit_at-trailing_zeros w64 w more fits in
    let b : ℕ = trailing_zeros w64 w in
    let word : (n * 64 + b) / 64 ≡ n = omega (arith, low.0) in
    let bit : (n * 64 + b) % 64 ≡ b = omega (arith, low.0) in
    let place : (n * 64 + b) / 64 - n ≡ 0 = omega (arith, word) in
    let less = bit_cleared n (n * 64 + b) (w ∷ []) (omega (arith, word)) (omega (arith, place)) in
    let cleared = rw (place, bit) at less in
    let here : contains (page_set n (w ∷ [])) (n * 64 + b) ≡ true =
    ap (contains (page_set n (w ∷ []))) (let e : n * 64 + b ≡ 64 * (n + 0) + b = omega arith in e)
    ∙ bit_is n 0 b (w ∷ []) low.0 low.1 in
    ap₂ union (ap from_list is ∙ from_list_push nat_cmp_total nat_cmp-IsAntisymmetric xs (n * 64 + b)) cleared
    ∙ moved (from_list xs) (page_set n (w ∷ [])) (n * 64 + b) here
    ∙ so_far

pub lower : (w : ℕ) → 0 < w → w < 2 ^ 64
    → bit_and w (bit_not w64 (1 * 2 ^ trailing_zeros w64 w % 2 ^ 64)) < w
lower w more fits =
    let low = bit_at-trailing_zeros w64 w more fits in
    let b : ℕ = trailing_zeros w64 w in
    let left : ℕ = bit_and w (bit_not w64 (1 * 2 ^ b % 2 ^ 64)) in
    let gone : bit_at left b ≡ 0 = bit_at_clear_same w64 w b low.0 in
    elim (cases_eq left w) [
      | inl same ↦ absurd (let both : bit_at left b ≡ bit_at w b = ap (λ x. bit_at x b) same in
          omega (arith, gone, low.1, both))
      | inr other ↦ omega (arith, other, and_le_l w (bit_not w64 (1 * 2 ^ b % 2 ^ 64)))
    ]

-- ---- rising numbers are in words from the first one on

rises_above : (low high : ℕ) (xs : List ℕ) → RisesWithin low high xs → (k d : ℕ) → k < length xs → low ≤ get_or xs k d
rises_above low high [] r k d lt = absurd (omega arith)
rises_above low high (x ∷ xs) r zero d lt = r.0
rises_above low high (x ∷ xs) r (suc k) d lt =
    let le : low ≤ x = r.0 in
    let more = rises_above (x + 1) high xs r.2 k d (omega arith) in omega (arith, le, more)

pub first_least : (xs : List ℕ) → IsRising xs → (k d : ℕ) → k < length xs → get_or xs 0 0 / 64 ≤ get_or xs k d / 64
first_least [] r k d lt = absurd (omega arith)
first_least (x ∷ xs) r zero d lt = omega arith
first_least (x ∷ xs) r (suc k) d lt =
    let more = rises_above (x + 1) (2 ^ 32) xs r.2 k d (omega arith) in omega (arith, more)

-- ---- words of 0 are added

pub zero_pushed : (xs : List ℕ) (k : ℕ) → get_or (xs ++ 0 ∷ []) k 0 ≡ get_or xs k 0
zero_pushed [] zero = refl
zero_pushed [] (suc k) = refl
zero_pushed (x ∷ xs) zero = refl
zero_pushed (x ∷ xs) (suc k) = zero_pushed xs k

pub lengthened : (f : ℕ) (xs ys : List ℕ) → ((k : ℕ) → get_or ys k 0 ≡ get_or xs k 0) → page_set f ys ≡ page_set f xs
lengthened f xs ys same = same_words f f ys xs (λ k. ap (λ w. cond (nat_le f k) w 0) (same (k - f)))

-- ---- the words of rising numbers, one number more

pub one_put_more : (f : ℕ) (items xs ys : List ℕ) (i : ℕ) → i < length items
    → page_set f xs ≡ from_list (take i items) → ((k : ℕ) → get_or ys k 0 ≡ get_or xs k 0)
    → f ≤ get_or items i 0 / 64 → get_or items i 0 / 64 - f < length ys
    → page_set f (set ys (get_or items i 0 / 64 - f)
    (bit_or (get_or ys (get_or items i 0 / 64 - f) 0) (1 * 2 ^ (get_or items i 0 % 64) % 2 ^ 64)))
    ≡ from_list (take (i + 1) items)
one_put_more f items xs ys i lt so_far same le within =
    bit_put f (get_or items i 0) ys le within
    ∙ ap (λ s. insert s (get_or items i 0)) (lengthened f xs ys same ∙ so_far)
    ∙ sym (from_list_push nat_cmp_total nat_cmp-IsAntisymmetric (take i items) (get_or items i 0))
    ∙ ap from_list (sym (take_more items i 0 lt))

pub no_word : (f : ℕ) → page_set f [] ≡ empty
no_word f = zero_words f [] (λ k lt. absurd (omega arith))

pub zero_word : (f w : ℕ) → w ≡ 0 → page_set f (w ∷ []) ≡ empty
zero_word f w e = ap (λ v. page_set f (v ∷ [])) e ∙ lengthened f [] (0 ∷ []) (zero_pushed []) ∙ no_word f

-- the words of both so far, and the next one

last_pushed : (xs : List ℕ) (v : ℕ) → get_or (xs ++ v ∷ []) (length xs) 0 ≡ v
last_pushed [] v = refl
last_pushed (x ∷ xs) v = last_pushed xs v

kept_pushed : (xs : List ℕ) (v k : ℕ) → k < length xs → get_or (xs ++ v ∷ []) k 0 ≡ get_or xs k 0
kept_pushed [] v k lt = absurd (omega arith)
kept_pushed (x ∷ xs) v zero lt = refl
kept_pushed (x ∷ xs) v (suc k) lt = kept_pushed xs v k (omega arith)

pub each_more : (start f g n v : ℕ) (all new xs ys : List ℕ) → new ≡ all ++ v ∷ [] → start + length all ≡ n
    → v ≡ bit_or (word_at f xs n) (word_at g ys n)
    → ((k : ℕ) → k < length all → get_or all k 0 ≡ bit_or (word_at f xs (start + k)) (word_at g ys (start + k)))
    → (k : ℕ) → k < length new
    → get_or new k 0 ≡ bit_or (word_at f xs (start + k)) (word_at g ys (start + k))
each_more start f g n v all new xs ys is count value each k lt = elim (cases_lt k (length all)) [
  | inl before ↦ ap (λ l. get_or l k 0) is ∙ kept_pushed all v k before ∙ each k before
  | inr from ↦
      let long : length new ≡ length all + 1 = ap length is ∙ length-append all (v ∷ []) in
      let last : k ≡ length all = omega (arith, lt, from, long) in
      let at : n ≡ start + k = omega (arith, count, last) in
      ap₂ (λ l j. get_or l j 0) is last ∙ last_pushed all v ∙ value
      ∙ ap (λ m. bit_or (word_at f xs m) (word_at g ys m)) at
]

pub more_words : (f i w : ℕ) (ws : List ℕ) (old now next : FinSet nat_cmp) → i < length ws → w ≡ get_or ws i 0
    → now ≡ union old (page_set f (take i ws)) → next ≡ union now (page_set (f + i) (w ∷ []))
    → next ≡ union old (page_set f (take (i + 1) ws))
more_words f i w ws old now next lt is so_far step =
    step
    ∙ ap₂ (λ s v. union s (page_set (f + i) (v ∷ []))) so_far is
    ∙ union_assoc old (page_set f (take i ws)) (page_set (f + i) (get_or ws i 0 ∷ []))
    ∙ ap (union old) (sym (one_word_more f i ws lt))
