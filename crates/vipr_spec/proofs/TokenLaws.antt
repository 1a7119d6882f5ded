-- Laws of the tokens of a text.
use Rattle.std.proofs.Common.{◌≡◌, ℕ, ◌+◌, ◌<◌, ◌≤◌, Bool, true, false, not, ◌&&◌, ◌==◌, nat_le}
use Rattle.std.proofs.Common.{List, [], ◌∷◌, ◌++◌, length, take, drop, get_or, zero, suc, refl, sym}
use Rattle.std.proofs.Common.{ap, ◌∙◌, arith, add-zero, inl, inr}
use Rattle.std.specs.List.{prefix_len}
use Rattle.std.proofs.lemmas.List.Sums.{prefix_len_is, prefix_len_stops, prefix_len-le-length}
use Rattle.std.proofs.lemmas.Bool.{cases_lt, cases_eq, false≢true, ne_eqb, eq-eqb, le-leb, leb-true}
use Rattle.std.proofs.lemmas.Bool.{false_from_ne_true}
use Rattle.std.proofs.lemmas.List.{length-take-le, take-take, drop_all, take_all}
use Rattle.std.proofs.lemmas.Grind.{common_steps}
use Rattle.vipr_spec.specs.{Token, is_white, run, is_cut, token_here, tokens_from}

-- from inside a run, the tokens are those behind it
pub inside_run : (fails : Bool) (offset : ℕ) (xs : List ℕ) (n : ℕ) → n ≤ length xs →
    ((k : ℕ) → k < n → is_white (get_or xs k 0) ≡ false)
    → (n < length xs → is_white (get_or xs n 0) ≡ true) →
    tokens_from fails true offset xs ≡ tokens_from fails false (offset + n) (drop n xs)
unfolding tokens_from
inside_run fails offset [] zero within solid white = refl
inside_run fails offset [] (suc n) within solid white = refl
inside_run fails offset (x ∷ xs) zero within solid white = grind (arith, add-zero)
inside_run fails offset (x ∷ xs) (suc n) within solid white =
    let s : is_white x ≡ false = solid 0 (omega arith) in
    let e : offset + suc n ≡ offset + 1 + n = omega arith in
    rw (s, e) (inside_run fails (offset + 1) xs n (omega arith) (λ k h. solid (suc k) (omega arith))
    (λ h. white (omega arith)))

-- the run at the front, by its length
pub run_is : (xs : List ℕ) (n : ℕ) → n ≤ length xs →
    ((k : ℕ) → k < n → is_white (get_or xs k 0) ≡ false)
    → (n < length xs → is_white (get_or xs n 0) ≡ true) →
    run xs ≡ take n xs
run_is xs n within solid white = grind (arith, common_steps, prefix_len_is)

-- a run is at least so long
pub run_from : (xs : List ℕ) (n : ℕ) → n ≤ length xs →
    ((k : ℕ) → k < n → is_white (get_or xs k 0) ≡ false)
    → (n ≤ length (run xs)) × (take n (run xs) ≡ take n xs)
run_from xs n within solid =
    let p : ℕ = prefix_len (λ b. not (is_white b)) xs in
    let short : p ≤ length xs = prefix_len-le-length (λ b. not (is_white b)) xs in
    let long : n ≤ p = elim (cases_lt p n) [
      | inl h ↦
          let stops : not (is_white (get_or xs p 0)) ≡ false =
          prefix_len_stops (λ b. not (is_white b)) xs 0 (omega arith) in
          let goes : not (is_white (get_or xs p 0)) ≡ true = ap not (solid p h) in
          absurd (false≢true (sym stops ∙ goes))
      | inr h ↦ h
    ] in
    (rw (length-take-le p xs short) long, take-take n p xs long)

-- a token at the front, and those behind it
pub token_first : (fails : Bool) (offset : ℕ) (xs : List ℕ) (n : ℕ) → 0 < n → n ≤ length xs →
    ((k : ℕ) → k < n → is_white (get_or xs k 0) ≡ false)
    → (n < length xs → is_white (get_or xs n 0) ≡ true) →
    tokens_from fails false offset xs ≡ token_here fails offset xs
    ++ tokens_from fails false (offset + n) (drop n xs)
unfolding tokens_from
token_first fails offset xs n h within solid white = grind (arith, inside_run)

-- what begins with a token that ends before the text does, or at its end
pub token_whole : (fails : Bool) (offset : ℕ) (xs : List ℕ) (n : ℕ) → 0 < n → n ≤ length xs →
    ((k : ℕ) → k < n → is_white (get_or xs k 0) ≡ false)
    → (n < length xs → is_white (get_or xs n 0) ≡ true) →
    (n ≡ length xs → fails ≡ false) →
    tokens_from fails false offset xs ≡ record { bytes = take n xs; offset = offset }
    ∷ tokens_from fails false (offset + n) (drop n xs)
unfolding token_here is_cut
token_whole fails offset xs n some within solid white ends =
    let r : run xs ≡ take n xs = run_is xs n within solid white in
    let l : length (take n xs) ≡ n = length-take-le n xs within in
    let no : is_cut fails (run xs) xs ≡ false = rw (r, l) (not_cut fails n (length xs) ends) in
    let w : token_here fails offset xs ≡ record { bytes = take n xs; offset = offset } ∷ [] = rw (no, r) refl in
    token_first fails offset xs n some within solid white
    ∙ ap (λ (ws : List Token). ws ++ tokens_from fails false (offset + n) (drop n xs)) w
  where
    not_cut : (f : Bool) (a b : ℕ) → (a ≡ b → f ≡ false) → f && (a == b) && nat_le a 65535 ≡ false
    not_cut false a b e = refl
    not_cut true a b e = elim (cases_eq a b) [
      | inl h ↦ absurd (false≢true (sym (e h)))
      | inr h ↦
          rw (ne_eqb a b h) refl
    ]

-- a run that is too long
pub token_long : (fails : Bool) (offset : ℕ) (xs : List ℕ) → 65536 ≤ length xs →
    ((k : ℕ) → k < 65536 → is_white (get_or xs k 0) ≡ false) →
    tokens_from fails false offset xs ≡ record { bytes = run xs; offset = offset }
    ∷ tokens_from fails true (offset + 1) (drop 1 xs)
unfolding tokens_from token_here is_cut
token_long fails offset [] within solid = absurd (omega arith)
token_long fails offset (x ∷ xs) within solid =
    let s : is_white x ≡ false = solid 0 (omega arith) in
    let more : 65536 ≤ length (run (x ∷ xs)) = (run_from (x ∷ xs) 65536 within solid).0 in
    let long : nat_le (length (run (x ∷ xs))) 65535 ≡ false =
    false_from_ne_true _ (λ e. let h : length (run (x ∷ xs)) ≤ 65535 = leb-true _ _ e in
    omega arith) in
    let no : is_cut fails (run (x ∷ xs)) (x ∷ xs) ≡ false =
    rw long (uncut fails (length (run (x ∷ xs)) == length (x ∷ xs))) in
    let first : tokens_from fails false offset (x ∷ xs) ≡ token_here fails offset (x ∷ xs)
    ++ tokens_from fails true (offset + 1) xs = rw s refl in
    let w : token_here fails offset (x ∷ xs) ≡ record { bytes = run (x ∷ xs); offset = offset } ∷ [] = rw no refl in
    first ∙ ap (λ (ws : List Token). ws ++ tokens_from fails true (offset + 1) xs) w
  where
    uncut : (f b : Bool) → f && b && false ≡ false
    uncut false b = refl
    uncut true false = refl
    uncut true true = refl

-- a run up to a failure
pub token_cut : (offset : ℕ) (xs : List ℕ) → 0 < length xs → length xs ≤ 65535 →
    ((k : ℕ) → k < length xs → is_white (get_or xs k 0) ≡ false)
    → tokens_from true false offset xs ≡ []
unfolding tokens_from token_here is_cut
token_cut offset xs some short solid =
    let r : run xs ≡ xs = run_is xs (length xs) (omega arith) solid (λ h. absurd (omega arith))
    ∙ take_all (length xs) xs (omega arith) in
    let yes : is_cut true (run xs) xs ≡ true =
    rw (r, eq-eqb (length xs) (length xs) refl, le-leb (length xs) 65535 short) refl in
    let w : token_here true offset xs ≡ [] = rw yes refl in
    token_first true offset xs (length xs) some (omega arith) solid (λ h. absurd (omega arith))
    ∙ rw (w, drop_all (length xs) xs (omega arith)) refl
