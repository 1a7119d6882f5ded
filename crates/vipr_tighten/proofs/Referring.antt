-- Last references, index by index
use Rattle.std.proofs.Common.{◌≡◌, ℕ, zero, suc, ◌+◌, ◌<◌, ◌≤◌, Bool, true, false, cond, ◌&&◌, ◌||◌}
use Rattle.std.proofs.Common.{nat_eq, List, [], ◌∷◌, take, map, length, get_or, Some, arith, refl}
use Rattle.std.proofs.Common.{sym, ◌∙◌, ap, ap₂}
use Rattle.std.proofs.{Math.Bool.and-false, Math.Bool.and-true, Math.ListN.set, lemmas.Bool.ne_eqb}
use Rattle.std.proofs.{lemmas.List.length-map, lemmas.List.Folds.list_any_more}
use Rattle.std.specs.List.{list_any}
use Rattle.vipr_spec.specs.Certificate.{Derivation}
use Rattle.vipr_spec.specs.{Fraction.ℚ, Reading.is_nonzero, Tightened.referred_by}

-- ---- tests

pub referred_alike : (p q : ℕ → Bool) (last k : ℕ) (ds : List Derivation) → ((i : ℕ) → p i ≡ q i)
    → referred_by p last k ds ≡ referred_by q last k ds
referred_alike p q last k [] same = refl
referred_alike p q last k (d ∷ ds) same =
    ap₂ (λ b l. record d { last = cond b (Some last) d.last } ∷ l) (same k)
    (referred_alike p q last (suc k) ds same)

pub referred_both : (p q : ℕ → Bool) (last k : ℕ) (ds : List Derivation)
    → referred_by q last k (referred_by p last k ds) ≡ referred_by (λ i. p i || q i) last k ds
referred_both p q last k [] = refl
referred_both p q last k (d ∷ ds) = ap₂ (λ o l. record d { last = o } ∷ l) (by (p k) (q k))
    (referred_both p q last (suc k) ds)
  where
    by : (a b : Bool) → cond b (Some last) (cond a (Some last) d.last) ≡ cond (a || b) (Some last) d.last
    by true true = refl
    by true false = refl
    by false true = refl
    by false false = refl

pub referred_none : (p : ℕ → Bool) (last k : ℕ) (ds : List Derivation)
    → ((i : ℕ) → k ≤ i → i < k + length ds → p i ≡ false) → referred_by p last k ds ≡ ds
referred_none p last k [] none = refl
referred_none p last k (d ∷ ds) none =
    ap₂ (λ b l. record d { last = cond b (Some last) d.last } ∷ l)
    (none k (omega arith) (omega arith))
    (referred_none p last (suc k) ds (λ i a b. none i (omega arith) (omega arith)))

-- ---- one index

pub referred_at : {D : Type 0} (derived : D → Derivation) (last k : ℕ) (xs : List D)
    (place index : ℕ) (x new : D) → index ≡ k + place → place < length xs → x ≡ get_or xs place x
    → derived new ≡ record (derived x) { last = Some last }
    → map derived (set xs place new)
    ≡ referred_by (λ i. nat_eq i index) last k (map derived xs)
referred_at derived last k [] place index x new e h is set_is = absurd (omega arith)
referred_at derived last k (y ∷ xs) zero index x new e h is set_is = grind (arith, referred_none)
referred_at derived last k (y ∷ xs) (suc place) index x new e h is set_is =
    ap₂ (λ o l. record (derived y) { last = o } ∷ l)
    (ap (λ b. cond b (Some last) (derived y).last) (sym (ne_eqb k index (λ same. omega arith))))
    (referred_at derived last (suc k) xs place index x new (omega arith) (omega arith) is set_is)

-- before the first one, and past the last one
pub referred_outside : {D : Type 0} (derived : D → Derivation) (last k : ℕ) (xs : List D)
    (index : ℕ) → ((i : ℕ) → k ≤ i → i < k + length xs → ¬ (i ≡ index))
    → map derived xs ≡ referred_by (λ i. nat_eq i index) last k (map derived xs)
referred_outside derived last k xs index out =
    let size : length (map derived xs) ≡ length xs = length-map xs derived in
    sym (referred_none (λ i. nat_eq i index) last k (map derived xs) (λ i a b. ne_eqb i index (out i a (omega arith))))

-- ---- entry by entry

abbrev names : ℕ → ℕ × ℚ → Bool
names i e = nat_eq i e.0 && is_nonzero e

module _ (last k : ℕ) (es : List (ℕ × ℚ)) (n : ℕ) (e : ℕ × ℚ) (h : n < length es)
    (is : e ≡ get_or es n e) (old mid : List Derivation)
    (so_far : mid ≡ referred_by (λ i. list_any (names i) (take n es)) last k old) where
  more : (new : List Derivation) → new ≡ referred_by (λ i. names i e) last k mid
      → new ≡ referred_by (λ i. list_any (names i) (take (n + 1) es)) last k old
  more new this =
      this ∙ ap (referred_by (λ i. names i e) last k) so_far
      ∙ referred_both (λ i. list_any (names i) (take n es)) (λ i. names i e) last k old
      ∙ referred_alike (λ i. list_any (names i) (take n es) || names i e)
      (λ i. list_any (names i) (take (n + 1) es)) last k old
      (λ i. ap (λ x. list_any (names i) (take n es) || names i x) is ∙ sym (list_any_more (names i) es n e h))

  pub entry_referred : (new : List Derivation) → is_nonzero e ≡ true → new ≡ referred_by (λ i. nat_eq i e.0) last k mid
      → new ≡ referred_by (λ i. list_any (names i) (take (n + 1) es)) last k old
  entry_referred new t this =
      more new (this ∙ referred_alike (λ i. nat_eq i e.0) (λ i. names i e) last k mid
      (λ i. sym (and-true (nat_eq i e.0)) ∙ ap (λ u. nat_eq i e.0 && u) (sym t)))

  pub entry_skipped : is_nonzero e ≡ false → mid ≡ referred_by (λ i. list_any (names i) (take (n + 1) es)) last k old
  entry_skipped t =
      more mid (sym
      (referred_none (λ i. names i e) last k mid (λ i a b. ap (λ u. nat_eq i e.0 && u) t
      ∙ and-false (nat_eq i e.0))))

pub none_referred : (last k : ℕ) (ds : List Derivation) → ds ≡ referred_by (λ i. false) last k ds
none_referred last k ds = sym (referred_none (λ i. false) last k ds (λ i a b. refl))

-- ---- the four indices of a split

pub four_referred : (p q r s : ℕ → Bool) (last k : ℕ) (ds0 ds1 ds2 ds3 ds4 : List Derivation)
    → ds1 ≡ referred_by p last k ds0 → ds2 ≡ referred_by q last k ds1
    → ds3 ≡ referred_by r last k ds2 → ds4 ≡ referred_by s last k ds3
    → ds4 ≡ referred_by (λ i. p i || (q i || (r i || s i))) last k ds0
four_referred p q r s last k ds0 ds1 ds2 ds3 ds4 a b c d = grind (arith, referred_both)
