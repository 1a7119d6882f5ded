-- Digits read one by one
use Rattle.std.proofs.Common.{◌≡◌, ◌≢◌, ℕ, ◌+◌, ◌-◌, ◌*◌, ◌<◌, ◌≤◌, ◌⊎◌, List, ◌∷◌, length, drop}
use Rattle.std.proofs.Common.{get_or, Some, None, arith, sym, ◌∙◌, ap, drop-cons, add-one}
use Rattle.std.proofs.{lemmas.Bool.Decides.nat_tests, lemmas.List.drop_all}
use Rattle.vipr_spec.specs.{natural_after, natural_of}

pub natural_of_empty : (bs : List ℕ) → length bs ≡ 0 → natural_of bs ≡ None
unfolding natural_of
natural_of_empty bs e = grind arith

pub natural_of_some : (bs : List ℕ) → length bs ≢ 0 → natural_after 0 bs ≡ natural_of bs
unfolding natural_of
natural_of_some bs e = grind arith

head_digit : (n b : ℕ) (bs : List ℕ) → 48 ≤ b → b ≤ 57
    → natural_after n (b ∷ bs) ≡ natural_after (n * 10 + (b - 48)) bs
unfolding natural_after
head_digit n b bs low high = grind (arith, nat_tests)

head_other : (n b : ℕ) (bs : List ℕ) → (b < 48) ⊎ (57 < b) → natural_after n (b ∷ bs) ≡ None
unfolding natural_after
head_other n b bs h = grind (arith, nat_tests)

pub next_digit : (n i : ℕ) (bs : List ℕ) → i < length bs → 48 ≤ get_or bs i 0 → get_or bs i 0 ≤ 57
    → natural_after (n * 10 + (get_or bs i 0 - 48)) (drop (i + 1) bs) ≡ natural_after n (drop i bs)
next_digit n i bs h low high =
    rw (add-one)
    (sym (ap (natural_after n) (drop-cons bs i 0 h) ∙ head_digit n (get_or bs i 0) _ low high))

pub next_other : (n i : ℕ) (bs : List ℕ) → i < length bs
    → (get_or bs i 0 < 48) ⊎ (57 < get_or bs i 0) → natural_after n (drop i bs) ≡ None
next_other n i bs h other = ap (natural_after n) (drop-cons bs i 0 h) ∙ head_other n (get_or bs i 0) _ other

pub at_end : (n i : ℕ) (bs : List ℕ) → length bs ≤ i → natural_after n (drop i bs) ≡ Some n
unfolding natural_after
at_end n i bs h = ap (natural_after n) (drop_all i bs h)
