-- Digits, and the number that they write
use Rattle.std.proofs.Common.{◌≡◌, ℕ, ◌+◌, ◌-◌, ◌*◌, Bool, if◌then◌else◌, List}
use Rattle.std.proofs.Common.{[], ◌∷◌, Some, None, arith, refl}
use Rattle.std.proofs.lemmas.Bool.Decides.{nat_tests}
use Rattle.std.specs.{Str.Parse.AllDigits, Str.Parse.digits_value_after}
use Rattle.vipr_spec.specs.{is_digit, natural_after, natural_of, ReadsNaturals}
use Rattle.vipr_spec.specs.Grammar.{SpellsNatural}

module _ (b : ℕ) (bs : List ℕ) (n m : ℕ) where
  more_sound : (natural_after (n * 10 + (b - 48)) bs ≡ Some m
      → AllDigits 10 bs × (digits_value_after 10 (n * 10 + (b - 48)) bs ≡ m)) → (d : Bool)
      → is_digit b ≡ d → (if d then natural_after (n * 10 + (b - 48)) bs else None) ≡ Some m
      → AllDigits 10 (b ∷ bs) × (digits_value_after 10 n (b ∷ bs) ≡ m)
  more_sound k d h f = grind (arith, nat_tests)

after_sound : (bs : List ℕ) (n m : ℕ) → natural_after n bs ≡ Some m
    → AllDigits 10 bs × (digits_value_after 10 n bs ≡ m)
unfolding natural_after
after_sound [] n m e = (tt, cc)
after_sound (b ∷ bs) n m e = more_sound b bs n m (after_sound bs (n * 10 + (b - 48)) m) (is_digit b) refl e

after_complete : (bs : List ℕ) (n : ℕ) → AllDigits 10 bs
    → natural_after n bs ≡ Some (digits_value_after 10 n bs)
unfolding natural_after
after_complete [] n h = refl
after_complete (b ∷ bs) n h = grind (arith, after_complete bs (n * 10 + (b - 48)) h.1, nat_tests)

pub natural_sound : (t : List ℕ) (n : ℕ) → natural_of t ≡ Some n → SpellsNatural t n
unfolding natural_of
natural_sound t n e = grind (arith, after_sound)

pub natural_complete : (t : List ℕ) (n : ℕ) → SpellsNatural t n → natural_of t ≡ Some n
unfolding natural_of
natural_complete t n h = grind (arith, after_complete)

pub reads_naturals : ReadsNaturals
reads_naturals t n = (natural_sound t n, natural_complete t n)
