-- What is so of the items of a list that were seen so far
use Rattle.std.proofs.Common.{◌≡◌, ℕ, ◌<◌, ◌≤◌, List, length, All, get_or, subst, sym}
use Rattle.std.specs.List.{AllWithin}
use Rattle.std.proofs.lemmas.List.Elements.{AllWithin-upto, All-from_all_within}

module _ {A : Type 0} (P : A → Type 0) (xs : List A) where
  pub all_seen : (i : ℕ) → length xs ≤ i → AllWithin P xs 0 i → All P xs
  all_seen i l seen = All-from_all_within P xs (AllWithin-upto P xs 0 i (length xs) l seen)

  -- one that isn't so
  pub fails_at : (i : ℕ) (x : A) → i < length xs → x ≡ get_or xs i x → ¬ P x → ¬ All P xs
  fails_at i x l is fails all = fails (subst P (sym is) (all i x l))
