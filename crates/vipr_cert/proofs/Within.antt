-- Items that keep the limits, as they are tested and as the definitions see them
use Rattle.std.proofs.Common.{ℕ, ◌<◌, List, [], ◌∷◌, map, All, get_or, sym, ◌∙◌}
use Rattle.std.proofs.lemmas.List.Elements.{All-map, All-nil, All-cons, All-head, All-tail}
use Rattle.std.proofs.lemmas.List.Elements.{All-contains, All-contains_itself}
use Rattle.std.proofs.{lemmas.Bool.Decides.Decides-eqb, lemmas.Map.Made.is_member-Decides}
use Rattle.std.specs.FinSet.{contains, from_list}
use Rattle.std.specs.{Ordering.nat_cmp, Prelude.◌↔◌, Prelude.IsTrue}
use Rattle.vipr_linear.proofs.Laws.{member}

pub each_of : {A B : Type 0} (P : A → Type 0) (Q : B → Type 0) (xs : List A) → All P xs
    → (f : A → B) → ((x : A) → P x → Q (f x)) → All Q (map f xs)
each_of P Q xs p f gives = All-map Q f xs (λ k d l. gives _ (p k d l))

pub each_from : {A B : Type 0} (P : A → Type 0) (Q : B → Type 0) (f : A → B)
    → ((x : A) → Q (f x) → P x) → (xs : List A) → All Q (map f xs) → All P xs
each_from P Q f gives [] h = All-nil P
each_from P Q f gives (x ∷ xs) h = All-cons P x xs (gives x (All-head Q (f x) (map f xs) h))
    (each_from P Q f gives xs (All-tail Q (f x) (map f xs) h))

-- ---- members of a set

pub members_below : (ks : List ℕ) (n : ℕ)
    → All (λ j. j < n) ks ↔ ((j : ℕ) → IsTrue (contains (from_list {R = nat_cmp} ks) j) → j < n)
members_below ks n = (
  λ a j h. All-contains (λ j. j < n) ks j a ((is_member-Decides Decides-eqb ks j).0 (sym (member ks j) ∙ h)),
  λ b k d l. b (get_or ks k d) (member ks (get_or ks k d)
      ∙ (is_member-Decides Decides-eqb ks (get_or ks k d)).1 (All-contains_itself ks k d l)),
)
