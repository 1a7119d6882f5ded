-- What spells a part of a certificate: its words, within its limits, and nothing beyond them
use Rattle.std.proofs.Common.{arith, ℕ, ◌≤◌, List, [], ◌∷◌, ◌++◌, length, All, refl, rules}
use Rattle.std.proofs.lemmas.List.Elements.{All-nil, All-cons, All-append, All-head, All-tail}
use Rattle.std.specs.{Fmt.decimal, List.flat_map}
use Rattle.vipr_spec.specs.Grammar.{SpellsCount, word, one, ◌then◌, each}
use Rattle.vipr_spec.specs.{Reading.most_count, Tokens.IsToken}
use Rattle.vipr_spec.proofs.Laws.{all_parts}
use Rattle.vipr_write.proofs.WordTokens.{IsPlain, plain_token, decimal_token, decimal_natural}

-- these words are tokens, of this shape
pub record Written (S : List (List ℕ) → Type 0) (ws : List (List ℕ)) : Type 0 where
  pub tokens : All IsToken ws
  pub shape : S ws

-- A part of this shape, with these limits, is written in these words; and within the limits is
-- whatever tokens spell.
pub record Spelling (S : List (List ℕ) → Type 0) (A : Type 0) (ws : List (List ℕ)) : Type 0 where
  pub written : A → Written S ws
  pub limits : (ts : List (List ℕ)) → All IsToken ts → S ts → A

-- ---- one token

pub one_part : {X A : Type 0} (P : List ℕ → X → Type 0) (x : X) (t : List ℕ)
    → (A → IsToken t × P t x) → ((t : List ℕ) → P t x → A) → Spelling (one P x) A (t ∷ [])
one_part P x t is gives = search (rules)

pub word_part : (w : List ℕ) → Spelling (word w) (IsToken w) (w ∷ [])
word_part w = search (rules)

pub fixed_part : (w : List ℕ) → IsPlain w → Spelling (word w) (Unit {0}) (w ∷ [])
fixed_part w h = record { written = λ a. (word_part w).written (plain_token w h); limits = λ ts a s. tt }

pub count_part : (n : ℕ) → Spelling (one SpellsCount n) (n ≤ most_count) (decimal n ∷ [])
count_part n = one_part SpellsCount n (decimal n) (λ h. (decimal_token n h, (decimal_natural n h, h))) (λ t s. s.1)

-- ---- ways to compose

-- limits that say the same
pub as_part : {S : List (List ℕ) → Type 0} {A B : Type 0} {ws : List (List ℕ)} → (B → A) → (A → B)
    → Spelling S A ws → Spelling S B ws
as_part to from part = record { written = λ b. part.written (to b); limits = λ ts a s. from (part.limits ts a s) }

-- what the first one's limits say may serve the second
pub with_part : {P Q : List (List ℕ) → Type 0} {A B : Type 0} {a b : List (List ℕ)}
    → Spelling P A a → (A → Spelling Q B b) → Spelling (P then Q) (A × B) (a ++ b)
with_part {a = a} {b = b} first second = record {
  written = λ h.
      let p = first.written h.0 in
      let q = (second h.0).written h.1 in
      record { tokens = All-append IsToken a b p.tokens q.tokens; shape = (a, b, refl, p.shape, q.shape) };
  limits = grind (arith, all_parts);
}

pub then_part : {P Q : List (List ℕ) → Type 0} {A B : Type 0} {a b : List (List ℕ)}
    → Spelling P A a → Spelling Q B b → Spelling (P then Q) (A × B) (a ++ b)
then_part first second = with_part first (λ h. second)

-- behind words that have no limits
pub behind : {P Q : List (List ℕ) → Type 0} {B : Type 0} {a b : List (List ℕ)}
    → Spelling P (Unit {0}) a → Spelling Q B b → Spelling (P then Q) B (a ++ b)
behind first second = as_part (λ h. (tt, h)) (λ h. h.1) (then_part first second)

pub each_part : {X : Type 0} (S : X → List (List ℕ) → Type 0) (A : X → Type 0)
    (f : X → List (List ℕ)) → ((x : X) → Spelling (S x) (A x) (f x)) → (xs : List X)
    → Spelling (each S xs) (All A xs) (flat_map f xs)
each_part S A f part [] = record {
  written = λ h. record { tokens = All-nil IsToken; shape = refl };
  limits = λ ts a s. All-nil A;
}
each_part S A f part (x ∷ xs) =
    as_part (λ h. (All-head A x xs h, All-tail A x xs h)) (λ h. All-cons A x xs h.0 h.1)
    (then_part (part x) (each_part S A f part xs))

-- how many there are, and then each of them
pub counted_part : {X : Type 0} (S : X → List (List ℕ) → Type 0) (A : X → Type 0)
    (f : X → List (List ℕ)) → ((x : X) → Spelling (S x) (A x) (f x)) → (xs : List X) → Spelling
    (one SpellsCount (length xs) then each S xs) ((length xs ≤ most_count) × All A xs)
    (decimal (length xs) ∷ flat_map f xs)
counted_part S A f part xs = then_part (count_part (length xs)) (each_part S A f part xs)
