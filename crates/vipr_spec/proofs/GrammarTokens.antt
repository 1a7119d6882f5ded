-- The kinds of token
use Rattle.std.proofs.Common.{rules, ◌≡◌, ℕ, ◌-◌, ◌<◌, ◌≤◌, ◌⊎◌, inl, inr, ⊎_elim, Bool, true}
use Rattle.std.proofs.Common.{false, nat_eq, if◌then◌else◌, List, Option, Some, None, Result, Ok}
use Rattle.std.proofs.Common.{Err, codes, arith, refl, sym, ap, subst}
use Rattle.std.proofs.lemmas.Slice.Eq.{bytes_eq-Decides}
use Rattle.std.proofs.{lemmas.Bool.Decides.nat_tests, lemmas.Grind.common_steps}
use Rattle.std.specs.{List.list_any, Str.bytes_eq}
use Rattle.vipr_spec.specs.{natural_of, Sense, at_most, equal, at_least, minimum, maximum}
use Rattle.vipr_spec.specs.{most_count, at_most_or, word_of, count_of, derivation_count_of, below}
use Rattle.vipr_spec.specs.{variable_of, new_variable_of, reference_of, some_of, last_of}
use Rattle.vipr_spec.specs.{spelled_sense, spelled_direction, has_range_of, Rule, rule_of}
use Rattle.vipr_spec.specs.{ReadsKind, SpellsRange, rule_word, KindsOfToken}
use Rattle.vipr_spec.specs.Grammar.{SpellsNatural, SpellsCount, SpellsVariable, SpellsSense}
use Rattle.vipr_spec.specs.Grammar.{SpellsDirection, SpellsLast}
use Rattle.vipr_spec.proofs.GrammarNumbers.{natural_sound, natural_complete}
use Rattle.vipr_spec.proofs.GrammarSteps.{guard_true, chosen, same_ok}

-- ---- fixed words

pub same_bytes : (t w : List ℕ) → bytes_eq t w ≡ true → t ≡ w
same_bytes t w e = (bytes_eq-Decides t w).0 e

pub bytes_same : (t w : List ℕ) → t ≡ w → bytes_eq t w ≡ true
bytes_same t w e = (bytes_eq-Decides t w).1 e

-- the first word of several, or what the others give
pub picked : {A E : Type 0} (t w : List ℕ) (x y : A) (others : Result A E)
    → (if bytes_eq t w then Ok x else others) ≡ Ok y → ((t ≡ w) × (x ≡ y)) ⊎ (others ≡ Ok y)
picked t w x y others e = ⊎_elim (λ h. inl (same_bytes t w h.0, same_ok h.1)) (λ h. inr h.1)
    (chosen (bytes_eq t w) (Ok x) others (Ok y) e)

-- of the first word a value P holds, and of the others too
pub picks : {A : Type 0} (P : A → Type 0) (t w : List ℕ) (x y : A) (others : Result A ℕ)
    → (t ≡ w → P x) → (others ≡ Ok y → P y) → (if bytes_eq t w then Ok x else others) ≡ Ok y → P y
picks P t w x y others here there e = ⊎_elim (λ h. subst P h.1 (here h.0)) there (picked t w x y others e)

-- of two words
one_of_two : {A : Type 0} (P : A → Type 0) (t v w : List ℕ) (x y z : A) (c : ℕ) → (t ≡ v → P x)
    → (t ≡ w → P y)
    → (if bytes_eq t v then Ok x else (if bytes_eq t w then Ok y else Err c)) ≡ Ok z → P z
one_of_two P t v w x y z c first second e =
    picks P t v x z _ first (λ f. picks P t w y z _ second (grind (arith, common_steps)) f) e

fixed_sound : (w : List ℕ) (c : ℕ) (t : List ℕ) (x : Unit {0}) → word_of w c t ≡ Ok x → t ≡ w
fixed_sound w c t x e = same_bytes t w (guard_true (bytes_eq t w) tt x c e).0

fixed_complete : (w : List ℕ) (c : ℕ) (t : List ℕ) (x : Unit {0}) → t ≡ w → word_of w c t ≡ Ok x
fixed_complete w c t x e = ap (λ b. if b then Ok tt else Err c) (bytes_same t w e)

sense_sound : (t : List ℕ) (s : Sense) → spelled_sense t ≡ Ok s → SpellsSense t s
unfolding spelled_sense
sense_sound t s e = picks (SpellsSense t) t _ equal s _ (λ h. h)
    (λ f. one_of_two (SpellsSense t) t _ _ at_most at_least s _ (λ h. h) (λ h. h) f) e

sense_complete : (t : List ℕ) (s : Sense) → SpellsSense t s → spelled_sense t ≡ Ok s
unfolding spelled_sense
sense_complete t s e = grind arith

direction_is : ReadsKind spelled_direction SpellsDirection
unfolding spelled_direction
direction_is t minimum = (
  λ e. one_of_two (SpellsDirection t) t _ _ minimum maximum minimum _ (λ h. h) (λ h. h) e,
  λ e. rw e,
)
direction_is t maximum = (
  λ e. one_of_two (SpellsDirection t) t _ _ minimum maximum maximum _ (λ h. h) (λ h. h) e,
  λ e. rw e,
)

has_range_is : ReadsKind has_range_of SpellsRange
unfolding has_range_of
has_range_is t false = (λ e. one_of_two (SpellsRange t) t _ _ false true false _ (λ h. h) (λ h. h) e, λ e. rw e)
has_range_is t true = (λ e. one_of_two (SpellsRange t) t _ _ false true true _ (λ h. h) (λ h. h) e, λ e. rw e)

abbrev pub SpellsRule : List ℕ → Rule → Type 0
SpellsRule t rule = t ≡ rule_word rule

rule_sound : (t : List ℕ) (r : Rule) → rule_of t ≡ Ok r → SpellsRule t r
unfolding rule_of
rule_sound t r e = search rules

rule_complete : (t : List ℕ) (r : Rule) → SpellsRule t r → rule_of t ≡ Ok r
unfolding rule_of
rule_complete t r e = grind arith

-- ---- naturals within a bound

bounded : (most absent larger : ℕ) → ReadsKind (λ t. at_most_or most (natural_of t) absent larger)
    (λ t n. SpellsNatural t n × (n ≤ most))
bounded most absent larger t n = grind (arith, natural_sound, natural_complete)

count_is : ReadsKind count_of SpellsCount
unfolding count_of
count_is = bounded most_count _ _

derivation_count_is : (m : ℕ)
    → ReadsKind (derivation_count_of m) (λ t d. SpellsNatural t d × (d ≤ most_count - m))
unfolding derivation_count_of
derivation_count_is m = bounded (most_count - m) _ _

reference_is : ReadsKind reference_of SpellsCount
unfolding reference_of
reference_is = bounded most_count _ _

below_sound : (n : ℕ) (found : Option ℕ) (i : ℕ) → below n found ≡ Ok i → (found ≡ Some i) × (i < n)
below_sound n found i e = grind arith

below_complete : (n : ℕ) (found : Option ℕ) (i : ℕ) → found ≡ Some i → i < n → below n found ≡ Ok i
below_complete n found i e h = grind (arith, nat_tests)

variable_is : (n : ℕ) → ReadsKind (variable_of n) (SpellsVariable n)
unfolding variable_of
variable_is n t i = (
  λ e. let k = below_sound n (natural_of t) i e in (natural_sound t i k.0, k.1),
  λ h. below_complete n (natural_of t) i (natural_complete t i h.0) h.1,
)

new_variable_is : (n : ℕ) (before : List ℕ) → ReadsKind (new_variable_of n before)
    (λ t i. SpellsVariable n t i × (list_any (nat_eq i) before ≡ false))
unfolding new_variable_of
new_variable_is n before t i = grind (arith, variable_is n t i)

-- ---- last references

pub some_sound : {A : Type 0} (found : Result A ℕ) (o : Option A) → some_of found ≡ Ok o
    → (x : A) × (found ≡ Ok x) × (o ≡ Some x)
some_sound found o e = grind (arith, same_ok)

no_number : (i : ℕ) → ¬ SpellsCount (codes "-1") i
no_number i h = absurd (omega arith)

last_sound : (t : List ℕ) (o : Option ℕ) → last_of t ≡ Ok o → SpellsLast t o
unfolding last_of
last_sound t o e =
    picks (SpellsLast t) t _ None o _ (λ h. h)
    (λ f. let k = some_sound (reference_of t) o f in subst (SpellsLast t) (sym k.2) ((reference_is t k.0).0 k.1)) e

last_complete : (t : List ℕ) (o : Option ℕ) → SpellsLast t o → last_of t ≡ Ok o
unfolding last_of
last_complete t None e = rw e
last_complete t (Some i) h = other (bytes_eq t (codes "-1")) refl
  where
    other : (b : Bool) → bytes_eq t (codes "-1") ≡ b → (if b then Ok None else some_of (reference_of t)) ≡ Ok (Some i)
    other true e = absurd (no_number i (subst (λ u. SpellsCount u i) (same_bytes t _ e) h))
    other false e = ap some_of ((reference_is t i).1 h)

pub kinds_of_token : KindsOfToken
kinds_of_token = record {
  name = λ t x. (λ e. same_ok e, λ e. ap Ok e);
  fixed = λ w c t x. (fixed_sound w c t x, fixed_complete w c t x);
  count = count_is;
  derivation_count = derivation_count_is;
  variable = variable_is;
  new_variable = new_variable_is;
  reference = reference_is;
  last = λ t o. (last_sound t o, last_complete t o);
  sense = λ t s. (sense_sound t s, sense_complete t s);
  direction = direction_is;
  has_range = has_range_is;
  rule = λ t r. (rule_sound t r, rule_complete t r);
}
