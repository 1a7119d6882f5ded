-- Each shape of the short statement takes the tokens of one value alone
use Rattle.std.proofs.Common.{◌≡◌, ◌<◌, ℕ, List, [], ◌∷◌, ◌++◌, length, Option, Some, None, ◌⊎◌}
use Rattle.std.proofs.Common.{codes, refl, sym, ◌∙◌, arith, ap, ap₂, subst, inl, inr, append_assoc}
use Rattle.std.specs.Char.{digit_value}
use Rattle.std.specs.Str.Parse.{IsNumeral}
use Rattle.vipr_spec.specs.Fraction.{ℚ}
use Rattle.vipr_spec.specs.Short.{Natural, Number, word, any, one, ◌then◌, each, counted, vector}
use Rattle.vipr_spec.specs.Short.{Sense, at_most, at_least, equal, sense_word}
use Rattle.vipr_spec.specs.Short.{bound, claim, constraint, Row}
use Rattle.vipr_spec.proofs.ShortNumbers.{cons_same, natural_unique, number_unique, bound_unique}
use Rattle.vipr_spec.proofs.ShortNumbers.{inf_is_no_number, minus_inf_is_no_number}

abbrev pub Tokens : Type 0
Tokens = List (List ℕ)

-- if the tokens of two values begin the same list, the values agree, and so does what follows
abbrev pub Unique : {A : Type 0} → (A → Tokens → Type 0) → Type 0
Unique {A} P = (x y : A) (ts us vs ws : Tokens) → ts ++ vs ≡ us ++ ws → P x ts → P y us
    → (x ≡ y) × (vs ≡ ws)

-- the same of a shape without a value
abbrev EndsOnce : (Tokens → Type 0) → Type 0
EndsOnce S = (ts us vs ws : Tokens) → ts ++ vs ≡ us ++ ws → S ts → S us → vs ≡ ws

-- ---- a token

-- two lists, each with its first token as a shape gives it
first_tokens : (t u : List ℕ) (ts us vs ws : Tokens) → ts ≡ t ∷ [] → us ≡ u ∷ []
    → ts ++ vs ≡ us ++ ws → (t ≡ u) × (vs ≡ ws)
first_tokens t u ts us vs ws first second e =
    cons_same t u vs ws (ap (λ l. l ++ vs) (sym first) ∙ e ∙ ap (λ l. l ++ ws) second)

pub one_unique : {A : Type 0} (R : List ℕ → A → Type 0)
    → ((t : List ℕ) (x y : A) → R t x → R t y → x ≡ y) → Unique (one R)
one_unique R f x y ts us vs ws e h k =
    let same = first_tokens h.0 k.0 ts us vs ws h.1 k.1 e in
    (f k.0 x y (subst (λ t. R t x) same.0 h.2) k.2, same.1)

pub word_unique : Unique word
word_unique x y ts us vs ws e h k = first_tokens x y ts us vs ws h k e

word_ends : (w : List ℕ) → EndsOnce (word w)
word_ends w ts us vs ws e h k = (word_unique w w ts us vs ws e h k).1

pub any_ends : EndsOnce any
any_ends ts us vs ws e h k = (first_tokens h.0 k.0 ts us vs ws h.1 k.1 e).1

-- ---- shapes one after another

regrouped : (a b c d vs ws ts us : Tokens) → ts ≡ a ++ b → us ≡ c ++ d → ts ++ vs ≡ us ++ ws
    → a ++ (b ++ vs) ≡ c ++ (d ++ ws)
regrouped a b c d vs ws ts us h k e =
    sym (append_assoc a b vs) ∙ ap (λ l. l ++ vs) (sym h) ∙ e ∙ ap (λ l. l ++ ws) k
    ∙ append_assoc c d ws

then_unique : {A B : Type 0} (P : A → Tokens → Type 0) (Q : B → Tokens → Type 0) → Unique P
    → Unique Q → Unique {A = A × B} (λ z. P z.0 then Q z.1)
then_unique P Q p q x y ts us vs ws e h k =
    let grouped = regrouped h.0 h.1 k.0 k.1 vs ws ts us h.2 k.2 e in
    let front = p x.0 y.0 h.0 k.0 (h.1 ++ vs) (k.1 ++ ws) grouped h.3 k.3 in
    let back = q x.1 y.1 h.1 k.1 vs ws front.1 h.4 k.4 in
    (λ i. (front.0 i, back.0 i), back.1)

-- a shape without a value in front
pub behind : {A : Type 0} (S : Tokens → Type 0) (Q : A → Tokens → Type 0) → EndsOnce S → Unique Q
    → Unique (λ a. S then Q a)
behind S Q s q x y ts us vs ws e h k =
    let grouped = regrouped h.0 h.1 k.0 k.1 vs ws ts us h.2 k.2 e in
    q x y h.1 k.1 vs ws (s h.0 k.0 (h.1 ++ vs) (k.1 ++ ws) grouped h.3 k.3) h.4 k.4

pub each_unique : {A : Type 0} (P : A → Tokens → Type 0) → Unique P → (xs ys : List A)
    → length xs ≡ length ys → (ts us vs ws : Tokens) → ts ++ vs ≡ us ++ ws → each P xs ts
    → each P ys us → (xs ≡ ys) × (vs ≡ ws)
each_unique P p [] [] l ts us vs ws e h k =
    (refl, ap (λ u. u ++ vs) (sym h) ∙ e ∙ ap (λ u. u ++ ws) k)
each_unique P p [] (y ∷ ys) l ts us vs ws e h k = absurd (omega (arith, l))
each_unique P p (x ∷ xs) [] l ts us vs ws e h k = absurd (omega (arith, l))
each_unique P p (x ∷ xs) (y ∷ ys) l ts us vs ws e h k =
    let grouped = regrouped h.0 h.1 k.0 k.1 vs ws ts us h.2 k.2 e in
    let first = p x y h.0 k.0 (h.1 ++ vs) (k.1 ++ ws) grouped h.3 k.3 in
    let rest = each_unique P p xs ys (omega (arith, l)) h.1 k.1 vs ws first.1 h.4 k.4 in
    (ap₂ (λ z zs. z ∷ zs) first.0 rest.0, rest.1)

pub counted_unique : {A : Type 0} (P : A → Tokens → Type 0) → Unique P → Unique (counted P)
counted_unique P p xs ys ts us vs ws e h k =
    let grouped = regrouped h.0 h.1 k.0 k.1 vs ws ts us h.2 k.2 e in
    let count = one_unique Natural natural_unique (length xs) (length ys) h.0 k.0 (h.1 ++ vs)
    (k.1 ++ ws) grouped h.3 k.3 in
    each_unique P p xs ys count.0 h.1 k.1 vs ws count.1 h.4 k.4

pub vector_unique : Unique vector
vector_unique = counted_unique (λ p. one Natural p.0 then one Number p.1)
    (then_unique (one Natural) (one Number) (one_unique Natural natural_unique)
    (one_unique Number number_unique))

-- ---- constraints

sense_unique : Unique (λ s. word (sense_word s))
sense_unique s r ts us vs ws e h k =
    let words = word_unique (sense_word s) (sense_word r) ts us vs ws e h k in
    (by_word s r words.0, words.1)
  where
    differ : (a b : ℕ) → a ∷ [] ≡ b ∷ [] → a ≡ b
    differ a b e = (cons_same a b [] [] e).0

    by_word : (s r : Sense) → sense_word s ≡ sense_word r → s ≡ r
    by_word at_most at_most e = refl
    by_word at_most at_least e = absurd (omega (arith, differ 76 71 e))
    by_word at_most equal e = absurd (omega (arith, differ 76 69 e))
    by_word at_least at_most e = absurd (omega (arith, differ 71 76 e))
    by_word at_least at_least e = refl
    by_word at_least equal e = absurd (omega (arith, differ 71 69 e))
    by_word equal at_most e = absurd (omega (arith, differ 69 76 e))
    by_word equal at_least e = absurd (omega (arith, differ 69 71 e))
    by_word equal equal e = refl

abbrev Coefficients : Row → Row → Tokens → Type 0
Coefficients objective row ts = vector row ts ⊎ (word (codes "OBJ") ts × (row ≡ objective))

-- no vector begins with the word OBJ
vector_is_no_obj : (row : Row) (ts us vs ws : Tokens) → ts ++ vs ≡ us ++ ws → vector row ts
    → word (codes "OBJ") us → ⊥
vector_is_no_obj row ts us vs ws e h k =
    let count = h.3 in
    let grouped : count.0 ∷ [] ++ (h.1 ++ vs) ≡ us ++ ws =
    ap (λ l. l ++ (h.1 ++ vs)) (sym count.1) ∙ sym (append_assoc h.0 h.1 vs)
    ∙ ap (λ l. l ++ vs) (sym h.2) ∙ e in
    let same = cons_same count.0 (codes "OBJ") (h.1 ++ vs) ws (grouped ∙ ap (λ l. l ++ ws) k) in
    let numeral : IsNumeral 10 (codes "OBJ") = subst (IsNumeral 10) same.0 count.2.0 in
    let digit : digit_value 79 < 10 = numeral.1.0 in
    omega (arith, digit)

coefficients_unique : (objective : Row) → Unique (Coefficients objective)
coefficients_unique objective x y ts us vs ws e (inl h) (inl k) = vector_unique x y ts us vs ws e h k
coefficients_unique objective x y ts us vs ws e (inl h) (inr k) =
    absurd (vector_is_no_obj x ts us vs ws e h k.0)
coefficients_unique objective x y ts us vs ws e (inr h) (inl k) =
    absurd (vector_is_no_obj y us ts ws vs (sym e) k h.0)
coefficients_unique objective x y ts us vs ws e (inr h) (inr k) =
    (h.1 ∙ sym k.1, word_ends (codes "OBJ") ts us vs ws e h.0 k.0)

-- a constraint as its text has it
abbrev Written : Type 0
Written = Sense × (ℚ × Row)

written_unique : (objective : Row)
    → Unique {A = Written} (λ z. any then word (sense_word z.0) then one Number z.1.0
    then Coefficients objective z.1.1)
written_unique objective =
    behind any
    (λ (z : Written). word (sense_word z.0) then one Number z.1.0 then Coefficients objective z.1.1)
    any_ends
    (then_unique (λ s. word (sense_word s))
    (λ (z : ℚ × Row). one Number z.0 then Coefficients objective z.1) sense_unique
    (then_unique (one Number) (Coefficients objective) (one_unique Number number_unique)
    (coefficients_unique objective)))

pub constraint_unique : (objective : Row) → Unique (constraint objective)
constraint_unique objective c d ts us vs ws e h k =
    let same = written_unique objective (c.sense, (c.bound, c.row)) (d.sense, (d.bound, d.row))
    ts us vs ws e h k in
    (λ i. record { row = (same.0 i).1.1; sense = (same.0 i).0; bound = (same.0 i).1.0 }, same.1)

-- ---- the claim

abbrev Ends : Type 0
Ends = Option ℚ × Option ℚ

abbrev range : Ends → Tokens → Type 0
range b = one (bound (codes "-inf")) b.0 then one (bound (codes "inf")) b.1

range_unique : Unique (λ (b : Ends). word (codes "range") then range b)
range_unique = behind (word (codes "range")) range (word_ends (codes "range"))
    (then_unique (one (bound (codes "-inf"))) (one (bound (codes "inf")))
    (one_unique (bound (codes "-inf")) (bound_unique (codes "-inf") minus_inf_is_no_number))
    (one_unique (bound (codes "inf")) (bound_unique (codes "inf") inf_is_no_number)))

not_both : (b : Ends) (ts us vs ws : Tokens) → ts ++ vs ≡ us ++ ws → word (codes "infeas") ts
    → (word (codes "range") then range b) us → ⊥
not_both b ts us vs ws e h k =
    let grouped : us ++ ws ≡ codes "range" ∷ [] ++ (k.1 ++ ws) =
    ap (λ l. l ++ ws) k.2 ∙ append_assoc k.0 k.1 ws ∙ ap (λ l. l ++ (k.1 ++ ws)) k.3 in
    let words = cons_same (codes "infeas") (codes "range") vs (k.1 ++ ws)
    (ap (λ l. l ++ vs) (sym h) ∙ e ∙ grouped) in
    omega (arith, (cons_same 105 114 _ _ words.0).0)

pub claim_unique : Unique claim
claim_unique None None ts us vs ws e h k = (refl, word_ends (codes "infeas") ts us vs ws e h k)
claim_unique None (Some b) ts us vs ws e h k = absurd (not_both b ts us vs ws e h k)
claim_unique (Some a) None ts us vs ws e h k = absurd (not_both a us ts ws vs (sym e) k h)
claim_unique (Some a) (Some b) ts us vs ws e h k =
    let same = range_unique a b ts us vs ws e h k in
    (ap Some same.0, same.1)
