-- A token states at most one number, by the short statement
use Rattle.std.proofs.Common.{◌≡◌, ◌≢◌, ℕ, ℤ, pos, ◌<◌, ◌⊎◌, List, [], ◌∷◌, ◌++◌}
use Rattle.std.proofs.Common.{Option, Some, None, codes, refl, sym, ◌∙◌, arith, ap, ap₂, subst}
use Rattle.std.proofs.Common.{inl, inr, append-nil}
use Rattle.std.specs.Prelude.{neg_ℤ}
use Rattle.std.specs.Char.{digit_value}
use Rattle.std.specs.{Str.Parse.AllDigits, Str.Parse.IsNumeral, Str.Parse.digits_value}
use Rattle.vipr_spec.specs.{Fraction.ℚ, Fraction.over}
use Rattle.vipr_spec.specs.Short.{Natural, Integer, Number, bound}

pub cons_same : {A : Type 0} (x y : A) (xs ys : List A) → x ∷ xs ≡ y ∷ ys → (x ≡ y) × (xs ≡ ys)
cons_same x y xs ys e = grind arith

-- ---- where the slash is

abbrev HasNoSlash : List ℕ → Type 0
HasNoSlash [] = Unit {0}
HasNoSlash (c ∷ cs) = (c ≢ 47) × HasNoSlash cs

digit_is_no_slash : (c : ℕ) → digit_value c < 10 → c ≢ 47
digit_is_no_slash c h e =
    let slash : digit_value 47 < 10 = subst (λ n. digit_value n < 10) e h in
    omega (arith, slash)

digits_have_none : (cs : List ℕ) → AllDigits 10 cs → HasNoSlash cs
digits_have_none [] h = tt
digits_have_none (c ∷ cs) h = (digit_is_no_slash c h.0, digits_have_none cs h.1)

-- what is in front of the first slash, and what is behind it
split_unique : (a b c d : List ℕ) → HasNoSlash a → HasNoSlash c → a ++ 47 ∷ b ≡ c ++ 47 ∷ d
    → (a ≡ c) × (b ≡ d)
split_unique [] b [] d f g e = (refl, (cons_same 47 47 b d e).1)
split_unique [] b (x ∷ c) d f g e = absurd (g.0 (sym (cons_same 47 x b (c ++ 47 ∷ d) e).0))
split_unique (x ∷ a) b [] d f g e = absurd (f.0 (cons_same x 47 (a ++ 47 ∷ b) d e).0)
split_unique (x ∷ a) b (y ∷ c) d f g e =
    let same = cons_same x y (a ++ 47 ∷ b) (c ++ 47 ∷ d) e in
    let rest = split_unique a b c d f.1 g.1 same.1 in
    (ap₂ (λ n l. n ∷ l) same.0 rest.0, rest.1)

has_slash : (a b : List ℕ) → HasNoSlash (a ++ 47 ∷ b) → ⊥
has_slash [] b f = f.0 refl
has_slash (x ∷ a) b f = has_slash a b f.1

-- ---- numbers

pub natural_unique : (t : List ℕ) (m n : ℕ) → Natural t m → Natural t n → m ≡ n
natural_unique t m n h k = sym h.1 ∙ k.1

not_plus : (cs : List ℕ) → IsNumeral 10 (43 ∷ cs) → ⊥
not_plus cs h = let plus : digit_value 43 < 10 = h.1.0 in omega (arith, plus)

not_minus : (cs : List ℕ) → IsNumeral 10 (45 ∷ cs) → ⊥
not_minus cs h = let minus : digit_value 45 < 10 = h.1.0 in omega (arith, minus)

-- the token is the digits, with a sign or without one
abbrev Signed : List ℕ → ℤ → List ℕ → ℕ → Type 0
Signed t k ds n =
    (((t ≡ ds) ⊎ (t ≡ 43 ∷ ds)) × (k ≡ pos n)) ⊎ ((t ≡ 45 ∷ ds) × (k ≡ neg_ℤ (pos n)))

signed_has_none : (t : List ℕ) (k : ℤ) (ds : List ℕ) (n : ℕ) → Natural ds n → Signed t k ds n
    → HasNoSlash t
signed_has_none t k ds n h (inl (inl e, _)) = subst HasNoSlash (sym e) (digits_have_none ds h.0.1)
signed_has_none t k ds n h (inl (inr e, _)) =
    subst HasNoSlash (sym e) (λ plus. omega (arith, plus), digits_have_none ds h.0.1)
signed_has_none t k ds n h (inr (e, _)) =
    subst HasNoSlash (sym e) (λ minus. omega (arith, minus), digits_have_none ds h.0.1)

integer_has_none : (t : List ℕ) (k : ℤ) → Integer t k → HasNoSlash t
integer_has_none t k h = signed_has_none t k h.0 h.1 h.2 h.3

same_value : (d e : List ℕ) (m n : ℕ) → d ≡ e → Natural d m → Natural e n → m ≡ n
same_value d e m n s h k = sym h.1 ∙ ap (digits_value 10) s ∙ k.1

signed_unique : (t : List ℕ) (k l : ℤ) (d e : List ℕ) (m n : ℕ) → Natural d m → Natural e n
    → Signed t k d m → Signed t l e n → k ≡ l
signed_unique t k l d e m n h g (inl (inl a, b)) (inl (inl c, f)) =
    b ∙ ap pos (same_value d e m n (sym a ∙ c) h g) ∙ sym f
signed_unique t k l d e m n h g (inl (inl a, b)) (inl (inr c, f)) =
    absurd (not_plus e (subst (IsNumeral 10) (sym a ∙ c) h.0))
signed_unique t k l d e m n h g (inl (inl a, b)) (inr (c, f)) =
    absurd (not_minus e (subst (IsNumeral 10) (sym a ∙ c) h.0))
signed_unique t k l d e m n h g (inl (inr a, b)) (inl (inl c, f)) =
    absurd (not_plus d (subst (IsNumeral 10) (sym c ∙ a) g.0))
signed_unique t k l d e m n h g (inl (inr a, b)) (inl (inr c, f)) =
    b ∙ ap pos (same_value d e m n (cons_same 43 43 d e (sym a ∙ c)).1 h g) ∙ sym f
signed_unique t k l d e m n h g (inl (inr a, b)) (inr (c, f)) =
    absurd (omega (arith, (cons_same 43 45 d e (sym a ∙ c)).0))
signed_unique t k l d e m n h g (inr (a, b)) (inl (inl c, f)) =
    absurd (not_minus d (subst (IsNumeral 10) (sym c ∙ a) g.0))
signed_unique t k l d e m n h g (inr (a, b)) (inl (inr c, f)) =
    absurd (omega (arith, (cons_same 45 43 d e (sym a ∙ c)).0))
signed_unique t k l d e m n h g (inr (a, b)) (inr (c, f)) =
    b ∙ ap (λ i. neg_ℤ (pos i)) (same_value d e m n (cons_same 45 45 d e (sym a ∙ c)).1 h g) ∙ sym f

integer_unique : (t : List ℕ) (k l : ℤ) → Integer t k → Integer t l → k ≡ l
integer_unique t k l h g = signed_unique t k l h.0 g.0 h.1 g.1 h.2 g.2 h.3 g.3

-- the token is a numerator and a denominator, or a numerator alone
abbrev Written : List ℕ → List ℕ → List ℕ → ℕ → Type 0
Written t top bottom q = (t ≡ top ++ 47 ∷ bottom) ⊎ ((t ≡ top) × (q ≡ 1))

parts_unique : (t a b c d : List ℕ) (k l : ℤ) (p q : ℕ) → Integer a k → Natural b p → Integer c l
    → Natural d q → Written t a b p → Written t c d q → (k ≡ l) × (p ≡ q)
parts_unique t a b c d k l p q ia nb ic nd (inl e) (inl f) =
    let parts = split_unique a b c d (integer_has_none a k ia) (integer_has_none c l ic) (sym e ∙ f) in (
      integer_unique c k l (subst (λ u. Integer u k) parts.0 ia) ic,
      same_value b d p q parts.1 nb nd,
    )
parts_unique t a b c d k l p q ia nb ic nd (inl e) (inr f) =
    absurd (has_slash a b (subst HasNoSlash (sym f.0 ∙ e) (integer_has_none c l ic)))
parts_unique t a b c d k l p q ia nb ic nd (inr e) (inl f) =
    absurd (has_slash c d (subst HasNoSlash (sym e.0 ∙ f) (integer_has_none a k ia)))
parts_unique t a b c d k l p q ia nb ic nd (inr e) (inr f) =
    (integer_unique c k l (subst (λ u. Integer u k) (sym e.0 ∙ f.0) ia) ic, e.1 ∙ sym f.1)

pub number_unique : (t : List ℕ) (x y : ℚ) → Number t x → Number t y → x ≡ y
number_unique t x y h g =
    let parts = parts_unique t h.0 h.1 g.0 g.1 h.2 g.2 h.3 g.3 h.4 h.5 g.4 g.5 h.8 g.8 in
    h.7 ∙ ap₂ over parts.0 parts.1 ∙ sym g.7

-- ---- an infinite bound is no number

front_digit : (d r : List ℕ) (c : ℕ) (cs : List ℕ) → IsNumeral 10 d → d ++ r ≡ c ∷ cs
    → digit_value c < 10
front_digit [] r c cs h e = absurd (omega (arith, h.0))
front_digit (x ∷ d) r c cs h e =
    subst (λ n. digit_value n < 10) (cons_same x c (d ++ r) cs e).0 h.1.0

-- the first character, if it isn't a sign
first_digit : (top r : List ℕ) (k : ℤ) (ds : List ℕ) (n c : ℕ) (cs : List ℕ) → Natural ds n
    → top ++ r ≡ c ∷ cs → c ≢ 43 → c ≢ 45 → Signed top k ds n → digit_value c < 10
first_digit top r k ds n c cs h e p m (inl (inl a, b)) =
    front_digit ds r c cs h.0 (ap (λ l. l ++ r) (sym a) ∙ e)
first_digit top r k ds n c cs h e p m (inl (inr a, b)) =
    absurd (p (sym (cons_same 43 c (ds ++ r) cs (ap (λ l. l ++ r) (sym a) ∙ e)).0))
first_digit top r k ds n c cs h e p m (inr (a, b)) =
    absurd (m (sym (cons_same 45 c (ds ++ r) cs (ap (λ l. l ++ r) (sym a) ∙ e)).0))

digit_behind_minus : (top r : List ℕ) (k : ℤ) (ds : List ℕ) (n c : ℕ) (cs : List ℕ) → Natural ds n
    → top ++ r ≡ 45 ∷ c ∷ cs → Signed top k ds n → digit_value c < 10
digit_behind_minus top r k ds n c cs h e (inl (inl a, b)) =
    let minus : digit_value 45 < 10 =
    front_digit ds r 45 (c ∷ cs) h.0 (ap (λ l. l ++ r) (sym a) ∙ e) in
    absurd (omega (arith, minus))
digit_behind_minus top r k ds n c cs h e (inl (inr a, b)) =
    absurd (omega (arith, (cons_same 43 45 (ds ++ r) (c ∷ cs) (ap (λ l. l ++ r) (sym a) ∙ e)).0))
digit_behind_minus top r k ds n c cs h e (inr (a, b)) =
    front_digit ds r c cs h.0
    (cons_same 45 45 (ds ++ r) (c ∷ cs) (ap (λ l. l ++ r) (sym a) ∙ e)).1

behind_numerator : (t top bottom : List ℕ) (q : ℕ) → Written t top bottom q
    → (r : List ℕ) × (top ++ r ≡ t)
behind_numerator t top bottom q (inl e) = (47 ∷ bottom, sym e)
behind_numerator t top bottom q (inr e) = ([], append-nil top ∙ sym e.0)

pub inf_is_no_number : (x : ℚ) → Number (codes "inf") x → ⊥
inf_is_no_number x h =
    let rest = behind_numerator (codes "inf") h.0 h.1 h.3 h.8 in
    let digit : digit_value 105 < 10 =
    first_digit h.0 rest.0 h.2 h.4.0 h.4.1 105 _ h.4.2 rest.1 (λ e. omega (arith, e))
    (λ e. omega (arith, e)) h.4.3 in
    omega (arith, digit)

pub minus_inf_is_no_number : (x : ℚ) → Number (codes "-inf") x → ⊥
minus_inf_is_no_number x h =
    let rest = behind_numerator (codes "-inf") h.0 h.1 h.3 h.8 in
    let digit : digit_value 105 < 10 =
    digit_behind_minus h.0 rest.0 h.2 h.4.0 h.4.1 105 _ h.4.2 rest.1 h.4.3 in
    omega (arith, digit)

pub bound_unique : (w : List ℕ) → ((x : ℚ) → Number w x → ⊥) → (t : List ℕ) (x y : Option ℚ)
    → bound w t x → bound w t y → x ≡ y
bound_unique w other t None None h k = refl
bound_unique w other t None (Some y) h k = absurd (other y (subst (λ u. Number u y) h k))
bound_unique w other t (Some x) None h k = absurd (other x (subst (λ u. Number u x) k h))
bound_unique w other t (Some x) (Some y) h k = ap Some (number_unique t x y h k)
