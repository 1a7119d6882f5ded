-- Words that are tokens, and are of a shape
use Rattle.std.proofs.Common.{◌≡◌, ℕ, ◌<◌, ◌≤◌, Bool, true, false, ◌&&◌, nat_lt, nat_le, List, []}
use Rattle.std.proofs.Common.{◌∷◌, ◌++◌, length, All, Option, IfSome, arith, sym, subst, rules}
use Rattle.std.proofs.lemmas.Fmt.{decimal_is_IsNumeral, length-decimal-le}
use Rattle.std.proofs.lemmas.List.Elements.{All-nil, All-cons, All-append}
use Rattle.std.proofs.lemmas.Bool.Decides.{nat_tests}
use Rattle.std.proofs.{lemmas.Grind.common_steps, lemmas.List.length-append}
use Rattle.std.specs.Str.Parse.{AllDigits, IsNumeral}
use Rattle.std.specs.{Char.digit_value, Fmt.decimal, List.list_all}
use Rattle.vipr_spec.specs.Number.{IsSign, under, SpellsNumber, number_text}
use Rattle.vipr_spec.specs.{Fraction.ℚ, Fraction.IsBounded, Grammar.SpellsNatural}
use Rattle.vipr_spec.specs.{Reading.most_count, Tokens.is_white, Tokens.IsToken}
use Rattle.vipr_spec.proofs.Laws.{text_spelled, text_short}

-- ---- tokens

abbrev Solid : List ℕ → Type 0
Solid bs = All (λ b. is_white b ≡ false) bs

-- words of letters, digits and signs, as a test
abbrev pub IsPlain : List ℕ → Type 0
IsPlain bs = (nat_lt 0 (length bs) && nat_le (length bs) 65535 && list_all (λ b. nat_lt 32 b) bs) ≡ true

above_space : (b : ℕ) → nat_lt 32 b ≡ true → is_white b ≡ false
unfolding is_white
above_space b h = grind (arith, nat_tests)

both_true : (a b : Bool) → (a && b) ≡ true → (a ≡ true) × (b ≡ true)
both_true a b h = grind arith

all_above : (bs : List ℕ) → list_all (λ b. nat_lt 32 b) bs ≡ true → Solid bs
all_above [] h = All-nil (λ b. is_white b ≡ false)
all_above (b ∷ bs) h = grind (arith, common_steps, above_space)

pub plain_token : (bs : List ℕ) → IsPlain bs → IsToken bs
plain_token bs h = search (rules, both_true, nat_lt, nat_le, nat_tests, all_above)

digit_solid : (b : ℕ) → digit_value b < 10 → is_white b ≡ false
unfolding is_white
digit_solid b h = grind (arith, nat_tests)

digits_solid : (bs : List ℕ) → AllDigits 10 bs → Solid bs
digits_solid [] h = All-nil (λ b. is_white b ≡ false)
digits_solid (b ∷ bs) h = All-cons (λ b. is_white b ≡ false) b bs (digit_solid b h.0) (digits_solid bs h.1)

-- ---- counts and numbers

pub decimal_natural : (n : ℕ) → n ≤ most_count → SpellsNatural (decimal n) n
decimal_natural n h = decimal_is_IsNumeral n (omega arith)

pub decimal_token : (n : ℕ) → n ≤ most_count → IsToken (decimal n)
decimal_token n h = grind (arith, common_steps, decimal_natural, length-decimal-le, digits_solid)

sign_solid : (sign : List ℕ) (is_negative : Bool) → IsSign sign is_negative → Solid sign
sign_solid sign is_negative h = grind (arith, all_above)

under_solid : (bottom : Option (List ℕ)) → IfSome bottom (IsNumeral 10) → Solid (under bottom)
under_solid bottom h = grind (arith, above_space, digits_solid)

number_solid : (t : List ℕ) (x : ℚ) → SpellsNumber t x → (0 < length t) × Solid t
number_solid t x s =
    let front = All-append (λ b. is_white b ≡ false) s.sign s.top
    (sign_solid s.sign s.is_negative s.is_sign) (digits_solid s.top s.top_digits.1) in
    let all = All-append (λ b. is_white b ≡ false) (s.sign ++ s.top) (under s.bottom) front
    (under_solid s.bottom s.bottom_digits) in
    let some : 0 < length (s.sign ++ s.top ++ under s.bottom) =
    omega (
      arith,
      length-append s.sign s.top,
      length-append (s.sign ++ s.top) (under s.bottom),
      s.top_digits.0,
    ) in
    (subst (λ bs. 0 < length bs) (sym s.joined) some, subst Solid (sym s.joined) all)

pub number_token : (x : ℚ) → IsBounded x → IsToken (number_text x)
number_token x b = grind (arith, number_solid (number_text x) x (text_spelled x b), text_short x b)
