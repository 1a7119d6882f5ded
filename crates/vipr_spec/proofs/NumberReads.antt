-- What is read as a number is what is spelled as one
use Rattle.std.proofs.Common.{◌≡◌, ℕ, suc, ◌+◌, ◌<◌, ◌≤◌, inl, inr, Bool, true, false, nat_lt, ◌==◌}
use Rattle.std.proofs.Common.{◌||◌, if◌then◌else◌, List, [], ◌∷◌, ◌++◌, length, take, drop, Option}
use Rattle.std.proofs.Common.{Some, None, Ok, Err, ℤ, pos, negsuc, subst, append-nil, lit<, lit≤}
use Rattle.std.proofs.Common.{arith, refl, sym, ◌∙◌, ap, append_assoc}
use Rattle.std.proofs.lemmas.Bool.Decides.{nat_tests}
use Rattle.std.proofs.lemmas.Fmt.{decimal_is_IsNumeral_wide, length-decimal-le_wide}
use Rattle.std.proofs.{lemmas.Bool.eqb-true, lemmas.Grind.common_steps, lemmas.List.length-append}
use Rattle.std.specs.Str.Parse.{AllDigits, IsNumeral, digits_value, without_leading_sign}
use Rattle.std.specs.Str.Parse.{starts_with_minus}
use Rattle.std.specs.Prelude.{IfSome, unsigned_abs}
use Rattle.std.specs.{Char.digit_value, Fmt.decimal, Fmt.signed_decimal}
use Rattle.vipr_spec.specs.{ℚ, over, most, IsBounded, natural_after, natural_of, SpellsNumber}
use Rattle.vipr_spec.specs.{IsSign, signed_integer, under, denominator, too_large, zero_denominator}
use Rattle.vipr_spec.specs.{is_slash, slash_place, top_of, bottom_of, written_fraction, of_parts}
use Rattle.vipr_spec.specs.{number_read, number_text}
use Rattle.vipr_spec.proofs.GrammarNumbers.{natural_sound, natural_complete}
use Rattle.vipr_spec.proofs.Points.{over_parts}

-- ---- the sign
pub record Signed (bs : List ℕ) : Type 0 where
  pub sign : List ℕ
  pub is_sign : IsSign sign (starts_with_minus bs)
  pub joined : bs ≡ sign ++ without_leading_sign bs

signed_by : (b : ℕ) (bs : List ℕ) (m p : Bool) → (b == 45) ≡ m → (b == 43) ≡ p → Signed (b ∷ bs)
signed_by b bs true p e f = record {
  sign = 45 ∷ [];
  is_sign = inr (inr (refl, e));
  joined = rw e (ap (λ c. c ∷ bs) (eqb-true b 45 e));
}
signed_by b bs false true e f = record {
  sign = 43 ∷ [];
  is_sign = inr (inl (refl, e));
  joined = rw (e, f) (ap (λ c. c ∷ bs) (eqb-true b 43 f));
}
signed_by b bs false false e f = record { sign = []; is_sign = inl (refl, e); joined = rw (e, f) }

pub sign_split : (bs : List ℕ) → Signed bs
sign_split [] = record { sign = []; is_sign = inl (refl, refl); joined = refl }
sign_split (b ∷ bs) = signed_by b bs (b == 45) (b == 43) refl refl

-- ---- the slash
-- what stands behind the slash, or the digit 1
abbrev pub bottom_digits : Option (List ℕ) → List ℕ
bottom_digits None = 49 ∷ []
bottom_digits (Some digits) = digits

pub record Slashed (bs : List ℕ) : Type 0 where
  pub bottom : Option (List ℕ)
  pub joined : bs ≡ top_of bs ++ under bottom
  pub is_bottom : bottom_of bs ≡ bottom_digits bottom

module _ (b : ℕ) (bs : List ℕ) (e : is_slash b ≡ false) where
  place_next : slash_place (b ∷ bs) ≡ suc (slash_place bs)
  place_next = rw e (omega arith)

  top_next : top_of (b ∷ bs) ≡ b ∷ top_of bs
  top_next = ap (λ n. take n (b ∷ bs)) place_next

  bottom_next : bottom_of (b ∷ bs) ≡ bottom_of bs
  bottom_next = grind (arith, place_next)

module _ (b : ℕ) (bs : List ℕ) (e : is_slash b ≡ true) where
  place_here : slash_place (b ∷ bs) ≡ 0
  place_here = rw e

  some_length : (n : ℕ) → nat_lt 0 (suc n) ≡ true
  some_length n = grind (arith, nat_tests)

  bottom_here : bottom_of (b ∷ bs) ≡ bs
  bottom_here = ap (λ n. if nat_lt n (suc (length bs)) then drop (n + 1) (b ∷ bs) else 49 ∷ [])
      place_here ∙ ap (λ t. if t then bs else 49 ∷ []) (some_length (length bs))

slashed_by : (b : ℕ) (bs : List ℕ) (s : Bool) → is_slash b ≡ s → Slashed bs → Slashed (b ∷ bs)
slashed_by b bs true e h = record {
  bottom = Some bs;
  joined = grind (arith, common_steps);
  is_bottom = bottom_here b bs e;
}
slashed_by b bs false e h = record {
  bottom = h.bottom;
  joined = ap (λ cs. b ∷ cs) h.joined ∙ ap (λ cs. cs ++ under h.bottom) (sym (top_next b bs e));
  is_bottom = bottom_next b bs e ∙ h.is_bottom;
}

pub slash_split : (bs : List ℕ) → Slashed bs
slash_split [] = record { bottom = None; joined = refl; is_bottom = refl }
slash_split (b ∷ bs) = slashed_by b bs (is_slash b) refl (slash_split bs)

-- digits, and nothing or a slash after them
no_slash : (b : ℕ) → digit_value b < 10 → is_slash b ≡ false
no_slash b h = grind (arith, nat_tests)

pub top_is : (top : List ℕ) (bottom : Option (List ℕ)) → AllDigits 10 top
    → top_of (top ++ under bottom) ≡ top
top_is [] None h = refl
top_is [] (Some digits) h = refl
top_is (b ∷ bs) bottom h = top_next b (bs ++ under bottom) (no_slash b h.0) ∙ ap (λ cs. b ∷ cs) (top_is bs bottom h.1)

pub bottom_is : (top : List ℕ) (bottom : Option (List ℕ)) → AllDigits 10 top
    → bottom_of (top ++ under bottom) ≡ bottom_digits bottom
bottom_is [] None h = refl
bottom_is [] (Some digits) h = bottom_here 47 digits refl
bottom_is (b ∷ bs) bottom h = bottom_next b (bs ++ under bottom) (no_slash b h.0) ∙ bottom_is bs bottom h.1

-- ---- the sign in front of digits
pub sign_of : (sign : List ℕ) (is_negative : Bool) (top rest : List ℕ) → IsSign sign is_negative
    → IsNumeral 10 top → (starts_with_minus (sign ++ top ++ rest) ≡ is_negative)
    × (without_leading_sign (sign ++ top ++ rest) ≡ top ++ rest)
sign_of sign is_negative [] rest s h = absurd (omega arith)
sign_of sign is_negative (b ∷ bs) rest s h = grind arith

-- ---- the bound and the denominator
record Fits (is_negative : Bool) (p q : ℕ) (x : ℚ) : Type 0 where
  pub top : p ≤ most
  pub bottom : q ≤ most
  pub divides : 1 ≤ q
  pub value : x ≡ over (signed_integer is_negative p) q

fits_by : (is_negative : Bool) (p q : ℕ) (x : ℚ) (large wide none : Bool) → nat_lt most p ≡ large
    → nat_lt most q ≡ wide → (q == 0) ≡ none → (if large || wide then Err too_large
    else (if none then Err zero_denominator else Ok (over (signed_integer is_negative p) q))) ≡ Ok x
    → Fits is_negative p q x
fits_by is_negative p q x true w n e f g h = absurd (cc)
fits_by is_negative p q x false true n e f g h = absurd (cc)
fits_by is_negative p q x false false true e f g h = absurd (cc)
fits_by is_negative p q x false false false e f g h =
    record {
      top = grind (arith, nat_tests);
      bottom = grind (arith, nat_tests);
      divides = grind (arith, nat_tests);
      value = cc;
    }

written_sound : (is_negative : Bool) (p q : ℕ) (x : ℚ) → written_fraction is_negative p q ≡ Ok x
    → Fits is_negative p q x
written_sound is_negative p q x h = fits_by is_negative p q x (nat_lt most p) (nat_lt most q) (q == 0) refl refl refl h

written_complete : (is_negative : Bool) (p q : ℕ) → p ≤ most → q ≤ most → 1 ≤ q
    → written_fraction is_negative p q ≡ Ok (over (signed_integer is_negative p) q)
written_complete is_negative p q h k l = grind (arith, nat_tests)

-- ---- numbers
bottom_complete : (bottom : Option (List ℕ)) → IfSome bottom (IsNumeral 10)
    → natural_of (bottom_digits bottom) ≡ Some (denominator bottom)
unfolding natural_of natural_after
bottom_complete None h = refl
bottom_complete (Some digits) h = natural_complete digits _ (h, refl)

pub number_complete : (bs : List ℕ) (x : ℚ) → SpellsNumber bs x → number_read bs ≡ Ok x
unfolding number_read
number_complete bs x s =
    let sign = sign_of s.sign s.is_negative s.top (under s.bottom) s.is_sign s.top_digits in
    let top = ap natural_of (top_is s.top s.bottom s.top_digits.1) ∙ natural_complete s.top _ (s.top_digits, refl) in
    let bottom = ap natural_of (bottom_is s.top s.bottom s.top_digits.1) ∙ bottom_complete s.bottom s.bottom_digits in
    let signless : List ℕ = without_leading_sign (s.sign ++ s.top ++ under s.bottom) in
    let plain : List ℕ = s.top ++ under s.bottom in
    ap number_read s.joined
    ∙ ap (λ m. of_parts m (natural_of (top_of signless)) (natural_of (bottom_of signless))) sign.0
    ∙ ap (λ cs. of_parts s.is_negative (natural_of (top_of cs)) (natural_of (bottom_of cs))) sign.1
    ∙ ap (λ n. of_parts s.is_negative n (natural_of (bottom_of plain))) top
    ∙ ap (of_parts s.is_negative (Some (digits_value 10 s.top))) bottom
    ∙ (written_complete s.is_negative (digits_value 10 s.top) (denominator s.bottom) s.top_fits
    s.bottom_fits s.divides ∙ ap Ok (sym s.value))

bottom_sound : (bottom : Option (List ℕ)) (q : ℕ) → natural_of (bottom_digits bottom) ≡ Some q
    → IfSome bottom (IsNumeral 10) × (denominator bottom ≡ q)
unfolding natural_of natural_after
bottom_sound None q e = (tt, cc)
bottom_sound (Some digits) q e = natural_sound digits q e

parts_sound : (bs : List ℕ) (x : ℚ) (g : Signed bs) (k : Slashed (without_leading_sign bs))
    (p q : Option ℕ) → natural_of (top_of (without_leading_sign bs)) ≡ p
    → natural_of (bottom_of (without_leading_sign bs)) ≡ q
    → of_parts (starts_with_minus bs) p q ≡ Ok x → SpellsNumber bs x
parts_sound bs x g k (Some p) (Some q) e f h =
    let fits = written_sound (starts_with_minus bs) p q x h in
    let top = natural_sound _ p e in
    let bottom = bottom_sound k.bottom q (ap natural_of (sym k.is_bottom) ∙ f) in
    record {
      sign = g.sign;
      is_negative = starts_with_minus bs;
      top = top_of (without_leading_sign bs);
      bottom = k.bottom;
      joined = g.joined ∙ ap (λ cs. g.sign ++ cs) k.joined
          ∙ sym (append_assoc g.sign (top_of (without_leading_sign bs)) (under k.bottom));
      is_sign = g.is_sign;
      top_digits = top.0;
      bottom_digits = bottom.0;
      top_fits = rw top.1 fits.top;
      bottom_fits = rw bottom.1 fits.bottom;
      divides = rw bottom.1 fits.divides;
      value = fits.value ∙ rw (top.1, bottom.1);
    }
parts_sound bs x g k (Some p) None e f h = absurd (cc)
parts_sound bs x g k None q e f h = absurd (cc)

pub number_sound : (bs : List ℕ) (x : ℚ) → number_read bs ≡ Ok x → SpellsNumber bs x
unfolding number_read
number_sound bs x h = parts_sound bs x (sign_split bs) (slash_split (without_leading_sign bs)) _ _ refl refl h

pub one_number : (bs : List ℕ) (x y : ℚ) → SpellsNumber bs x → SpellsNumber bs y → x ≡ y
one_number bs x y h k = let e = sym (number_complete bs x h) ∙ number_complete bs y k in cc

-- ---- what is written
module _ (n : ℕ) (h : n ≤ most) where
  digits_of : IsNumeral 10 (decimal n) × (digits_value 10 (decimal n) ≡ n)
  digits_of = decimal_is_IsNumeral_wide n (omega arith)

text_of : (x : ℚ) (sign : List ℕ) (is_negative : Bool) (n : ℕ) (bottom : Option (List ℕ))
    → IsSign sign is_negative → n ≤ most → signed_integer is_negative n ≡ x.numer
    → IfSome bottom (IsNumeral 10) → denominator bottom ≡ x.denom → x.denom ≤ most
    → SpellsNumber (sign ++ decimal n ++ under bottom) x
text_of x sign is_negative n bottom s h e k d b =
    let top = digits_of n h in
    record {
      sign = sign;
      is_negative = is_negative;
      top = decimal n;
      bottom = bottom;
      joined = refl;
      is_sign = s;
      top_digits = top.0;
      bottom_digits = k;
      top_fits = rw top.1 h;
      bottom_fits = rw d b;
      divides = rw d x.lowest.positive;
      value = rw (top.1, e, d) (sym (over_parts x));
    }

text_by : (x : ℚ) (p : ℤ) (t : Bool) → IsBounded x → p ≡ x.numer → (x.denom == 1) ≡ t
    → SpellsNumber (if t then signed_decimal p else signed_decimal p ++ 47 ∷ decimal x.denom) x
text_by x (pos n) true b e f =
    let small : n ≤ most = rw (← e) at b.0 in
    subst (λ cs. SpellsNumber cs x) (append-nil (decimal n))
    (text_of x [] false n None (inl (refl, refl)) small e tt (sym (eqb-true x.denom 1 f)) b.1)
text_by x (pos n) false b e f =
    let small : n ≤ most = rw (← e) at b.0 in
    let bottom = digits_of x.denom b.1 in
    text_of x [] false n (Some (decimal x.denom)) (inl (refl, refl)) small e bottom.0 bottom.1 b.1
text_by x (negsuc n) true b e f =
    let small : suc n ≤ most = rw (← e) at b.0 in
    subst (λ cs. SpellsNumber cs x) (ap (λ cs. 45 ∷ cs) (append-nil (decimal (suc n))))
    (text_of x (45 ∷ []) true (suc n) None (inr (inr (refl, refl))) small e tt
    (sym (eqb-true x.denom 1 f)) b.1)
text_by x (negsuc n) false b e f =
    let small : suc n ≤ most = rw (← e) at b.0 in
    let bottom = digits_of x.denom b.1 in
    text_of x (45 ∷ []) true (suc n) (Some (decimal x.denom)) (inr (inr (refl, refl))) small e bottom.0 bottom.1 b.1

pub text_spelled : (x : ℚ) → IsBounded x → SpellsNumber (number_text x) x
text_spelled x b = text_by x x.numer (x.denom == 1) b refl refl

text_length : (x : ℚ) (p : ℤ) (t : Bool) → unsigned_abs p ≤ most → x.denom ≤ most
    → length (if t then signed_decimal p else signed_decimal p ++ 47 ∷ decimal x.denom) ≤ 80
text_length x p t h k = by (signed_decimal p) t (numer_length p h)
  where
    digits_length : (n : ℕ) → n ≤ most → length (decimal n) ≤ 39
    digits_length n h = length-decimal-le_wide 39 n (lit< tt) (omega arith) (omega arith)

    numer_length : (p : ℤ) → unsigned_abs p ≤ most → length (signed_decimal p) ≤ 40
    numer_length (pos n) h = let l = digits_length n h in omega arith
    numer_length (negsuc n) h = let l = digits_length (suc n) h in omega arith

    by : (ds : List ℕ) (t : Bool) → length ds ≤ 40 → length (if t then ds else ds ++ 47 ∷ decimal x.denom) ≤ 80
    by ds true l = omega arith
    by ds false l = let d = digits_length x.denom k in omega (arith, length-append ds (47 ∷ decimal x.denom))

-- at most a sign, 39 digits, a slash and 39 digits
pub text_short : (x : ℚ) → IsBounded x → length (number_text x) ≤ 80
text_short x b = text_length x x.numer (x.denom == 1) b.0 b.1

-- digits alone are a whole number
pub plain_number : (is_negative : Bool) (bs : List ℕ) (n : ℕ) → natural_of bs ≡ Some n → n ≤ most
    → of_parts is_negative (natural_of (top_of bs)) (natural_of (bottom_of bs))
    ≡ Ok (over (signed_integer is_negative n) 1)
unfolding natural_of natural_after
plain_number is_negative bs n e h =
    let k = natural_sound bs n e in
    let top : top_of bs ≡ bs = ap top_of (sym (append-nil bs)) ∙ top_is bs None k.0.1 in
    let bottom : bottom_of bs ≡ 49 ∷ [] = ap bottom_of (sym (append-nil bs)) ∙ bottom_is bs None k.0.1 in
    ap (λ cs. of_parts is_negative (natural_of cs) (natural_of (bottom_of bs))) top
    ∙ ap (λ cs. of_parts is_negative (natural_of bs) (natural_of cs)) bottom
    ∙ ap (λ m. of_parts is_negative m (natural_of (49 ∷ []))) e
    ∙ written_complete is_negative n 1 h (lit≤ tt) (lit≤ tt)
