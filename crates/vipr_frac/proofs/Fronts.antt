-- What digits at the front write, in front of more digits and behind others
use Rattle.std.proofs.Common.{rules, ◌≡◌, ℕ, ◌+◌, ◌-◌, ◌*◌, ◌^◌, ◌<◌, ◌≤◌, ◌≢◌, ◌⊎◌, Bool, true}
use Rattle.std.proofs.Common.{false, List, [], ◌∷◌, ◌++◌, length, take, drop, get_or, Some, None}
use Rattle.std.proofs.Common.{refl, sym, ap, ◌∙◌, arith, inl, inr, if◌then◌else◌, add-one}
use Rattle.std.proofs.Common.{zero-lt-suc, subst, Result, not, cond}
use Rattle.std.proofs.lemmas.List.{take-append-drop, drop-drop, length-take, length-drop, take_all}
use Rattle.std.proofs.lemmas.List.{get_or-take, get_or-drop, take-take, drop-take}
use Rattle.std.proofs.Math.Nat.{pow-suc, pow-le-pow_right, mul-le-mul}
use Rattle.std.proofs.lemmas.Bool.{cases_lt, cases_eq}
use Rattle.std.proofs.{lemmas.Bool.Decides.nat_tests, lemmas.List.Sums.prefix_len_is}
use Rattle.std.specs.Str.Parse.{starts_with_minus}
use Rattle.vipr_spec.specs.Number.{is_slash, top_of, bottom_of, of_parts, number_read}
use Rattle.vipr_spec.specs.Digits.{natural_of, natural_after, is_digit}
use Rattle.vipr_spec.specs.{Fraction.ℚ, Tokens.is_white}
use Rattle.vipr_spec.proofs.Laws.{natural_of_some, next_other}
use Rattle.vipr_frac.specs.{Reading.as_read, declared.number.NumberError.NumberError}
use Rattle.vipr_frac.proofs.Parsed.{read_parts}

-- n and k digits stand in front of those of m
shifted : (n k m v : ℕ) (xs ys : List ℕ) → natural_after m xs ≡ Some v
    → natural_after (n * 10 ^ k + m) (xs ++ ys) ≡ natural_after (n * 10 ^ (k + length xs) + v) ys
unfolding natural_after
shifted n k m v [] ys e = let same : m ≡ v = (cc) in let none : k + 0 ≡ k = omega arith in rw (same, none) refl
shifted n k m v (b ∷ bs) ys e = by (is_digit b) (λ h. shifted n (k + 1) (m * 10 + (b - 48)) v bs ys h) e
  where
    by : (t : Bool)
        → (natural_after (m * 10 + (b - 48)) bs ≡ Some v
        → natural_after (n * 10 ^ (k + 1) + (m * 10 + (b - 48))) (bs ++ ys) ≡ natural_after
        (n * 10 ^ (k + 1 + length bs) + v) ys)
        → (if t then natural_after (m * 10 + (b - 48)) bs else None) ≡ Some v
        → (if t then natural_after ((n * 10 ^ k + m) * 10 + (b - 48)) (bs ++ ys) else None) ≡
        natural_after (n * 10 ^ (k + length (b ∷ bs)) + v) ys
    by false next e = absurd (cc)
    by true next e =
        let p : 10 ^ (k + 1) ≡ 10 ^ k * 10 = rw add-one (pow-suc 10 k) in
        let same : (n * 10 ^ k + m) * 10 + (b - 48) ≡ n * 10 ^ (k + 1) + (m * 10 + (b - 48)) = rw p (omega arith) in
        let count : k + 1 + length bs ≡ k + length (b ∷ bs) = omega arith in
        rw same (next e ∙ ap (λ j. natural_after (n * 10 ^ j + v) ys) count)

-- a part of the digits behind those of n
pub behind : (n v from len : ℕ) (bs : List ℕ) → len ≤ length (drop from bs)
    → natural_after 0 (take len (drop from bs)) ≡ Some v →
    natural_after n (drop from bs) ≡ natural_after (n * 10 ^ len + v) (drop (from + len) bs)
behind n v from len bs within e =
    let size : 0 + length (take len (drop from bs)) ≡ len = omega (arith, length-take len (drop from bs)) in
    let rest : drop len (drop from bs) ≡ drop (from + len) bs = rw drop-drop refl in
    let start : n * 10 ^ 0 + 0 ≡ n = omega arith in
    ap (natural_after n) (sym (take-append-drop len (drop from bs)))
    ∙ ap (λ j. natural_after j (take len (drop from bs) ++ drop len (drop from bs))) (sym start)
    ∙ shifted n 0 0 v (take len (drop from bs)) (drop len (drop from bs)) e
    ∙ ap (λ j. natural_after (n * 10 ^ j + v) (drop len (drop from bs))) size
    ∙ ap (natural_after (n * 10 ^ len + v)) rest

-- all bytes from a place on
pub onward : (i : ℕ) (bs : List ℕ) → take (length bs - i) (drop i bs) ≡ drop i bs
onward i bs = take_all (length bs - i) (drop i bs) (omega (arith, length-drop i bs))

-- another byte than a digit
pub other : (b : ℕ) → is_digit b ≡ false → (b < 48) ⊎ (57 < b)
other b h = grind (arith, nat_tests)

-- a value that is small enough takes a part behind it
pub part_fits : (value len part : ℕ) → value ≤ 170141183460469231731 → len ≤ 18 → part < 10 ^ 18
    → value * 10 ^ len + part < 2 ^ 128
part_fits value len part small few below =
    let p : 10 ^ len ≤ 10 ^ 18 = pow-le-pow_right (zero-lt-suc 9) few in
    omega (arith, mul-le-mul small p)

pub solid : (b : ℕ) → is_digit b ≡ true → is_white b ≡ false
unfolding is_white
solid b h = grind (arith, nat_tests)

-- the number of the digits at the front
pub front_value : (len v : ℕ) (bs : List ℕ) → 0 < len → len ≤ length bs
    → natural_after 0 (take len bs) ≡ Some v → natural_of (take len bs) ≡ Some v
front_value len v bs some within e = grind (arith, natural_of_some)

-- another byte behind the digits at the front
pub stopped : (len v : ℕ) (bs : List ℕ) → len < length bs → natural_after 0 (take len bs) ≡ Some v
    → is_digit (get_or bs len 0) ≡ false → natural_of bs ≡ None
stopped len v bs more e stop =
    let size : length bs ≢ 0 = omega arith in
    let place : 0 + len ≡ len = omega arith in
    sym (natural_of_some bs size)
    ∙ behind 0 v 0 len bs (omega arith) e
    ∙ ap (λ i. natural_after (0 * 10 ^ len + v) (drop i bs)) place
    ∙ next_other (0 * 10 ^ len + v) len bs more (other (get_or bs len 0) stop)

no_slash : (b : ℕ) → is_digit b ≡ true → not (is_slash b) ≡ true
no_slash b h = grind (arith, nat_tests)

-- digits, a slash and digits have no white space
pub fraction_solid : (bs : List ℕ) (len more : ℕ)
    → ((k : ℕ) → k < len → is_digit (get_or bs k 0) ≡ true) → get_or bs len 0 ≡ 47 →
    ((k : ℕ) → k < more → is_digit (get_or (drop (len + 1) bs) k 0) ≡ true) → (k : ℕ)
    → k < len + 1 + more → is_white (get_or bs k 0) ≡ false
unfolding is_white
fraction_solid bs len more digits slash below k h = elim (cases_lt k len) [
  | inl l ↦ solid (get_or bs k 0) (digits k l)
  | inr m ↦ elim (cases_eq k len) [
    | inl e ↦ rw (e, slash) refl
    | inr e ↦
        let at : get_or (drop (len + 1) bs) (k - (len + 1)) 0 ≡ get_or bs
        (len + 1 + (k - (len + 1))) 0 = get_or-drop (len + 1) bs (k - (len + 1)) 0 in
        let same : len + 1 + (k - (len + 1)) ≡ k = omega arith in
        solid (get_or bs k 0) (subst (λ b. is_digit b ≡ true) (at ∙ ap (λ j. get_or bs j 0) same)
        (below (k - (len + 1)) (omega arith)))
  ]
]

-- their parts are the digits before and behind the slash
pub fraction_value : (bs : List ℕ) (is_negative : Bool) (len more top : ℕ)
    → ((k : ℕ) → k < len → is_digit (get_or bs k 0) ≡ true) → get_or bs len 0 ≡ 47 → len < length bs
    → natural_of (take len bs) ≡ Some top →
    of_parts is_negative (Some top) (natural_of (take more (drop (len + 1) bs)))
    ≡ of_parts is_negative (natural_of (top_of (take (len + 1 + more) bs)))
    (natural_of (bottom_of (take (len + 1 + more) bs)))
fraction_value bs is_negative len more top digits slash within e =
    search (rules, length-take, prefix_len_is, get_or-take, no_slash, take-take, drop-take)

chosen : (b : Bool) (x y : List ℕ) → true ≡ b → x ≡ cond b x y
chosen b x y e = grind arith

passed : (b : Bool) (x y : List ℕ) → false ≡ b → y ≡ cond b x y
passed b x y e = grind arith

-- a sign and a number without one at the front
pub front_read : (bs : List ℕ) (is_negative : Bool) (sign len : ℕ) (r : Result ℚ NumberError)
    → is_negative ≡ starts_with_minus bs → (is_negative ≡ true → sign ≡ 1)
    → (is_negative ≡ false → sign ≡ 0) → 0 < len →
    is_digit (get_or (drop sign bs) 0 0) ≡ true → as_read r ≡ of_parts is_negative
    (natural_of (top_of (take len (drop sign bs))))
    (natural_of (bottom_of (take len (drop sign bs))))
    → as_read r ≡ number_read (take (sign + len) bs)
front_read bs is_negative sign len r e one none some digit h = grind (arith, get_or-take, read_parts, nat_tests)

-- neither a sign has white space
pub sign_solid : (bs : List ℕ) (is_negative : Bool) (sign len : ℕ)
    → is_negative ≡ starts_with_minus bs → (is_negative ≡ true → sign ≡ 1)
    → (is_negative ≡ false → sign ≡ 0) →
    ((k : ℕ) → k < len → is_white (get_or (drop sign bs) k 0) ≡ false) → (k : ℕ) → k < sign + len
    → is_white (get_or bs k 0) ≡ false
unfolding is_white
sign_solid bs true sign len e one none rest k h = grind (arith, get_or-drop sign bs (k - sign) 0)
sign_solid bs false sign len e one none rest k h =
    let at : get_or (drop sign bs) k 0 ≡ get_or bs (sign + k) 0 = get_or-drop sign bs k 0 in
    let first : sign ≡ 0 = none refl in
    let same : sign + k ≡ k = omega arith in
    subst (λ b. is_white b ≡ false) (at ∙ ap (λ j. get_or bs j 0) same) (rest k (omega arith))
