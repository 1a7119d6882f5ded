-- Readings and shapes, one after another
use Rattle.std.proofs.Common.{◌≡◌, ℕ, ◌≤◌, ◌⊎◌, Bool, true, false, if◌then◌else◌}
use Rattle.std.proofs.Common.{List, [], ◌∷◌, ◌++◌, length, map, Result, Ok, Err, All, arith, refl}
use Rattle.std.proofs.Common.{sym, ◌∙◌, ap, subst, append_assoc}
use Rattle.std.proofs.lemmas.List.Elements.{All-nil, All-cons, All-head, All-tail, All-append}
use Rattle.std.proofs.{lemmas.List.map-append}
use Rattle.vipr_spec.specs.{Token, Rest, Fault, ◌>>=◌, Read, most_bytes}
use Rattle.vipr_spec.specs.{first_token, token_read, ReadsFront, Grammar.◌then◌}

-- ---- results

pub chosen : {A : Type 0} (b : Bool) (x y z : A) → (if b then x else y) ≡ z
    → ((b ≡ true) × (x ≡ z)) ⊎ ((b ≡ false) × (y ≡ z))
chosen b x y z e = grind arith

pub guard_true : {A E : Type 0} (b : Bool) (x y : A) (c : E) → (if b then Ok x else Err c) ≡ Ok y
    → (b ≡ true) × (x ≡ y)
guard_true b x y c e = grind arith

abbrev pub success : {A : Type 0} → (E : Type 0) → A → Result A E
success E x = Ok x

pub same_ok : {A E : Type 0} {x y : A} → success E x ≡ success E y → x ≡ y
same_ok e = cc

pub bind_ok : {A B : Type 0} {r : Result A Fault} {f : A → Result B Fault} {y : B}
    → (r >>= f) ≡ Ok y → (x : A) × (r ≡ Ok x) × (f x ≡ Ok y)
bind_ok {r = Ok x} e = (x, refl, e)
bind_ok {r = Err d} e = absurd (cc)

pub ok_then : {A B : Type 0} {r : Result A Fault}
    (f : A → Result B Fault) {x : A} {y : Result B Fault} → r ≡ Ok x → f x ≡ y → (r >>= f) ≡ y
ok_then f e h = ap (λ z. z >>= f) e ∙ h

-- ---- tokens taken

abbrev pub bytes_of : List Token → List (List ℕ)
bytes_of ts = map (λ t. t.bytes) ts

abbrev pub IsShort : List ℕ → Type 0
IsShort b = length b ≤ most_bytes

-- the same tokens, of another shape
pub read_as : {P : List (List ℕ) → Type 0} (Q : List (List ℕ) → Type 0) {r s : Rest}
    (t : ReadsFront P r s) → Q (bytes_of t.front) → ReadsFront Q r s
read_as Q t q = record { front = t.front; joined = t.joined; short = t.short; shape = q }

abbrev pub answer : {A : Type 0} → A → Rest → Read A
answer x s = Ok (x, s)

-- what was read is this
pub read_is : {A : Type 0} (S : A → List (List ℕ) → Type 0) {r q s : Rest} {v x : A}
    → answer v q ≡ answer x s → ReadsFront (S v) r q → ReadsFront (S x) r s
read_is S {r} {q} {s} {v} {x} e t = grind (arith, same_ok)

pub is_answer : {A : Type 0} (P : A → Rest → Type 0) {q s : Rest} {v x : A}
    → answer v q ≡ answer x s → P v q → P x s
is_answer P e p = subst (λ y. P y.0 y.1) (same_ok e) p

pub read_nothing : (r : Rest) → ReadsFront (λ ts. ts ≡ []) r r
read_nothing r = record { front = []; joined = refl; short = All-nil _; shape = refl }

no_tokens : (ts : List Token) → bytes_of ts ≡ [] → ts ≡ []
no_tokens [] e = refl
no_tokens (t ∷ ts) e = absurd (cc)

pub nothing_read : {r s : Rest} → ReadsFront (λ ts. ts ≡ []) r s → r ≡ s
nothing_read {r} {s} t = t.joined ∙ ap (λ l. record s { tokens = l ++ s.tokens }) (no_tokens t.front t.shape)

pub read_then : {P Q : List (List ℕ) → Type 0} {r s t : Rest} → ReadsFront P r s → ReadsFront Q s t
    → ReadsFront (P then Q) r t
read_then {t = t} a b = record {
  front = a.front ++ b.front;
  joined = a.joined ∙ ap (λ (u : Rest). record u { tokens = a.front ++ u.tokens }) b.joined
      ∙ ap (λ l. record t { tokens = l }) (sym (append_assoc a.front b.front t.tokens));
  short = subst (All IsShort) (sym (map-append _ a.front b.front))
      (All-append IsShort (bytes_of a.front) (bytes_of b.front) a.short b.short);
  shape = (bytes_of a.front, bytes_of b.front, map-append _ a.front b.front, a.shape, b.shape);
}

record Split (ts : List Token) (xs ys : List (List ℕ)) : Type 0 where
  front : List Token
  back : List Token
  joined : ts ≡ front ++ back
  in_front : bytes_of front ≡ xs
  behind : bytes_of back ≡ ys

split_more : {t : Token} {ts : List Token} {x : List ℕ} {xs ys : List (List ℕ)} → t.bytes ≡ x
    → Split ts xs ys → Split (t ∷ ts) (x ∷ xs) ys
split_more {t} e s = record {
  front = t ∷ s.front;
  back = s.back;
  joined = ap (λ l. t ∷ l) s.joined;
  in_front = cc;
  behind = s.behind;
}

split : (ts : List Token) (xs ys : List (List ℕ)) → bytes_of ts ≡ xs ++ ys → Split ts xs ys
split ts [] ys e = record { front = []; back = ts; joined = refl; in_front = refl; behind = e }
split [] (x ∷ xs) ys e = absurd (cc)
split (t ∷ ts) (x ∷ xs) ys e =
    let h : t.bytes ≡ x = cc in
    let k : bytes_of ts ≡ xs ++ ys = cc in
    split_more h (split ts xs ys k)

all_front : {X : Type 0} (P : X → Type 0) (xs ys : List X) → All P (xs ++ ys) → All P xs
all_front P [] ys h = All-nil P
all_front P (x ∷ xs) ys h = All-cons P x xs (All-head P x (xs ++ ys) h) (all_front P xs ys (All-tail P x (xs ++ ys) h))

all_back : {X : Type 0} (P : X → Type 0) (xs ys : List X) → All P (xs ++ ys) → All P ys
all_back P [] ys h = h
all_back P (x ∷ xs) ys h = all_back P xs ys (All-tail P x (xs ++ ys) h)

-- the place between the two
pub record Parted (P Q : List (List ℕ) → Type 0) (r t : Rest) : Type 0 where
  pub at : Rest
  pub before : ReadsFront P r at
  pub after : ReadsFront Q at t

pub parted : {P Q : List (List ℕ) → Type 0} {r t : Rest} → ReadsFront (P then Q) r t
    → Parted P Q r t
parted {P} {Q} {r} {t} a =
    let k = split a.front a.shape.0 a.shape.1 a.shape.2 in
    let all : All IsShort (bytes_of k.front ++ bytes_of k.back) =
    subst (All IsShort) (ap bytes_of k.joined ∙ map-append _ k.front k.back) a.short in
    record {
      at = record t { tokens = k.back ++ t.tokens };
      before = record {
        front = k.front;
        joined = a.joined ∙ ap (λ l. record t { tokens = l ++ t.tokens }) k.joined
            ∙ ap (λ l. record t { tokens = l }) (append_assoc k.front k.back t.tokens);
        short = all_front IsShort (bytes_of k.front) (bytes_of k.back) all;
        shape = subst P (sym k.in_front) a.shape.3;
      };
      after = record {
        front = k.back;
        joined = refl;
        short = all_back IsShort (bytes_of k.front) (bytes_of k.back) all;
        shape = subst Q (sym k.behind) a.shape.4;
      };
    }

-- ---- one token

pub record Next (r : Rest) (t : Token) (s : Rest) : Type 0 where
  pub joined : r ≡ record s { tokens = t ∷ s.tokens }
  pub short : length t.bytes ≤ most_bytes

next_from : (ts : List Token) (r : Rest) (t : Token) (s : Rest) → r.tokens ≡ ts
    → first_token ts r ≡ Ok (t, s) → Next r t s
unfolding first_token
next_from ts r t s h e = grind arith

pub next_sound : {r : Rest} {t : Token} {s : Rest} → token_read r ≡ Ok (t, s) → Next r t s
next_sound {r} {t} {s} e = next_from r.tokens r t s refl e
