-- One token of a kind, and shapes in a row
use Rattle.std.proofs.Common.{◌≡◌, ℕ, zero, suc, List, [], ◌∷◌}
use Rattle.std.proofs.Common.{◌++◌, length, Result, Ok, All, arith, refl, sym, ◌∙◌, ap, subst}
use Rattle.std.proofs.lemmas.List.Elements.{All-nil, All-cons, All-head}
use Rattle.vipr_spec.specs.{Token, Rest, Read, first_token, token_read, checked_token, token_of}
use Rattle.vipr_spec.specs.{read_each, name_of, word_of, ReadsKind, ReadsFront, Reads}
use Rattle.vipr_spec.specs.Grammar.{one, each, word}
use Rattle.vipr_spec.proofs.GrammarTokens.{kinds_of_token}
use Rattle.vipr_spec.proofs.GrammarSteps.{bind_ok, ok_then, same_ok, bytes_of, IsShort, read_is}
use Rattle.vipr_spec.proofs.GrammarSteps.{read_nothing, nothing_read, read_then, parted, Next}
use Rattle.vipr_spec.proofs.GrammarSteps.{next_sound, read_as}

-- ---- one token

pub one_token : {r s : Rest} {t : Token} (P : List (List ℕ) → Type 0) → Next r t s
    → P (t.bytes ∷ []) → ReadsFront P r s
one_token {t = t} P n h = record {
  front = t ∷ [];
  joined = n.joined;
  short = All-cons IsShort t.bytes [] n.short (All-nil IsShort);
  shape = h;
}

pub record FirstOf (P : List (List ℕ) → Type 0) (r s : Rest) : Type 0 where
  pub token : Token
  pub next : Next r token s
  pub shape : P (token.bytes ∷ [])

pub first_of_front : (P : List (List ℕ) → Type 0) (r s : Rest) (ts : List Token) (b : List ℕ)
    → r ≡ record s { tokens = ts ++ s.tokens } → All IsShort (bytes_of ts) → bytes_of ts ≡ b ∷ []
    → P (bytes_of ts) → FirstOf P r s
first_of_front P r s [] b j a e h = absurd (cc)
first_of_front P r s (t ∷ []) b j a e h =
    record {
      token = t;
      next = record { joined = j; short = All-head IsShort t.bytes [] a };
      shape = h;
    }
first_of_front P r s (t ∷ u ∷ us) b j a e h = absurd (cc)

pub next_complete : {r : Rest} {t : Token} {s : Rest} → Next r t s → token_read r ≡ Ok (t, s)
unfolding first_token
next_complete {r} {t} {s} n = grind arith

checked_ok : {A : Type 0} (k : Result A ℕ) (t : Token × Rest) (x : A) (s : Rest)
    → checked_token k t ≡ Ok (x, s) → (k ≡ Ok x) × (t.1 ≡ s)
checked_ok k t x s e = grind (arith, same_ok)

module _ {A : Type 0} (kind : List ℕ → Result A ℕ) (P : List ℕ → A → Type 0) (law : ReadsKind kind P) where
  read_sound : (r s : Rest) (x : A) → token_of kind r ≡ Ok (x, s) → ReadsFront (one P x) r s
  read_sound r s x e =
      let t = bind_ok e in
      let k = checked_ok (kind t.0.0.bytes) t.0 x s t.2 in
      let n = next_sound t.1 in
      one_token (one P x) (subst (λ q. Next r t.0.0 q) k.1 n) (t.0.0.bytes, refl, (law t.0.0.bytes x).0 k.0)

  read_complete : (r s : Rest) (x : A) → ReadsFront (one P x) r s → token_of kind r ≡ Ok (x, s)
  read_complete r s x t =
      let f = first_of_front (one P x) r s t.front t.shape.0 t.joined t.short t.shape.1 t.shape in
      let same : f.shape.0 ≡ f.token.bytes = cc in
      let means : kind f.token.bytes ≡ Ok x = subst (λ b. kind b ≡ Ok x) same ((law f.shape.0 x).1 f.shape.2) in
      ok_then _ (next_complete f.next) (ap (λ k. checked_token k (f.token, s)) means)

  pub reads_one : Reads (token_of kind) (one P)
  reads_one r s x = (read_sound r s x, read_complete r s x)

pub reads_like : {A : Type 0} {read : Rest → Read A} {S T : A → List (List ℕ) → Type 0}
    → Reads read S → ((x : A) (ts : List (List ℕ)) → S x ts → T x ts)
    → ((x : A) (ts : List (List ℕ)) → T x ts → S x ts) → Reads read T
reads_like {S = S} {T = T} law to from r s x = (
  λ e. let t = (law r s x).0 e in read_as (T x) t (to x (bytes_of t.front) t.shape),
  λ t. (law r s x).1 (read_as (S x) t (from x (bytes_of t.front) t.shape)),
)

pub reads_name : Reads (token_of name_of) word
reads_name = reads_like (reads_one name_of (λ t x. t ≡ x) kinds_of_token.name)
    (λ x ts h. h.1 ∙ ap (λ b. b ∷ []) h.2) (λ x ts h. (x, h, refl))

pub reads_fixed : (w : List ℕ) (c : ℕ) → Reads (token_of (word_of w c)) (λ u. word w)
reads_fixed w c = reads_like (reads_one (word_of w c) (λ t x. t ≡ w) (kinds_of_token.fixed w c))
    (λ x ts h. h.1 ∙ ap (λ b. b ∷ []) h.2) (λ x ts h. (w, h, refl))

-- ---- so many in a row

module _ {A : Type 0} (read : Rest → Read A) (S : A → List (List ℕ) → Type 0) (law : Reads read S) where
  pub repeated_sound : (n : ℕ) (r s : Rest) (xs : List A) → read_each read n r ≡ Ok (xs, s)
      → (length xs ≡ n) × ReadsFront (each S xs) r s
  unfolding read_each
  repeated_sound zero r s xs e = grind (arith, same_ok, read_is, read_nothing)
  repeated_sound (suc n) r s xs e =
      let x = bind_ok e in
      let ys = bind_ok x.2 in
      let k = repeated_sound n x.0.1 ys.0.1 ys.0.0 ys.1 in
      let both = same_ok ys.2 in
      (ap (λ p. length p.0) (sym both) ∙ ap suc k.0, read_is (each S) ys.2 (read_then ((law r x.0.1 x.0.0).0 x.1) k.1))

  pub repeated_complete : (xs : List A) (r s : Rest) → ReadsFront (each S xs) r s
      → read_each read (length xs) r ≡ Ok (xs, s)
  unfolding read_each
  repeated_complete [] r s t = ap (λ q. Ok ([], q)) (nothing_read t)
  repeated_complete (x ∷ xs) r s t =
      let p = parted t in
      ok_then _ ((law r p.at x).1 p.before) (ok_then _ (repeated_complete xs p.at s p.after) refl)
