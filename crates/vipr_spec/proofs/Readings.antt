-- What is read of an item is what its tokens spell, and a fault of it is that of a token: both by the
-- steps of its reading
use Rattle.std.proofs.Common.{arith}
use Rattle.std.proofs.Common.{◌≡◌, ℕ, List, length, [], ◌++◌, Result, Ok, refl, sym, ◌∙◌, ap, append_assoc}
use Rattle.vipr_spec.specs.{Rest, ◌>>=◌, Read, token_of, read_each, ReadsKind, ReadsFront, Reads}
use Rattle.vipr_spec.specs.{FaultsRemain, Grammar.one, Grammar.◌then◌, Grammar.each}
use Rattle.vipr_spec.proofs.GrammarSteps.{bind_ok, ok_then, answer, is_answer, read_as, read_is}
use Rattle.vipr_spec.proofs.GrammarSteps.{read_nothing, nothing_read, read_then, parted}
use Rattle.vipr_spec.proofs.GrammarParts.{reads_one, reads_like}
use Rattle.vipr_spec.proofs.GrammarFaults.{remains_ok, remains_then, remains_token, reads_repeated}
use Rattle.vipr_spec.proofs.GrammarFaults.{remains_repeated}

abbrev pub Shape : Type 0 → Type 1
Shape A = A → List (List ℕ) → Type 0

pub record IsReading {A : Type 0} (read : Rest → Read A) (S : Shape A) : Type 0 where
  pub reads : Reads read S
  pub remains : FaultsRemain read

-- a token of a kind
pub token : {A : Type 0} (kind : List ℕ → Result A ℕ) (P : List ℕ → A → Type 0) → ReadsKind kind P
    → IsReading (token_of kind) (one P)
token kind P law = record { reads = reads_one kind P law; remains = remains_token kind }

-- so many
pub many : {A : Type 0} {read : Rest → Read A} {S : Shape A} → IsReading read S → (n : ℕ)
    → IsReading (read_each read n) (λ xs ts. (length xs ≡ n) × each S xs ts)
many {read = read} {S = S} k n =
    grind (
      arith,
      reads_repeated read S k.reads k.remains n,
      remains_repeated read S k.reads k.remains n,
    )

-- one, and then what follows it
abbrev pub Chain : {A B : Type 0} → Shape A → (A → Shape B) → Shape B
Chain {A} S T y ts = (x : A) × (S x then T x y) ts

module _ {A B : Type 0} {read : Rest → Read A} {S : Shape A} {T : A → Shape B}
    (first : IsReading read S) (f : A × Rest → Read B)
    (rest : (x : A) → IsReading (λ s. f (x, s)) (T x)) where
  chain_sound : (r s : Rest) (y : B) → (read r >>= f) ≡ Ok (y, s) → ReadsFront (Chain S T y) r s
  chain_sound r s y e =
      let x = bind_ok e in
      let t = read_then ((first.reads r x.0.1 x.0.0).0 x.1) (((rest x.0.0).reads x.0.1 s y).0 x.2) in
      read_as (Chain S T y) t (x.0.0, t.shape)

  chain_complete : (r s : Rest) (y : B) → ReadsFront (Chain S T y) r s → (read r >>= f) ≡ Ok (y, s)
  chain_complete r s y t =
      let x = t.shape.0 in
      let p = parted (read_as (S x then T x y) t t.shape.1) in
      ok_then f ((first.reads r p.at x).1 p.before) (((rest x).reads p.at s y).1 p.after)

  pub chain : IsReading (λ r. read r >>= f) (Chain S T)
  chain = record {
    reads = λ r s y. (chain_sound r s y, chain_complete r s y);
    remains = remains_then first.reads first.remains f (λ x. (rest x).remains);
  }

-- the last one, of which a value is made
abbrev pub Last : {A B : Type 0} → Shape A → (A → B) → Shape B
Last {A} S g y ts = (x : A) × (y ≡ g x) × S x ts

module _ {A B : Type 0} {read : Rest → Read A} {S : Shape A} (only : IsReading read S) (g : A → B) where
  last_sound : (r s : Rest) (y : B) → (read r >>= λ x. answer (g x.0) x.1) ≡ Ok (y, s) → ReadsFront (Last S g y) r s
  last_sound r s y e =
      let x = bind_ok {r = read r} {f = λ x. answer (g x.0) x.1} e in
      let t = (only.reads r x.0.1 x.0.0).0 x.1 in
      read_is (Last S g) x.2 (read_as (Last S g (g x.0.0)) t (x.0.0, refl, t.shape))

  last_complete : (r s : Rest) (y : B) → ReadsFront (Last S g y) r s → (read r >>= λ x. answer (g x.0) x.1) ≡ Ok (y, s)
  last_complete r s y t =
      let x = t.shape.0 in
      ok_then (λ x. answer (g x.0) x.1) ((only.reads r s x).1 (read_as (S x) t t.shape.2))
      (ap (λ z. answer z s) (sym t.shape.1))

  pub last : IsReading (λ r. read r >>= λ x. answer (g x.0) x.1) (Last S g)
  last = record {
    reads = λ r s y. (last_sound r s y, last_complete r s y);
    remains = remains_then only.reads only.remains (λ x. answer (g x.0) x.1) (λ x. remains_ok (g x));
  }

-- the same shape in other words
pub shaped : {A : Type 0} {read : Rest → Read A} {S : Shape A} (T : Shape A) → IsReading read S
    → ((x : A) (ts : List (List ℕ)) → S x ts → T x ts)
    → ((x : A) (ts : List (List ℕ)) → T x ts → S x ts) → IsReading read T
shaped T k to from = record { reads = reads_like k.reads to from; remains = k.remains }

-- the same in front, and this behind it
pub retail : {P Q R : List (List ℕ) → Type 0} {ts : List (List ℕ)} → (h : (P then Q) ts) → R h.1
    → (P then R) ts
retail h r = (h.0, h.1, h.2, h.3, r)

-- nothing, of which a value is made
abbrev pub Done : {A : Type 0} → A → Shape A
Done x y ts = (y ≡ x) × (ts ≡ [])

pub done : {A : Type 0} (x : A) → IsReading (λ r. answer x r) (Done x)
done {A} x = record {
  reads = λ r s y. (
    λ e. let t = read_nothing r in
        is_answer (λ z q. ReadsFront (Done x z) r q) e (read_as (Done x x) t (refl, t.shape)),
    λ t. ap (λ q. answer x q) (nothing_read (read_as (λ ts. ts ≡ []) t t.shape.1))
        ∙ ap (λ z. answer z s) (sym t.shape.0),
  );
  remains = remains_ok x;
}

-- three shapes, the first two or the last two together
pub regroup : {P Q R : List (List ℕ) → Type 0} {ts : List (List ℕ)} → (P then Q then R) ts
    → ((P then Q) then R) ts
regroup h = (
  h.0 ++ h.4.0,
  h.4.1,
  h.2 ∙ ap (λ l. h.0 ++ l) h.4.2
      ∙ sym (append_assoc h.0 h.4.0 h.4.1),
  (h.0, h.4.0, refl, h.3, h.4.3),
  h.4.4,
)

pub degroup : {P Q R : List (List ℕ) → Type 0} {ts : List (List ℕ)} → ((P then Q) then R) ts
    → (P then Q then R) ts
degroup h = (
  h.3.0,
  h.3.1 ++ h.1,
  h.2 ∙ ap (λ l. l ++ h.1) h.3.2 ∙ append_assoc h.3.0 h.3.1 h.1,
  h.3.3,
  (h.3.1, h.1, refl, h.3.4, h.4),
)
