-- A fault is that of a token, whatever follows it
use Rattle.std.proofs.Common.{◌≡◌, ℕ, zero, suc, ◌⊎◌, inl, inr, ⊎_elim, Bool, true, false, nat_lt}
use Rattle.std.proofs.Common.{if◌then◌else◌, List, [], ◌∷◌, ◌++◌, length, Result, Ok, Err, refl}
use Rattle.std.proofs.Common.{sym, ◌∙◌, ap, subst, append_assoc, arith}
use Rattle.std.proofs.lemmas.Grind.{common_steps}
use Rattle.vipr_spec.specs.Causes as cause
use Rattle.vipr_spec.specs.{Token, Rest, Fault, refused, unread, ◌>>=◌, Read, most_bytes}
use Rattle.vipr_spec.specs.{first_token, checked_token, token_of, read_each, ReadsFront, Reads}
use Rattle.vipr_spec.specs.{IsRefusedAt, EndsEarly, FaultsRemain, Grammar.each}
use Rattle.vipr_spec.proofs.GrammarSteps.{ok_then, read_as}
use Rattle.vipr_spec.proofs.GrammarParts.{repeated_sound, repeated_complete}

abbrev pub fault : (A : Type 0) → Fault → Result A Fault
fault A d = Err d

err_from : {A B : Type 0} {r : Result A Fault} {f : A → Result B Fault} {d : Fault}
    → (r >>= f) ≡ Err d → (r ≡ Err d) ⊎ ((x : A) × (r ≡ Ok x) × (f x ≡ Err d))
err_from {r = Ok x} e = inr (x, refl, e)
err_from {r = Err c} e = inl (cc)

pub never : {A : Type 0} {P : Type 0} (x : A) (d : Fault) → Ok x ≡ fault A d → P
never x d e = absurd (cc)

-- nothing is refused where a value is given
pub remains_ok : {A : Type 0} (x : A) → FaultsRemain {A = A × Rest} (λ r. Ok (x, r))
remains_ok x = record { refusal = λ r c o e. never (x, r) (refused c o) e; failure = λ r e. never (x, r) unread e }

-- ---- one after another

module _ {A B : Type 0} {read : Rest → Read A} {S : A → List (List ℕ) → Type 0} (law : Reads read S)
    (first : FaultsRemain read) (f : A × Rest → Result B Fault)
    (then_each : (x : A) → FaultsRemain (λ s. f (x, s))) where
  read_again : (r s q : Rest) (x : A) (t : ReadsFront (S x) r s) (rest : List Token)
      → q.tokens ≡ t.front ++ rest → read q ≡ Ok (x, record q { tokens = rest })
  read_again r s q x t rest e = (law q (record q { tokens = rest }) x).1
      (record {
        front = t.front;
        joined = ap (λ ts. record q { tokens = ts }) e;
        short = t.short;
        shape = t.shape;
      })

  now : (r : Rest) (c o : ℕ) → IsRefusedAt read r c o → IsRefusedAt (λ q. read q >>= f) r c o
  now r c o k = record {
    before = k.before;
    token = k.token;
    after = k.after;
    joined = k.joined;
    here = k.here;
    remains = λ q more e. ap (λ z. z >>= f) (k.remains q more e);
    first = λ q e h. ap (λ z. z >>= f) (k.first q e h);
  }

  later : (r s : Rest) (x : A) (c o : ℕ) → ReadsFront (S x) r s → IsRefusedAt (λ q. f (x, q)) s c o
      → IsRefusedAt (λ q. read q >>= f) r c o
  later r s x c o t k = record {
    before = t.front ++ k.before;
    token = k.token;
    after = k.after;
    joined = ap (λ (q : Rest). q.tokens) t.joined ∙ ap (λ l. t.front ++ l) k.joined
        ∙ sym (append_assoc t.front k.before (k.token ∷ k.after));
    here = k.here;
    remains = λ q more e.
        let rest = k.before ++ k.token ∷ more in
        ok_then f (read_again r s q x t rest (e ∙ append_assoc t.front k.before (k.token ∷ more)))
        (k.remains (record q { tokens = rest }) more refl);
    first = λ q e h. ok_then f (read_again r s q x t k.before e) (k.first (record q { tokens = k.before }) refl h);
  }

  refusal_then : (r : Rest) (c o : ℕ) → (read r >>= f) ≡ Err (refused c o)
      → IsRefusedAt (λ q. read q >>= f) r c o ⊎ EndsEarly r c o
  refusal_then r c o e = ⊎_elim
      (λ (h : read r ≡ Err (refused c o)). ⊎_elim (λ k. inl (now r c o k)) inr (first.refusal r c o h))
      (λ (h : (x : A × Rest) × (read r ≡ Ok x) × (f x ≡ Err (refused c o))).
      let t = (law r h.0.1 h.0.0).0 h.1 in
      ⊎_elim (λ k. inl (later r h.0.1 h.0.0 c o t k)) (λ k. inr (grind (arith, common_steps)))
      ((then_each h.0.0).refusal h.0.1 c o h.2))
      (err_from e)

  failure_then : (r : Rest) → (read r >>= f) ≡ Err unread → r.fails ≡ true
  failure_then r e = ⊎_elim
      (λ (h : read r ≡ Err unread). first.failure r h)
      (λ (h : (x : A × Rest) × (read r ≡ Ok x) × (f x ≡ Err unread)). ap (λ (q : Rest). q.fails)
      ((law r h.0.1 h.0.0).0 h.1).joined ∙ (then_each h.0.0).failure h.0.1 h.2)
      (err_from e)

  pub remains_then : FaultsRemain (λ r. read r >>= f)
  remains_then = record { refusal = refusal_then; failure = failure_then }

-- a last step that only names what was read
pub remains_named : {A B : Type 0} {read : Rest → Result A Fault} (g : A → B) → FaultsRemain read
    → FaultsRemain (λ r. read r >>= λ x. Ok (g x))
remains_named {A} {B} {read} g k = record {
  refusal = λ r c o e. ⊎_elim
      (λ (h : IsRefusedAt read r c o).
      inl (record {
        before = h.before;
        token = h.token;
        after = h.after;
        joined = h.joined;
        here = h.here;
        remains = λ q more i. ap (λ z. z >>= λ x. Ok (g x)) (h.remains q more i);
        first = λ q i l. ap (λ z. z >>= λ x. Ok (g x)) (h.first q i l);
      }))
      inr
      (k.refusal r c o (unnamed r (refused c o) e));
  failure = λ r e. k.failure r (unnamed r unread e);
}
  where
    unnamed : (r : Rest) (d : Fault) → (read r >>= λ x. Ok (g x)) ≡ Err d → read r ≡ Err d
    unnamed r d e = ⊎_elim (λ (h : read r ≡ Err d). h)
        (λ (h : (x : A) × (read r ≡ Ok x) × (Ok (g x) ≡ fault B d)). never (g h.0) d h.2)
        (err_from e)

-- ---- one token

same_refusal : {A : Type 0} (c d o p : ℕ) → fault A (refused c o) ≡ fault A (refused d p) → o ≡ p
same_refusal c d o p e = cc

module _ {A : Type 0} (kind : List ℕ → Result A ℕ) where
  -- what becomes of a token, long or not
  abbrev outcome : Bool → Token → List Token → Rest → Read A
  outcome long t ts r =
      (if long then Err (refused cause.token_too_long t.offset) else Ok
      (t, record r { tokens = ts })) >>= λ u. checked_token (kind u.0.bytes) u

  outcome_fault : (long : Bool) (t : Token) (ts : List Token) (r : Rest) (c o : ℕ)
      → outcome long t ts r ≡ Err (refused c o)
      → (t.offset ≡ o) × ((us : List Token) (s : Rest) → outcome long t us s ≡ Err (refused c o))
  outcome_fault long t ts r c o e = grind (arith, same_refusal, never)

  -- no token is left
  abbrev no_more : Bool → ℕ → Read A
  no_more fails size = (if fails then Err unread else Err (refused cause.truncated size)) >>=
      λ (u : Token × Rest). checked_token (kind u.0.bytes) u

  no_more_fault : (fails : Bool) (size c o : ℕ) → no_more fails size ≡ Err (refused c o)
      → (fails ≡ false) × (c ≡ cause.truncated) × (o ≡ size)
  no_more_fault fails size c o e = grind arith

  abbrev from : List Token → Rest → Read A
  from ts r = first_token ts r >>= λ u. checked_token (kind u.0.bytes) u

  from_refusal : (ts : List Token) (r : Rest) (c o : ℕ) → r.tokens ≡ ts
      → from ts r ≡ Err (refused c o) → IsRefusedAt (token_of kind) r c o ⊎ EndsEarly r c o
  unfolding first_token
  from_refusal [] r c o h e = inr (no_more_fault r.fails r.length c o e)
  from_refusal (t ∷ ts) r c o h e =
      let k = outcome_fault (nat_lt most_bytes (length t.bytes)) t ts r c o e in
      inl (record {
        before = [];
        token = t;
        after = ts;
        joined = h;
        here = k.0;
        remains = λ s more i. ap (λ us. from us s) i ∙ k.1 more s;
        first = λ s i l. ap (λ us. from us s) i ∙ ap (λ b. no_more b s.length) l;
      })

  from_failure : (ts : List Token) (r : Rest) → from ts r ≡ Err unread → r.fails ≡ true
  unfolding first_token
  from_failure ts r e = grind arith

  pub remains_token : FaultsRemain (token_of kind)
  remains_token = record {
    refusal = λ r c o e. from_refusal r.tokens r c o refl e;
    failure = λ r e. from_failure r.tokens r e;
  }

-- ---- so many in a row

module _ {A : Type 0} (read : Rest → Read A) (S : A → List (List ℕ) → Type 0) (law : Reads read S)
    (k : FaultsRemain read) where
  pub reads_repeated : (n : ℕ) → Reads (read_each read n) (λ xs ts. (length xs ≡ n) × each S xs ts)
  reads_repeated n r s xs = (
    λ e. let t = repeated_sound read S law n r s xs e in
        read_as (λ ts. (length xs ≡ n) × each S xs ts) t.1 (t.0, t.1.shape),
    λ t. subst (λ m. read_each read m r ≡ Ok (xs, s)) t.shape.0
        (repeated_complete read S law xs r s (read_as (each S xs) t t.shape.1)),
  )

  pub remains_repeated : (n : ℕ) → FaultsRemain (read_each read n)
  unfolding read_each
  remains_repeated zero = remains_ok []
  remains_repeated (suc n) =
      remains_then law k _
      (λ x. remains_then (reads_repeated n) (remains_repeated n) _ (λ xs. remains_ok (x ∷ xs)))
