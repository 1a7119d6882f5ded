-- What an answer of the reader of tokens says of the token that is wanted
use Rattle.std.proofs.Common.{arith}
use Rattle.std.proofs.Common.{◌≡◌, ◌≤◌, Bool, true, false, List, [], ◌∷◌, length, nat_lt, Option}
use Rattle.std.proofs.Common.{Some, None, Result, Ok, IfOk, IfSome, IsSome, refl, sym, ap, ◌∙◌}
use Rattle.std.proofs.{lemmas.Bool.ltb-false, lemmas.List.take_all}
use Rattle.vipr_spec.specs.{Reading.Rest, Reading.token_read, Reading.first_token, Tokens.Token}
use Rattle.vipr_scan.specs.View.{TokenView, next_answer, first_answer, view_of_read, next_left}
use Rattle.vipr_scan.specs.View.{stops}
use Rattle.vipr_scan.specs.{Giving.rest_of, Giving.IsBehind, declared.error.ScanError.ScanError}

-- what was seen, as a token
abbrev pub token_seen : TokenView → Token
token_seen s = record { bytes = s.bytes; offset = s.offset }

-- a token that isn't too long
pub short_token : (l : Rest) (s : TokenView) → Ok (Some s) ≡ next_answer l → s.long ≡ false
    → token_read l ≡ Ok (token_seen s, next_left l)
unfolding first_token
short_token l s h short = go l.tokens l.fails h
  where
    go : (ts : List Token) (fails : Bool) → Ok (Some s) ≡ first_answer ts fails
        → first_token ts (record l { tokens = ts; fails = fails }) ≡ Ok
        (token_seen s, next_left (record l { tokens = ts; fails = fails }))
    go [] false e = cc
    go [] true e = cc
    go (t ∷ ts) fails e =
        let q : s ≡ view_of_read t = (cc) in
        let no : nat_lt 65535 (length t.bytes) ≡ false = sym (ap (λ (x : TokenView). x.long) q) ∙ short in
        let fits : length t.bytes ≤ 65535 = ltb-false 65535 (length t.bytes) no in
        let all : s.bytes ≡ t.bytes = ap (λ (x : TokenView). x.bytes) q ∙ take_all 65535 t.bytes fits in
        let at : s.offset ≡ t.offset = ap (λ (x : TokenView). x.offset) q in
        rw (no, all, at) refl

-- the same where the rest is known, with the rest behind it
pub short_known : (old new : Option Rest) (s : TokenView)
    → IfSome old (λ l. Ok (Some s) ≡ next_answer l) → s.long ≡ false
    → IfSome old (λ l. new ≡ Some (next_left l))
    → IsSome old → (token_read (rest_of old) ≡ Ok (token_seen s, rest_of new)) × IsSome new
short_known old new s answer short left known = grind (arith, short_token)

-- what an answer leaves, where the next token is whole
pub behind_of : (old new : Option Rest) (answer : Result (Option TokenView) ScanError)
    → IfSome old (λ l. answer ≡ next_answer l)
    → (stops answer ≡ false → IfSome old (λ l. new ≡ Some (next_left l))) → IsBehind old new
unfolding first_token
behind_of None new answer is left = tt
behind_of (Some l) new answer is left = go l.tokens l.fails is left
  where
    long : (b : Bool) (t : Token) (ts : List Token) (fails : Bool)
        → b ≡ nat_lt 65535 (length t.bytes) → answer ≡ first_answer (t ∷ ts) fails
        → (stops answer ≡ false → new ≡ Some (record l { tokens = ts; fails = fails }))
        → IfOk (first_token (t ∷ ts) (record l { tokens = t ∷ ts; fails = fails })) (λ x. new ≡ Some x.1)
    long true t ts fails b is left = rw (← b) tt
    long false t ts fails b is left = rw (← b) (left (rw is (sym b)))

    go : (ts : List Token) (fails : Bool) → answer ≡ first_answer ts fails
        → (stops answer ≡ false → new ≡ Some (next_left (record l { tokens = ts; fails = fails })))
        → IfOk (first_token ts (record l { tokens = ts; fails = fails })) (λ x. new ≡ Some x.1)
    go ts fails is left = grind arith
