-- What an answer of the window says of the end of the text
use Rattle.std.proofs.Common.{◌≡◌, Bool, true, false, List, [], ◌∷◌, Some, None, Ok, Err, refl, sym}
use Rattle.std.proofs.Common.{ap}
use Rattle.vipr_spec.specs.Tokens.{Token}
use Rattle.vipr_spec.specs.Reading.{Rest, refused, unread, end_read, end_of}
use Rattle.vipr_scan.specs.View.{TokenView, next_answer, first_answer, view_of_read}
use Rattle.vipr_scan.specs.declared.error.ScanError.TheVariants as stop

pub ended : (l : Rest) → Ok None ≡ next_answer l → end_read l ≡ Ok tt
unfolding end_of
ended l h = go l.tokens l.fails refl h
  where
    go : (ts : List Token) (fails : Bool) → fails ≡ l.fails → Ok None ≡ first_answer ts fails → end_of ts l ≡ Ok tt
    go [] false q e = rw (← q) refl
    go [] true q e = absurd (cc)
    go (t ∷ ts) fails q e = absurd (cc)

pub trailing : (l : Rest) (s : TokenView) → Ok (Some s) ≡ next_answer l
    → end_read l ≡ Err (refused 18 s.offset)
unfolding end_of
trailing l s h = go l.tokens l.fails h
  where
    go : (ts : List Token) (fails : Bool) → Ok (Some s) ≡ first_answer ts fails
        → end_of ts l ≡ Err (refused 18 s.offset)
    go [] false e = absurd (cc)
    go [] true e = absurd (cc)
    go (t ∷ ts) fails e =
        let same : s ≡ view_of_read t = (cc) in
        ap (λ (x : TokenView). Err (refused 18 x.offset)) (sym same)

pub failed : (l : Rest) → Err stop.Read ≡ next_answer l → end_read l ≡ Err unread
unfolding end_of
failed l h = go l.tokens l.fails refl h
  where
    go : (ts : List Token) (fails : Bool) → fails ≡ l.fails → Err stop.Read ≡ first_answer ts fails
        → end_of ts l ≡ Err unread
    go [] false q e = absurd (cc)
    go [] true q e = rw (← q) refl
    go (t ∷ ts) fails q e = absurd (cc)
