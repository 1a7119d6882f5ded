-- What is left, through a step of the reader.
use Rattle.std.proofs.Common.{◌≡◌, ℕ, ◌+◌, ◌-◌, ◌^◌, ◌<◌, ◌≤◌, min, Bool, true, List, [], ◌∷◌, ◌++◌}
use Rattle.std.proofs.Common.{length, take, drop, get_or, Option, Some, None, Result, Ok}
use Rattle.std.proofs.Common.{OnErr, IfSome, refl, sym, ap, ◌∙◌, arith, slice_range, nat_lt}
use Rattle.std.proofs.Common.{if◌then◌else◌, option_and_then, inl, inr, false, nat_eq}
use Rattle.std.proofs.lemmas.List.{get_or-take, get_or_append_left, take-append-le, length-take-le}
use Rattle.std.proofs.lemmas.List.{take_all, length-append, length-take, take-take, length-drop}
use Rattle.std.proofs.lemmas.List.{drop-append-le, nil_from_length, drop-drop, drop-take, drop_more}
use Rattle.std.proofs.lemmas.Bool.{lt-ltb, le-ltb, cases_lt, cases_eq, eq-eqb, ne_eqb}
use Rattle.std.specs.Option.{option_map}
use Rattle.vipr_spec.specs.Tokens.{IsToken, is_white, tokens_from, tokens_after_front, run}
use Rattle.vipr_spec.specs.{Input.Input, Reading.Rest}
use Rattle.vipr_scan.specs.View.{prepend, left_of, Keeps, IsOver, next_answer, next_left}
use Rattle.vipr_scan.specs.declared.place.Position.TheVariants.{Past}
use Rattle.vipr_scan.specs.{Meaning.IsInFront, Places.tokens_in, declared.place.Position.Position}
use Rattle.vipr_spec.proofs.Laws.{token_cut, token_whole, token_long, run_from}

-- what is left of an input
abbrev pub left_at : Position → ℕ → List ℕ → Option Input → Option Rest
left_at place offset un source = option_and_then (left_of place offset) (option_map (prepend un) source)

abbrev pub left_is : Position → ℕ → List ℕ → Input → Rest
left_is place offset un r = record {
  tokens = tokens_in place r.fails offset (un ++ r.bytes);
  fails = r.fails;
  length = offset + length (un ++ r.bytes);
}

if_known : (b : Bool) (l : Rest) (Q : Rest → Type 0) → (b ≡ true → Q l)
    → IfSome (if b then Some l else None) Q
if_known b l Q h = grind arith

-- to show a fact of what is left, show it of each input that may be
pub known : (place : Position) (offset : ℕ) (un : List ℕ) (source : Option Input)
    (Q : Rest → Type 0) →
    ((r : Input) → source ≡ Some r → offset + length (un ++ r.bytes) < 2 ^ 64
    → Q (left_is place offset un r)) →
    IfSome (left_at place offset un source) Q
known place offset un None Q h = tt
known place offset un (Some r) Q h = grind arith

pub answers : (place : Position) (offset : ℕ) (un : List ℕ) (r : Input)
    → offset + length (un ++ r.bytes) < 2 ^ 64 →
    left_at place offset un (Some r) ≡ Some (left_is place offset un r)
answers place offset un r short = rw (lt-ltb (offset + length (un ++ r.bytes)) (2 ^ 64) short) refl

-- n bytes at hand are taken
pub gap_left : (source : Option Input) (p p' : Position) (o o' : ℕ) (un un' : List ℕ) (n : ℕ)
    → n ≤ length un → un' ≡ drop n un → o' ≡ min (o + n) (2 ^ 64 - 1) →
    ((fails : Bool) (offset : ℕ) (rest : List ℕ) → tokens_in p fails offset (un ++ rest)
    ≡ tokens_in p' fails (offset + n) (drop n un ++ rest)) →
    Keeps (left_at p o un source) (left_at p' o' un' source)
gap_left source p p' o o' un un' n within cut at same = grind (arith, length-append, length-drop)

-- the part of a list from n further on
pub narrowed : (xs : List ℕ) (start end n : ℕ) → start + n ≤ end
    → slice_range xs (start + n) end ≡ drop n (slice_range xs start end)
narrowed xs start end n within =
    let e : end - start ≡ n + (end - (start + n)) = omega arith in
    rw (e, drop-take, drop-drop) refl

nothing : (fails : Bool) (p : Position) (o : ℕ) → tokens_in p fails o [] ≡ []
unfolding tokens_from tokens_after_front
nothing fails p o = grind arith

-- no byte is left before a failure
pub over_gap : (source : Option Input) (p : Position) (o : ℕ) (un : List ℕ) → length un ≡ 0 →
    IfSome (option_map (prepend un) source) (λ i. (i.bytes ≡ un) × (i.fails ≡ true))
    → IsOver (left_at p o un source) true
over_gap source p o un none h = grind (arith, nil_from_length, nothing)

-- a run that no byte follows before a failure
pub over_cut : (source : Option Input) (o : ℕ) (un : List ℕ) → 0 < length un → length un ≤ 65535 →
    ((k : ℕ) → k < length un → is_white (get_or un k 0) ≡ false) →
    IfSome (option_map (prepend un) source) (λ i. (i.bytes ≡ un) × (i.fails ≡ true))
    → IsOver (left_at Past o un source) true
over_cut source o un some short solid h = grind (arith, token_cut)

-- at the end nothing is left
pub over_end : (source : Option Input) (p : Position) (o : ℕ) (un : List ℕ) → length un ≡ 0
    → source ≡ Some (record { bytes = []; fails = false }) →
    IsOver (left_at p o un source) false
over_end source p o un none end = grind (arith, nil_from_length, nothing)

-- what is over was so before
pub over_kept : (old new : Option Rest) (fails : Bool) → Keeps old new → IsOver new fails
    → IsOver old fails
over_kept old new fails kept over = grind arith

pub on_err : {A E : Type 0} (r : Result A E) (P : Type 0) → P → OnErr r P
on_err r P p = grind arith

-- bytes in front are where they were
pub in_front : (old new : List ℕ) (k : ℕ) → take (length old) new ≡ old → k < length old
    → get_or new k 0 ≡ get_or old k 0
in_front old new k front within = sym (get_or-take (length old) new k 0 within)
    ∙ ap (λ (xs : List ℕ). get_or xs k 0) front

-- what is told of the input decides what is left
pub input_keeps : (p : Position) (o o' : ℕ) (un un' : List ℕ) (source source' : Option Input)
    → o' ≡ o →
    IfSome (option_map (prepend un) source) (λ i. option_map (prepend un') source' ≡ Some i) →
    Keeps (left_at p o un source) (left_at p o' un' source')
input_keeps p o o' un un' source source' same h = grind arith

-- a part is no longer than its bounds say
pub part_short : (xs : List ℕ) (start end : ℕ) → length (slice_range xs start end) ≤ end - start
part_short xs start end = omega (arith, length-take (end - start) (drop start xs))

-- a token at the front, which ends where white space follows or the text does
pub token_left : (source : Option Input) (o o' : ℕ) (un un' : List ℕ) (n : ℕ) → 0 < n
    → n ≤ length un → n ≤ 65535 →
    ((k : ℕ) → k < n → is_white (get_or un k 0) ≡ false)
    → (n < length un → is_white (get_or un n 0) ≡ true) →
    (n ≡ length un → source ≡ Some (record { bytes = []; fails = false })) →
    un' ≡ drop n un → o' ≡ min (o + n) (2 ^ 64 - 1) →
    IfSome (left_at Past o un source) (λ l.
    (Ok (Some (record { bytes = take n un; offset = o; long = false })) ≡ next_answer l)
    × (left_at Past o' un' source ≡ Some (next_left l)))
token_left source o o' un un' n some within short solid white ends cut at =
    known Past o un source
    (λ l. (Ok (Some (record { bytes = take n un; offset = o; long = false })) ≡ next_answer l)
    × (left_at Past o' un' source ≡ Some (next_left l))) (λ r is fits.
    let a : length (un ++ r.bytes) ≡ length un + length r.bytes = length-append un r.bytes in
    let b : length (un' ++ r.bytes) ≡ length un' + length r.bytes = length-append un' r.bytes in
    let d : length un' ≡ length un - n = ap length cut ∙ length-drop n un in
    let e : o' ≡ o + n = omega arith in
    let over : Input = record { bytes = []; fails = false } in
    let last : n ≡ length un → r ≡ over = λ h. let z : source ≡ Some over = ends h in (cc) in
    let w : tokens_from r.fails false o (un ++ r.bytes) ≡ record {
      bytes = take n (un ++ r.bytes);
      offset = o;
    } ∷ tokens_from r.fails false (o + n) (drop n (un ++ r.bytes)) =
    token_whole r.fails o (un ++ r.bytes) n some (omega arith)
    (λ k h. rw (get_or_append_left un r.bytes 0 k (omega arith)) (solid k h))
    (λ h. elim (cases_lt n (length un)) [
      | inl l ↦ rw (get_or_append_left un r.bytes 0 n l) (white l)
      | inr m ↦ let z : length r.bytes ≡ 0 = ap (λ (i : Input). length i.bytes) (last (omega arith)) in
          absurd (omega arith)
    ])
    (λ h. ap (λ (i : Input). i.fails) (last (omega arith))) in
    let t : take n (un ++ r.bytes) ≡ take n un = take-append-le n un r.bytes within in
    let f : drop n (un ++ r.bytes) ≡ un' ++ r.bytes = drop-append-le n un r.bytes within
    ∙ ap (λ (xs : List ℕ). xs ++ r.bytes) (sym cut) in
    let v : tokens_from r.fails false o (un ++ r.bytes) ≡ record { bytes = take n un; offset = o }
    ∷ tokens_from r.fails false o' (un' ++ r.bytes) =
    rw (w, t, f, e) refl in
    let u : left_at Past o' un' (Some r) ≡ Some (left_is Past o' un' r) = answers Past o' un' r (omega arith) in
    let len : length (take n un) ≡ n = length-take-le n un within in
    let all : take 65535 (take n un) ≡ take n un = take_all 65535 (take n un) (omega arith) in
    let no : nat_lt 65535 (length (take n un)) ≡ false = le-ltb 65535 (length (take n un)) (omega arith) in
    let z : o' + length (un' ++ r.bytes) ≡ o + length (un ++ r.bytes) = omega arith in
    rw v (rw (all, no) refl, rw (is, ← z) u))

-- a token that is too long
pub long_left : (source : Option Input) (o : ℕ) (un : List ℕ) → 65536 ≤ length un →
    ((k : ℕ) → k < 65536 → is_white (get_or un k 0) ≡ false) →
    IfSome (left_at Past o un source)
    (λ l. Ok (Some (record { bytes = take 65535 un; offset = o; long = true })) ≡ next_answer l)
long_left source o un within solid =
    known Past o un source
    (λ l. Ok (Some (record { bytes = take 65535 un; offset = o; long = true })) ≡ next_answer l)
    (λ r is fits.
    let a : length (un ++ r.bytes) ≡ length un + length r.bytes = length-append un r.bytes in
    let solid' : (k : ℕ) → k < 65536 → is_white (get_or (un ++ r.bytes) k 0) ≡ false =
    λ k h. rw (get_or_append_left un r.bytes 0 k (omega arith)) (solid k h) in
    let m : 65536 ≤ length (un ++ r.bytes) = omega arith in
    let more : 65536 ≤ length (run (un ++ r.bytes)) = (run_from (un ++ r.bytes) 65536 m solid').0 in
    let t : take 65535 (run (un ++ r.bytes)) ≡ take 65535 (un ++ r.bytes) =
    (run_from (un ++ r.bytes) 65535 (omega arith) (λ k h. solid' k (omega arith))).1 in
    let f : take 65535 (un ++ r.bytes) ≡ take 65535 un = take-append-le 65535 un r.bytes (omega arith) in
    let yes : nat_lt 65535 (length (run (un ++ r.bytes))) ≡ true =
    lt-ltb 65535 (length (run (un ++ r.bytes))) (omega arith) in
    rw (token_long r.fails o (un ++ r.bytes) m solid') (rw (t, f, yes) refl))

pub some_weaker : (o : Option Rest) (P Q : Rest → Type 0) → ((l : Rest) → P l → Q l) → IfSome o P
    → IfSome o Q
some_weaker None P Q f p = tt
some_weaker (Some l) P Q f p = f l p

-- the first n of a part
pub part_front : (xs : List ℕ) (start end n : ℕ) → n ≤ end - start
    → slice_range xs start (start + n) ≡ take n (slice_range xs start end)
part_front xs start end n within = grind (arith, take-take)

-- the answer where n bytes are taken, or 65,536 for more
pub read_answer : (source : Option Input) (o : ℕ) (buf : List ℕ) (start end n len : ℕ)
    → len ≡ min n 65535 → 0 < n → n ≤ 65536 → n ≤ length (slice_range buf start end) →
    ((k : ℕ) → k < n → is_white (get_or (slice_range buf start end) k 0) ≡ false) →
    (n < length (slice_range buf start end)
    → is_white (get_or (slice_range buf start end) n 0) ≡ true) →
    (n < 65536 → n ≡ length (slice_range buf start end)
    → source ≡ Some (record { bytes = []; fails = false })) →
    IfSome (left_at Past o (slice_range buf start end) source) (λ l. Ok (Some
    (record { bytes = slice_range buf start (start + len); offset = o; long = nat_eq n 65536 }))
    ≡ next_answer l)
read_answer source o buf start end n len shown some limit within solid white ends =
    let un : List ℕ = slice_range buf start end in
    let short : length (slice_range buf start end) ≤ end - start = part_short buf start end in
    let front : slice_range buf start (start + len) ≡ take len (slice_range buf start end) =
    part_front buf start end len (omega arith) in
    elim (cases_eq n 65536) [
      | inl h ↦
          let m : len ≡ 65535 = omega arith in
          rw (eq-eqb n 65536 h, front, m)
          (long_left source o (slice_range buf start end) (omega arith)
          (λ k j. solid k (omega arith)))
      | inr h ↦
          let m : len ≡ n = omega arith in
          rw (ne_eqb n 65536 h, front, m)
          (some_weaker _ _ _
          (λ (l : Rest)
          (p : (Ok (Some
          (record { bytes = take n (slice_range buf start end); offset = o; long = false })) ≡
          next_answer l)
          × (left_at Past (min (o + n) (2 ^ 64 - 1)) (drop n (slice_range buf start end))
          source ≡ Some (next_left l))). p.0)
          (token_left source o (min (o + n) (2 ^ 64 - 1)) (slice_range buf start end)
          (drop n (slice_range buf start end)) n some within (omega arith) solid white
          (λ e. ends (omega arith) e) refl refl))
    ]

-- the tokens left behind it
pub read_left : (source : Option Input) (o o' : ℕ) (un un' : List ℕ) (n : ℕ) → 0 < n → n ≤ length un
    → n ≤ 65535 →
    ((k : ℕ) → k < n → is_white (get_or un k 0) ≡ false)
    → (n < length un → is_white (get_or un n 0) ≡ true) →
    (n ≡ length un → source ≡ Some (record { bytes = []; fails = false })) →
    un' ≡ drop n un → o' ≡ min (o + n) (2 ^ 64 - 1) →
    IfSome (left_at Past o un source) (λ l. left_at Past o' un' source ≡ Some (next_left l))
read_left source o o' un un' n some within short solid white ends cut at =
    some_weaker _ _ _
    (λ (l : Rest)
    (p : (Ok (Some (record { bytes = take n un; offset = o; long = false })) ≡ next_answer l)
    × (left_at Past o' un' source ≡ Some (next_left l))). p.1)
    (token_left source o o' un un' n some within short solid white ends cut at)

-- at most 65,535 bytes of a run are a token
pub token_part : (buf : List ℕ) (start end n len : ℕ) → len ≡ min n 65535 → 0 < n
    → n ≤ length (slice_range buf start end) →
    ((k : ℕ) → k < n → is_white (get_or (slice_range buf start end) k 0) ≡ false) →
    IsToken (slice_range buf start (start + len))
token_part buf start end n len shown some within solid = grind (arith, part_short, length-take-le, get_or-take)

-- what holds of what is left later held of it before
pub kept : (old new : Option Rest) (P : Rest → Type 0) → Keeps old new → IfSome new P → IfSome old P
kept old new P keeps h = grind arith

-- white space and a token behind it are taken
passed : (source : Option Input) (o o' o'' : ℕ) (un un' : List ℕ) (gap len : ℕ) → gap ≤ length un →
    ((fails : Bool) (offset : ℕ) (rest : List ℕ) → tokens_in Past fails offset (un ++ rest)
    ≡ tokens_in Past fails (offset + gap) (drop gap un ++ rest)) →
    IsInFront (drop gap un) len → length un ≤ 65536 → o' ≡ min (o + gap) (2 ^ 64 - 1)
    → o'' ≡ min (o' + len) (2 ^ 64 - 1) → un' ≡ drop len (drop gap un) →
    IfSome (left_at Past o un source) (λ l.
    (Ok (Some (record { bytes = take len (drop gap un); offset = o'; long = false }))
    ≡ next_answer l) × (left_at Past o'' un' source ≡ Some (next_left l)))
passed source o o' o'' un un' gap len within same front short at behind cut =
    grind (
      arith,
      length-drop gap un,
      gap_left source Past Past o o' un (drop gap un) gap within,
      token_left,
    )

pub passed_answer : (source : Option Input) (o o' : ℕ) (un : List ℕ) (gap len : ℕ)
    → gap ≤ length un →
    ((fails : Bool) (offset : ℕ) (rest : List ℕ) → tokens_in Past fails offset (un ++ rest)
    ≡ tokens_in Past fails (offset + gap) (drop gap un ++ rest)) →
    IsInFront (drop gap un) len → length un ≤ 65536 → o' ≡ min (o + gap) (2 ^ 64 - 1) →
    IfSome (left_at Past o un source)
    (λ l. Ok (Some (record { bytes = take len (drop gap un); offset = o'; long = false }))
    ≡ next_answer l)
passed_answer source o o' un gap len within same front short at =
    let mid : ℕ = min (o' + len) (2 ^ 64 - 1) in
    some_weaker _ _ _
    (λ (l : Rest)
    (p : (Ok (Some (record { bytes = take len (drop gap un); offset = o'; long = false })) ≡
    next_answer l) × (left_at Past mid (drop len (drop gap un)) source ≡ Some (next_left l))).
    p.0)
    (passed source o o' mid un (drop len (drop gap un)) gap len within same front short at refl refl)

-- the white space that ends a token begins none
white_taken : (xs : List ℕ) (n : ℕ) → n < length xs → is_white (get_or xs n 0) ≡ true →
    (fails : Bool) (offset : ℕ) (rest : List ℕ) → tokens_in Past fails offset (drop n xs ++ rest)
    ≡ tokens_in Past fails (offset + 1) (drop 1 (drop n xs) ++ rest)
unfolding tokens_from
white_taken xs n within white fails offset rest = rw (drop_more xs n 0 within, white) refl

-- what is known of the rest stays so if white space is taken
pub still : (old new : Option Rest) (l : Rest) → Keeps old new → old ≡ Some l → new ≡ Some l
still old new l keeps is = rw is at keeps

-- the white space that ends the token is taken too
pub passed_left : (source : Option Input) (o o' o'' : ℕ) (un un' : List ℕ) (gap len : ℕ)
    → gap ≤ length un →
    ((fails : Bool) (offset : ℕ) (rest : List ℕ) → tokens_in Past fails offset (un ++ rest)
    ≡ tokens_in Past fails (offset + gap) (drop gap un ++ rest)) →
    IsInFront (drop gap un) len → length un ≤ 65536 → o' ≡ min (o + gap) (2 ^ 64 - 1)
    → o'' ≡ min (o' + (len + 1)) (2 ^ 64 - 1) → un' ≡ drop (len + 1) (drop gap un) →
    IfSome (left_at Past o un source) (λ l. left_at Past o'' un' source ≡ Some (next_left l))
passed_left source o o' o'' un un' gap len within same front short at behind cut =
    let token : List ℕ = drop gap un in
    let mid : ℕ = min (o' + len) (2 ^ 64 - 1) in
    let more : len < length token = front.within in
    let size : length (drop len token) ≡ length token - len = length-drop len token in
    let one : un' ≡ drop 1 (drop len token) = cut ∙ sym (drop-drop 1 len token) in
    let keeps : Keeps (left_at Past mid (drop len token) source) (left_at Past o'' un' source) =
    grind (arith, white_taken) in
    some_weaker _ _ _
    (λ (l : Rest)
    (p : (Ok (Some (record { bytes = take len token; offset = o'; long = false })) ≡ next_answer
    l) × (left_at Past mid (drop len token) source ≡ Some (next_left l))).
    still _ _ _ keeps p.1)
    (passed source o o' mid un (drop len token) gap len within same front short at refl refl)
