-- What a part of the bytes at hand leaves
use Rattle.std.proofs.Common.{◌≡◌, ℕ, ◌+◌, ◌-◌, ◌^◌, ◌<◌, ◌≤◌, min, false, List, length, take, drop}
use Rattle.std.proofs.Common.{Option, Ok, refl, sym, ap, ◌∙◌, arith, slice_range}
use Rattle.std.proofs.lemmas.List.{length-drop, drop-drop}
use Rattle.vipr_spec.specs.{Input.Input, Reading.token_read, Tokens.Token}
use Rattle.vipr_scan.specs.Hand.{Hand, at_hand, hand_of, offset_behind, rest_behind}
use Rattle.vipr_scan.specs.View.{TokenView, unread, source_left}
use Rattle.vipr_scan.specs.declared.place.Position.TheVariants.{Front, Comment, Past}
use Rattle.vipr_scan.specs.{Cursor.IsGapAt, Giving.Scans, Meaning.IsInFront}
use Rattle.vipr_scan.specs.{declared.place.Position.Position, declared.window.Window.Window}
use Rattle.vipr_scan.proofs.State.{left_at, narrowed, part_short, passed_answer, passed_left}
use Rattle.vipr_scan.proofs.Wanted.{short_known}

-- the bytes at hand are in front of the end
pub ready_within : {R : Type 0} (t : Window R) → t.ready ≤ t.end
ready_within t = go t.place refl
  where
    go : (p : Position) → t.place ≡ p → t.ready ≤ t.end
    go Past e = omega (arith, t.opened e)
    go Front e = omega (arith, t.closed (λ h. (cc)), t.ordered)
    go Comment e = omega (arith, t.closed (λ h. (cc)), t.ordered)

-- so many bytes further on
pub gone : (place : Position) (buf : List ℕ) (start end offset m n : ℕ) (source : Option Input)
    → m ≡ n → start + n ≤ end →
    left_at place (min (offset + (start + m)) (2 ^ 64 - 1)) (slice_range buf (start + m) end) source
    ≡ left_at place (min (offset + start + n) (2 ^ 64 - 1)) (drop n (slice_range buf start end)) source
gone place buf start end offset m n source e within = grind (arith, narrowed)

-- if bytes are at hand, a token may begin with any that is unread
past : {R : Type 0} (t : Window R) → 0 < length (at_hand t) → t.place ≡ Past
past t some = go t.place refl
  where
    none : t.ready ≡ t.start → t.place ≡ Past
    none e =
        let short : length (at_hand t) ≤ t.ready - t.start = part_short t.buf.value t.start t.ready in
        absurd (omega arith)

    go : (p : Position) → t.place ≡ p → t.place ≡ Past
    go p e = grind arith

-- a token at hand is taken, with the white space around it
pub passed_on : {R : Type 0} (input : R → Option Input) (t : Window R) (bytes bytes' : List ℕ)
    (gap len : ℕ) → bytes ≡ drop (length (at_hand t) - length bytes) (at_hand t)
    → IsGapAt bytes gap → IsInFront (drop gap bytes) len
    → length bytes' ≡ length bytes - (gap + len + 1) →
    Scans (λ (done : Unit {0}). let w : Token = record {
      bytes = take len (drop gap bytes);
      offset = offset_behind (hand_of input t) (length (at_hand t) - length bytes + gap);
    } in w)
    token_read (rest_behind (hand_of input t) (length (at_hand t) - length bytes))
    (rest_behind (hand_of input t) (length (at_hand t) - length bytes')) (Ok tt)
passed_on input t bytes bytes' gap len part is front left =
    let hand : List ℕ = at_hand t in
    let h : Hand = hand_of input t in
    let n : ℕ = length (at_hand t) - length bytes in
    let source = source_left input t in
    let m : ℕ = n + (gap + (len + 1)) in
    let more : len < length (drop gap bytes) = front.within in
    let size : length (drop gap bytes) ≡ length bytes - gap = length-drop gap bytes in
    let all : length bytes ≡ length (at_hand t) - n = ap length part ∙ length-drop n (at_hand t) in
    let short : length (at_hand t) ≤ t.ready - t.start = part_short t.buf.value t.start t.ready in
    let ends : t.ready ≤ t.end = ready_within t in
    let limit : t.end ≤ 65536 = t.within in
    let place : t.place ≡ Past = past t (omega arith) in
    let whole : at_hand t ≡ unread t = ap (λ (e : ℕ). slice_range t.buf.value t.start e) (t.opened place) in
    let now : drop n (unread t) ≡ bytes = ap (drop n) (sym whole) ∙ sym part in
    let to : length (at_hand t) - length bytes' ≡ m = omega arith in
    let cut : drop m (unread t) ≡ drop (len + 1) (drop gap bytes) = grind (arith, drop-drop) in
    let s : TokenView = record {
      bytes = take len (drop gap bytes);
      offset = offset_behind h (n + gap);
      long = false;
    } in
    let o : ℕ = offset_behind h n in
    rw (place, to, now) (short_known _ _ s
    (passed_answer source o s.offset bytes gap len is.within is.tokens front (omega arith) (omega arith)) refl
    (passed_left source o s.offset (offset_behind h m) bytes (drop m (unread t)) gap len is.within
    is.tokens front (omega arith) (omega arith) (omega arith) cut))
