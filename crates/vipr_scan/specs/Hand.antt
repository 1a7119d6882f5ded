-- What of the text is at hand, and what is left behind a part of it
use Rattle.std.specs.Prelude.{ℕ, ◌+◌, ◌-◌, ◌^◌, min, List, drop, Option, slice_range}
use Rattle.std.specs.Prelude.{option_and_then}
use Rattle.std.specs.Option.{option_map}
use Rattle.vipr_spec.specs.{Input.Input, Reading.Rest}
use Rattle.vipr_scan.specs.View.{unread, source_left, left_of, prepend}
use Rattle.vipr_scan.specs.{declared.place.Position.Position, declared.window.Window.Window}

-- the bytes in which a token may begin, and all that decides what is left
pub record Hand : Type 0 where
  pub bytes : List ℕ
  pub place : Position
  pub offset : ℕ
  pub unread : List ℕ
  pub source : Option Input

abbrev pub at_hand : {R : Type 0} → Window R → List ℕ
at_hand t = slice_range t.buf.value t.start t.ready

abbrev pub hand_of : {R : Type 0} → (R → Option Input) → Window R → Hand
hand_of input t = record {
  bytes = at_hand t;
  place = t.place;
  offset = t.offset + t.start;
  unread = unread t;
  source = source_left input t;
}

-- the offset behind so many of its bytes
abbrev pub offset_behind : Hand → ℕ → ℕ
offset_behind h n = min (h.offset + n) (2 ^ 64 - 1)

-- the rest of the text behind so many of its bytes, if it is known
abbrev pub rest_behind : Hand → ℕ → Option Rest
rest_behind h n =
    option_and_then (left_of h.place (offset_behind h n))
    (option_map (prepend (drop n h.unread)) h.source)
