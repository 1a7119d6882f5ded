-- What a page holds: bytes that a terminal shows as they are.
use Rattle.std.specs.Prelude.{◌==◌, ◌&&◌, ◌||◌, ◌≡◌, ◌≤◌, ℕ, Bool, true, List, length, nat_le}
use Rattle.std.specs.{List.All}

-- the line feed, and the printable bytes of ASCII: no other control, and no byte of a longer
-- character
abbrev pub is_shown : ℕ → Bool
is_shown b = (b == 10) || (nat_le 32 b && nat_le b 126)

-- at most 65,536 bytes, each of which is shown
pub record IsPage (text : List ℕ) : Type 0 where
  pub short : length text ≤ 65536
  pub shown : All (λ b. is_shown b ≡ true) text
