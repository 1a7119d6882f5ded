-- After which derivation a derived constraint isn't held any more
use Rattle.std.specs.Prelude.{ℕ, ◌+◌, max, cond, Bool, true, false, nat_lt, nat_le, nat_eq}
use Rattle.std.specs.Prelude.{Option, Some, None, option_map}
use Rattle.vipr_spec.specs.Certificate.{Reason, is_assumption}

-- Constraint i has this reason and last reference. It is dropped after the derivation of this
-- index, an assumption and one without a last reference after none.
abbrev pub dropped_after : ℕ → Option Reason → Option ℕ → Option ℕ
dropped_after i reason last =
    cond (is_assumption reason) None (option_map (λ l. max l (i + 1)) last)

-- it is still held after derivation k
abbrev pub is_held_after : ℕ → Option ℕ → Bool
is_held_after k None = true
is_held_after k (Some at) = nat_lt k at

-- it is dropped after derivation k, or later
abbrev pub is_held_until : ℕ → Option ℕ → Bool
is_held_until k None = true
is_held_until k (Some at) = nat_le k at

abbrev pub is_dropped_after : ℕ → Option ℕ → Bool
is_dropped_after k None = false
is_dropped_after k (Some at) = nat_eq at k
