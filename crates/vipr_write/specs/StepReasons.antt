-- Reasons of steps as those of the definitions
use Rattle.std.specs.Prelude.{◌≡◌, ℕ, ◌^◌, ◌<◌, List, ◌∷◌, [], map, length, All, FitsSigned, ⊤}
use Rattle.std.specs.Int.{w32}
use Rattle.vipr_spec.specs.Fraction.{ℚ, over}
use Rattle.vipr_spec.specs.Certificate as is
use Rattle.vipr_cert.specs.{Items.reason_of, Reasons.references_of}
use Rattle.vipr_write.specs.declared.short_entry.ShortEntry.{ShortEntry}
use Rattle.vipr_write.specs.declared.step_reason.StepReason.{StepReason}
use Rattle.vipr_write.specs.declared.step_reason.StepReason.TheVariants.{Asm, Empty, One, Lin}
use Rattle.vipr_write.specs.declared.step_reason.StepReason.TheVariants.{Rnd, Whole}
use Rattle.vipr_write.specs.declared.step_reason.StepReferences.{StepReferences}
use Rattle.vipr_write.specs.declared.step_reason.StepReferences.TheVariants as named

abbrev pub multiplier_of : ShortEntry → ℚ
multiplier_of e = over e.numer e.denom

abbrev pub entry_of : ShortEntry → ℕ × ℚ
entry_of e = (e.index, multiplier_of e)

abbrev pub kept_reason_of : StepReason → is.Reason
kept_reason_of Asm = is.asm
kept_reason_of Empty = is.lin []
kept_reason_of (One e) = is.lin (entry_of e ∷ [])
kept_reason_of (Lin es) = is.lin (map entry_of es.value.items)
kept_reason_of (Rnd es) = is.rnd (map entry_of es.value.items)
kept_reason_of (Whole r) = reason_of r.value

abbrev pub kept_references_of : StepReferences → is.References
kept_references_of (named.Whole rs) = references_of rs
kept_references_of (named.Short es) = is.by_entries (map entry_of es.now)

-- ---- when entries are short

-- the numerator fits an i32, and the denominator a u32
abbrev pub IsShort : ℚ → Type 0
IsShort x = FitsSigned w32 x.numer × (x.denom < 2 ^ 32)

abbrev pub AreShort : List (ℕ × ℚ) → Type 0
AreShort es = All (λ e. IsShort e.1) es

-- A reason is whole only if it names no entries or one that isn't short. A `lin` of no entries or
-- of a short one is kept in no vector.
abbrev pub IsShortest : StepReason → Type 0
IsShortest Asm = ⊤
IsShortest Empty = ⊤
IsShortest (One e) = ⊤
IsShortest (Lin es) = 1 < length es.value.items
IsShortest (Rnd es) = ⊤
IsShortest (Whole r) = (es : List (ℕ × ℚ))
    → is.reason_references (reason_of r.value) ≡ is.by_entries es → AreShort es → ⊥
