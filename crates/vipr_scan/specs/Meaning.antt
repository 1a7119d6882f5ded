-- What a kind makes of the bytes of a token, against what they mean
use Rattle.std.specs.Prelude.{◌≡◌, ℕ, ◌<◌, ⊤, true, false, List, length, slice_index, Result}
use Rattle.std.specs.Prelude.{Ok, Err}
use Rattle.vipr_spec.specs.Tokens.{is_white}
use Rattle.vipr_scan.specs.declared.kind.Unfit.{Unfit}
use Rattle.vipr_scan.specs.declared.kind.Unfit.TheVariants as unfit

-- the value that they mean, or the cause, unless memory ran out
abbrev pub Means : {X Y : Type 0} → (X → Y) → Result X Unfit → Result Y ℕ → Type 0
Means view (Ok x) m = m ≡ Ok (view x)
Means view (Err (unfit.Cause c)) m = m ≡ Err c
Means view (Err unfit.Memory) m = ⊤

-- the first n bytes are a token, which white space follows
pub record IsInFront (bytes : List ℕ) (n : ℕ) : Type 0 where
  pub some : 0 < n
  pub within : n < length bytes
  pub solid : (k : ℕ) → k < n → is_white (slice_index bytes k) ≡ false
  pub white : is_white (slice_index bytes n) ≡ true
