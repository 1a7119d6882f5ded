-- What `Frac::parse` answers, in the words of how numbers are read.
use Rattle.std.specs.Prelude.{◌≡◌, ℕ, ◌<◌, ◌≤◌, List, Result, Ok, Err, Some, true, take, length}
use Rattle.std.specs.Prelude.{slice_index}
use Rattle.vipr_spec.specs.Number.{NumberFault, not_a_number, too_large, zero_denominator}
use Rattle.vipr_spec.specs.{Digits.natural_after, Digits.is_digit, Fraction.ℚ}
use Rattle.vipr_frac.specs.declared.number.NumberError.{NumberError}
use Rattle.vipr_frac.specs.declared.number.NumberError.TheVariants.{Bad, TooLarge, ZeroDenominator}

abbrev pub fault_of : NumberError → NumberFault
fault_of Bad = not_a_number
fault_of TooLarge = too_large
fault_of ZeroDenominator = zero_denominator

abbrev pub as_read : Result ℚ NumberError → Result ℚ NumberFault
as_read (Ok x) = Ok x
as_read (Err e) = Err (fault_of e)

-- the bytes begin with this digit and a space
pub record IsLoneDigit (s : List ℕ) (d : ℕ) : Type 0 where
  pub within : 1 < length s
  pub digit : is_digit (slice_index s 0) ≡ true
  pub value : natural_after 0 (take 1 s) ≡ Some d
  pub small : d ≤ 9
  pub space : slice_index s 1 ≡ 32
