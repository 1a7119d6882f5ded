use Rattle.std.proofs.Common.{◌≡◌, refl, ◌∷◌, []}
use Rattle.std.specs.FinMap.{empty}
use Rattle.vipr_spec.specs.Fraction as of
use Rattle.vipr_spec.specs.Gcd as gcd
use Rattle.vipr_spec.specs.Reading.{row_of}
use Rattle.vipr_cert.proofs.items.Derivation.blank.Goals as goal

no_entry : row_of ((0, of.zero_ℚ) ∷ []) ≡ empty
unfolding of.over gcd.gcd
no_entry = refl

pub returns : goal.returns
returns c = rw c.blank.ensures (rw c.of_one.ensures.row (rw c.zero.ensures (rw c.zero-2.ensures (rw no_entry refl))))
