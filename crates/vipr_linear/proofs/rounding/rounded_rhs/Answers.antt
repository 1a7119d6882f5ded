use Rattle.std.proofs.Common.{◌≡◌, ◌≤◌, ℤ, arith, to_z, of_z}
use Rattle.std.specs.{Int.w128, Prelude.unsigned_abs}
use Rattle.std.proofs.lemmas.Int.{to_z-of_z, fits_signed_from_abs}
use Rattle.vipr_spec.specs.Fraction.{most}
use Rattle.vipr_linear.proofs.rounding.rounded_rhs.Goals as goal

as_is : (z : ℤ) → unsigned_abs z ≤ most → to_z w128 (of_z w128 z) ≡ z
as_is z h = to_z-of_z w128 z (fits_signed_from_abs w128 z (omega arith))

pub returns-in-G : goal.returns-in-G
returns-in-G c =
    let same = as_is c.ceil.result c.ceil.ensures.bounded in
    (c.ceil.result, rw c.in-G.is c.ceil.ensures.ceil, rw same at c.whole.ensures)

pub returns-in-L : goal.returns-in-L
returns-in-L c =
    let same = as_is c.floor.result c.floor.ensures.bounded in
    (c.floor.result, rw c.in-L.is c.floor.ensures.floor, rw same at c.whole-in-L.ensures)
