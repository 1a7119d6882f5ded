use Rattle.std.proofs.lemmas.Bool.Decides.{nat_tests}
use Rattle.std.proofs.Common.{◌≡◌, ℕ, ◌<◌, false, slice_index, arith}
use Rattle.vipr_spec.specs.Tokens.{is_white}
use Rattle.vipr_scan.proofs.place.white.Goals as goal

-- a byte above the space is none
above_space : (b : ℕ) → 32 < b → is_white b ≡ false
unfolding is_white
above_space b more = grind (arith, nat_tests)

pub returns-then-bytes-gt32-clause-solid : goal.returns-then-bytes-gt32-clause-solid
returns-then-bytes-gt32-clause-solid c = λ _. above_space (slice_index c.args.bytes.now 0) c.if-bytes-gt32.true
