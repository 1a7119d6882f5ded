use Rattle.std.proofs.Common.{refl, arith, false, ◌≡◌, ◌∷◌, [], ℕ, List, zero, suc, ◌<◌, length}
use Rattle.std.proofs.Common.{slice_index}
use Rattle.vipr_spec.specs.Tokens.{IsToken, is_white}
use Rattle.vipr_cert.proofs.name.Name.blank.Goals as goal

abbrev dash : List ℕ
dash = 45 ∷ []

solid : (k : ℕ) → k < length dash → is_white (slice_index dash k) ≡ false
unfolding is_white
solid zero l = refl
solid (suc k) l = absurd (omega arith)

is_token : IsToken dash
is_token = record { run = record { some = omega arith; solid = solid }; short = omega arith }

pub invariant_of-result : goal.invariant_of-result
invariant_of-result c = rw c.of.ensures is_token
