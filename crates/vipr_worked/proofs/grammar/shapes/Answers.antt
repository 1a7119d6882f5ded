use Rattle.std.proofs.Common.{refl, ◌∷◌, [], codes}
use Rattle.vipr_spec.specs.{Fraction.over, Fraction.◌*ℚ◌, Fraction.◌+ℚ◌, Gcd.gcd}
use Rattle.vipr_worked.proofs.grammar.shapes.Goals as goal

pub returns : goal.returns
unfolding gcd over ◌+ℚ◌ ◌*ℚ◌
returns c = record {
  word_is = refl;
  version_is = (codes "VER" ∷ [], codes "1.0" ∷ [], refl, refl, refl);
  claim_is = (codes "RTP" ∷ [], codes "infeas" ∷ [], refl, refl, refl);
  SpellsSense_is = refl;
  SpellsDirection_is = refl;
  SpellsBound_is = refl;
  SpellsLast_is = refl;
  reason_is = refl;
}
