use Rattle.std.proofs.Common.{refl, inl, inr}
use Rattle.vipr_spec.specs.Digits.{natural_after, natural_of}
use Rattle.vipr_worked.proofs.numbers.digits.Goals as goal

pub returns : goal.returns
unfolding natural_after natural_of
returns c = record {
  is_digit_is = (refl, refl);
  natural_after_is = refl;
  natural_of_is = (refl, refl, refl);
  is_slash_is = refl;
  slash_place_is = (refl, refl);
  top_of_is = refl;
  bottom_of_is = (refl, refl);
  signed_integer_is = (refl, refl);
  under_is = (refl, refl);
  denominator_is = (refl, refl);
  IsSign_is = (inr (inr (refl, refl)), inl (refl, refl));
}
