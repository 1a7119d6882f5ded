use Rattle.std.proofs.Common.{codes, refl, arith, inl, inr, lit<, pos, negsuc}
use Rattle.std.proofs.lemmas.Int.{ints}
use Rattle.vipr_spec.specs.{Fraction.over, Fraction.◌*ℚ◌, Fraction.◌+ℚ◌, Gcd.gcd}
use Rattle.vipr_worked.proofs.short.numbers.Goals as goal

pub returns : goal.returns
unfolding gcd over ◌+ℚ◌ ◌*ℚ◌
returns c = record {
  Compares_is = (record { cross = omega (arith, ints) }, record { cross = omega (arith, ints) }, refl);
  IsTrueAt_is = record { cross = omega (arith, ints) };
  sense_word_is = (refl, refl, refl);
  Natural_is = ((lit< tt, (lit< tt, (lit< tt, (lit< tt, tt)))), refl);
  Integer_is = (
    (codes "7", 7, ((lit< tt, (lit< tt, tt)), refl), inl (inr refl, refl)),
    (codes "7", 7, ((lit< tt, (lit< tt, tt)), refl), inr (refl, refl)),
  );
  Number_is = (
    (
      codes "-1",
      codes "2",
      negsuc 0,
      2,
      (codes "1", 1, ((lit< tt, (lit< tt, tt)), refl), inr (refl, refl)),
      ((lit< tt, (lit< tt, tt)), refl),
      lit< tt,
      refl,
      inl refl,
    ),
    (
      codes "5",
      codes "1",
      pos 5,
      1,
      (codes "5", 5, ((lit< tt, (lit< tt, tt)), refl), inl (inl refl, refl)),
      ((lit< tt, (lit< tt, tt)), refl),
      lit< tt,
      refl,
      inr (refl, refl),
    ),
  );
}
