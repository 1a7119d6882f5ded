use Rattle.std.proofs.Common.{◌≡◌, ℕ, List, false, get_or, subst, sym, arith, refl}
use Rattle.vipr_spec.specs.Tokens.{is_white}
use Rattle.vipr_scan.specs.Meaning.{IsInFront}
use Rattle.vipr_frac.specs.Reading.{IsLoneDigit}
use Rattle.vipr_read.proofs.Fronting.{digit_solid, front_number}
use Rattle.vipr_read.proofs.kinds.front_count.Goals as goal

lone_token : (s : List ℕ) (d : ℕ) → IsLoneDigit s d → IsInFront s 1
unfolding is_white
lone_token s d h = record {
  some = omega arith;
  within = h.within;
  solid = λ k l. let first : k ≡ 0 = omega arith in
      subst (λ j. is_white (get_or s j 0) ≡ false) (sym first) (digit_solid (get_or s 0 0) h.digit);
  white = rw h.space refl;
}

pub returns-in-Some-clause-token : goal.returns-in-Some-clause-token
returns-in-Some-clause-token c = lone_token c.args.bytes.now c.in-Some.digit c.in-Some.ensures

pub returns-in-Some-clause-value : goal.returns-in-Some-clause-value
returns-in-Some-clause-value c =
    let within = c.in-Some.ensures.within in
    rw c.from.ensures
    (front_number 1 c.in-Some.digit c.args.bytes.now (omega arith)
    (omega arith) c.in-Some.ensures.value)
