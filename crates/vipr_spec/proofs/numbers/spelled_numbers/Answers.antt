use Rattle.vipr_spec.proofs.NumberReads.{number_sound, number_complete, one_number, text_spelled}
use Rattle.vipr_spec.proofs.NumberReads.{text_short}
use Rattle.vipr_spec.proofs.numbers.spelled_numbers.Goals as goal

pub returns : goal.returns
returns c = record {
  read = λ bs x. (number_sound bs x, number_complete bs x);
  one = one_number;
  text = text_spelled;
  short = text_short;
}
