use Rattle.vipr_spec.proofs.LastReferences.{last_one, last_latest, last_of_goal}
use Rattle.vipr_spec.proofs.renumbering.last_references.Goals as goal

pub returns : goal.returns
returns c = record {
  one = λ c g i l h e. (last_one c g i l h e).2;
  greatest = last_latest;
  goal = λ c g i back h l. last_of_goal c g back i h l;
}
