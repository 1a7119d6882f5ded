-- How a verdict is printed with what shows why it is so. Each line has its line feed
use Rattle.std.specs.Prelude.{ℕ, List, [], ◌++◌, Option, Some, None, codes, decimal}
use Rattle.vipr_spec.specs.{Causes.cause_name, Number.number_text}
use Rattle.vipr_linear.specs.Text.{constraint_text, sense_text}
use Rattle.vipr_cert.specs.Text.{name_text}
use Rattle.vipr_check.specs.declared.detail.StepDetail.{StepDetail}
use Rattle.vipr_check.specs.declared.verdict.Place.TheVariants.{Byte, Sol, Der, End}
use Rattle.vipr_check.specs.declared.verdict.Verdict.TheVariants.{Verified, Refused}
use Rattle.vipr_check.specs.{Text.verdict_text, declared.detail.Detail.Detail}
use Rattle.vipr_check.specs.{declared.verdict.Place.Place, declared.verdict.Verdict.Verdict}
use Rattle.vipr_check.specs.declared.detail.Detail.TheVariants as detail
use Rattle.vipr_check.specs.declared.detail.StepDetail.TheVariants as step

abbrev pub goal_text : Option ℕ → List ℕ
goal_text (Some index) = decimal index
goal_text None = codes "none"

abbrev pub step_text : StepDetail → List ℕ
step_text (step.Index index) = codes "index " ++ (decimal index ++ codes "\n")
step_text (step.Entry position) = codes "entry " ++ (decimal position ++ codes "\n")
step_text (step.Sum x) = codes "sum " ++ (constraint_text x ++ codes "\n")
step_text (step.Pair x y) = codes "first "
    ++ (constraint_text x ++ (codes "\nsecond " ++ (constraint_text y ++ codes "\n")))
step_text (step.Rows x y) = codes "computed "
    ++ (constraint_text x ++ (codes "\nstated " ++ (constraint_text y ++ codes "\n")))
step_text step.Nothing = []

-- the lines of a detail, without that of the item that is refused
abbrev pub detail_text : Detail → List ℕ
detail_text detail.None = []
detail_text (detail.NotWhole solution variable name value) = codes "variable "
    ++ (decimal variable ++ (codes " " ++ (name_text name
    ++ (codes "\nvalue " ++ (number_text value ++ codes "\n")))))
detail_text (detail.Breaks solution constraint name left sense right) = codes "constraint "
    ++ (decimal constraint ++ (codes " " ++ (name_text name ++ (codes "\nleft "
    ++ (number_text left ++ (codes " " ++ (sense_text sense ++ (codes " right "
    ++ (number_text right ++ codes "\n")))))))))
detail_text (detail.SolutionOverflow solution (Some at)) = codes "constraint "
    ++ (decimal at.0 ++ (codes " " ++ (name_text at.1 ++ codes "\n")))
detail_text (detail.SolutionOverflow solution None) = codes "objective\n"
detail_text (detail.Step name what) = step_text what
detail_text (detail.NoProof (Some goal)) = codes "goal " ++ (constraint_text goal ++ codes "\n")
detail_text (detail.NoProof None) = codes "goal absurdity\n"
detail_text (detail.NoPrimal bound) = codes "bound " ++ (number_text bound ++ codes "\n")

-- the name of the solution or the derivation that is refused
abbrev pub refused_name : Detail → Option (List ℕ)
refused_name detail.None = None
refused_name (detail.NotWhole solution variable name value) = Some solution
refused_name (detail.Breaks solution constraint name left sense right) = Some solution
refused_name (detail.SolutionOverflow solution at) = Some solution
refused_name (detail.Step name what) = Some name
refused_name (detail.NoProof goal) = None
refused_name (detail.NoPrimal bound) = None

-- the line of the solution or the derivation at the place, which has this name, and then the rest
abbrev pub behind_item : Place → Option (List ℕ) → List ℕ → List ℕ
behind_item (Sol number) (Some name) rest = codes "solution "
    ++ (decimal number ++ (codes " " ++ (name_text name ++ (codes "\n" ++ rest))))
behind_item (Der index) (Some name) rest = codes "derivation "
    ++ (decimal index ++ (codes " " ++ (name_text name ++ (codes "\n" ++ rest))))
behind_item (Sol number) None rest = rest
behind_item (Der index) None rest = rest
behind_item (Byte offset) name rest = rest
behind_item End name rest = rest

-- the verdict's lines, and then the goal, or the cause's name and the detail
abbrev pub explained_text : Verdict → Detail → List ℕ
explained_text (Verified report) x = verdict_text (Verified report)
    ++ (codes "\ngoal " ++ (goal_text report.goal ++ codes "\n"))
explained_text (Refused refusal) x = verdict_text (Refused refusal)
    ++ (codes "\ncause " ++ (cause_name refusal.cause ++ (codes "\n"
    ++ behind_item refusal.place (refused_name x) (detail_text x))))
