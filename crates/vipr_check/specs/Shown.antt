-- What is shown of a verdict, as the detail of the definitions
use Rattle.std.specs.Prelude.{Option, Some, None, option_map}
use Rattle.vipr_spec.specs.Tests.{goal_needed_by, finite_primal}
use Rattle.vipr_spec.specs.{Certificate.Problem, Fraction.ℚ}
use Rattle.vipr_spec.specs.Tests as is
use Rattle.vipr_linear.specs.Constraint.{sense_of, condition_of}
use Rattle.vipr_rules.specs.Solution.{solution_shown}
use Rattle.vipr_check.specs.declared.halt.Finding.TheVariants.{Solution, Primal, Derived, Proof}
use Rattle.vipr_check.specs.declared.halt.Halt.TheVariants.{Refused, Memory}
use Rattle.vipr_check.specs.{Halts.step_detail_of, State.State, declared.detail.Detail.Detail}
use Rattle.vipr_check.specs.{declared.halt.Finding.Finding, declared.halt.Halt.Halt}
use Rattle.vipr_check.specs.declared.detail.Detail.TheVariants as detail

abbrev pub detail_of : Detail → is.Detail
detail_of detail.None = is.none
detail_of (detail.NotWhole s j name v) = is.not_whole s j name v
detail_of (detail.Breaks s i name left sense right) =
    is.breaks s i name left (sense_of sense) right
detail_of (detail.SolutionOverflow s at) = is.overflows s at
detail_of (detail.Step name x) = is.step name (step_detail_of x)
detail_of (detail.NoProof goal) = is.no_proof (option_map condition_of goal)
detail_of (detail.NoPrimal bound) = is.no_primal bound

-- ---- what there is to show if a checker stopped

abbrev pub primal_shown : Option ℚ → is.Detail
primal_shown None = is.none
primal_shown (Some bound) = is.no_primal bound

abbrev pub finding_shown : Problem → Finding → is.Detail
finding_shown p (Solution name e) = solution_shown p name e
finding_shown p Primal = primal_shown (finite_primal p p.claim)
finding_shown p (Derived name what) = is.step name (step_detail_of what)
finding_shown p Proof = is.no_proof (goal_needed_by p p.claim)

abbrev pub halt_shown : Problem → Option Halt → is.Detail
halt_shown p None = is.none
halt_shown p (Some (Refused r f)) = finding_shown p f
halt_shown p (Some Memory) = is.none

abbrev pub state_shown : State → is.Detail
state_shown k = halt_shown k.progress.problem k.halt

-- none if there is no checker
abbrev pub last_shown : Option State → is.Detail
last_shown None = is.none
last_shown (Some k) = state_shown k
