-- What a constraint must say to prove the dual side of a claim.
use Rattle.std.specs.Prelude.{◌≡◌, ◌≢◌, ◌↔◌, Option, Some, None, ◌⊎◌, ℕ}
use Rattle.vipr_spec.specs.Constraint.{Condition, IsAbsurd, Dominates, Profile, DominatesRounded}
use Rattle.vipr_spec.specs.Certificate.{Problem, MeetsDual, NeedsGoal}
use Rattle.vipr_spec.specs.Tests.{goal_needed_by}
use Rattle.vipr_linear.specs.Constraint.{condition_of}
use Rattle.vipr_rules.specs.declared.claim.Target.{Target}
use Rattle.vipr_rules.specs.declared.claim.Target.TheVariants.{Absurdity, Bound, WholeBound}
use Rattle.vipr_rules.specs.declared.claim.Target.TheVariants.{Nothing}

-- d dominates b, or has its row and does so by rounding
abbrev pub MeetsWhole : Condition → Condition → Type 0
MeetsWhole b d = Dominates d b ⊎ (((j : ℕ) → d.row j ≡ b.row j) × DominatesRounded d b)

-- the constraint d says what it must
abbrev pub IsMetBy : Target → Condition → Type 0
IsMetBy Absurdity d = IsAbsurd d
IsMetBy (Bound b) d = Dominates d (condition_of b)
IsMetBy (WholeBound b) d = MeetsWhole (condition_of b) d
IsMetBy Nothing d = ⊥

-- what a constraint must dominate; none is the absurdity
abbrev pub target_bound : Target → Option Condition
target_bound Absurdity = None
target_bound (Bound b) = Some (condition_of b)
target_bound (WholeBound b) = Some (condition_of b)
target_bound Nothing = None

-- the target is that of the problem's claim
pub record IsTargetIn (P : Profile) (p : Problem) (t : Target) : Type 0 where
  pub met : (d : Condition) → IsMetBy t d ↔ MeetsDual P p p.claim d
  pub bound : target_bound t ≡ goal_needed_by p p.claim
  pub needed : NeedsGoal p p.claim ↔ (t ≢ Nothing)
