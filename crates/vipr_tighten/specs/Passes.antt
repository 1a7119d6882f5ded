-- Derivations, of which the first has the index `first`, and the tables of the two passes over them
use Rattle.std.specs.Prelude.{◌≡◌, ℕ, ◌+◌, ◌-◌, ◌<◌, ◌||◌, Bool, false, nat_lt, if◌then◌else◌}
use Rattle.std.specs.Prelude.{List, [], ◌∷◌, ◌++◌, length, map, slice_index_or}
use Rattle.std.specs.Prelude.{Option, Some, None, IfSome}
use Rattle.vipr_spec.specs.Certificate.{Named, Derivation, Certificate, NamesEarlier, count}
use Rattle.vipr_spec.specs.Tightened.{is_marked, refers_to, referred_by}
use Rattle.vipr_spec.specs.{Constraint.Constraint, Steps.RefersBack}

-- ---- the derivations

-- a constraint with its name, as a view of what is kept of a derivation gives it
abbrev pub NamedConstraint : Type 0
NamedConstraint = Named Constraint

-- it refers back, and has the goal
pub record CanTighten (c : Certificate) (goal : Option ℕ) : Type 0 where
  pub back : RefersBack c
  pub named : IfSome goal (λ g. g < count c)

-- the derivations of the certificate c, of which the first has the index `first`
pub record AreDerivationsOf (c : Certificate) (first : ℕ) (ds : List Derivation) : Type 0 where
  pub first_is : length c.problem.constraints ≡ first
  pub those : ds ≡ c.derivations

-- each names earlier constraints alone
abbrev pub NameEarlier : ℕ → List Derivation → Type 0
NameEarlier first ds = (k : ℕ)
    → NamesEarlier (first + k) (slice_index_or (map (λ (d : Derivation). Some d.reason) ds) k None)

-- ---- the tables

-- a mark for each derivation; there is none past the end
abbrev pub has_mark : List Bool → ℕ → Bool
has_mark marks k = slice_index_or marks k false

-- those whose index passes the test are marked too
abbrev pub MarksAlso : ℕ → (ℕ → Bool) → List Bool → List Bool → Type 0
MarksAlso first passes old new =
    (k : ℕ) → k < length old → has_mark new k ≡ (has_mark old k || passes (first + k))

-- what the goal needs has a mark, and nothing else
pub record AreMarks (goal : Option ℕ) (first : ℕ) (ds : List Derivation)
    (marks : List Bool) : Type 0 where
  pub size : length marks ≡ length ds
  pub each : (k : ℕ) → k < length ds → has_mark marks k ≡ is_marked goal first ds (first + k)

-- the constraints of the problem, and the derivations with a mark
abbrev pub kept_by : ℕ → List Bool → ℕ → Bool
kept_by first marks i = nat_lt i first || has_mark marks (i - first)

-- The table has the new index of each derivation. The constraints of the problem keep theirs.
abbrev pub index_by : ℕ → List ℕ → ℕ → ℕ
index_by first table i = if nat_lt i first then i else slice_index_or table (i - first) 0

-- the derivation d is kept behind the others, as the last one that refers to them
abbrev pub TakesOver : Derivation → ℕ → ℕ → List Derivation → List Derivation → Type 0
TakesOver d index first old new =
    new ≡ referred_by (refers_to d.reason) index first old ++ record d { last = None } ∷ []
