-- What the rows of a table show over all points, whatever certificate they come from
use Rattle.std.specs.Prelude.{◌≡◌, ℕ, Option, Some, IsTrue, option_copied}
use Rattle.std.specs.FinSet as set
use Rattle.std.specs.Ordering.{nat_cmp}
use Rattle.vipr_spec.specs.Constraint.{Condition, Point, IsTrueAt}
use Rattle.vipr_spec.specs.Certificate.{Problem, variables}
use Rattle.vipr_spec.specs.{Fraction.ℚ, Soundness.IsAdmittedBy}
use Rattle.vipr_linear.specs.{Constraint.condition_of, declared.constraint.Constraint.Constraint}
use Rattle.vipr_table.specs.{Table.Table, Table.entry_at, declared.rows.Entry.Entry}
use Rattle.vipr_rules.specs.declared.context.Context.{Context}

-- `says` is what is stated at each index: d is true at x if the assumptions of the set are
abbrev pub IsTrueUnder : ℕ → (ℕ → Condition) → set.FinSet nat_cmp → Condition → Point → Type 0
IsTrueUnder n says s d x =
    ((a : ℕ) → IsTrue (set.contains s a) → IsTrueAt n (says a) x) → IsTrueAt n d x

-- at each point at which no better value than the best one is reached, the row is true if the
-- assumptions are that it rests on
abbrev pub IsSoundRow : Problem → Option ℚ → (ℕ → Condition) → Entry → Type 0
IsSoundRow p best says e =
    (x : Point) → IsAdmittedBy p best x
    → IsTrueUnder (variables p) says e.assumptions (condition_of e.constraint) x

-- so is each row to which the next derivation may refer, and `says` is what it says at its index
pub record HasSoundRows (p : Problem) (best : Option ℚ) (t : Table)
    (says : ℕ → Condition) : Type 0 where
  pub said : (i : ℕ) (e : Entry) → entry_at t i ≡ Some e → says i ≡ condition_of e.constraint
  pub sound : (i : ℕ) (e : Entry) → entry_at t i ≡ Some e → IsSoundRow p best says e

-- ---- against a context whose rows are sound

-- `says` is what its rows state, and x a point at which no better value than its best one is
-- reached
pub record IsSoundAt {S : Type 0} (table : S → Table) (c : Context S) (says : ℕ → Condition)
    (x : Point) : Type 0 where
  pub rows : HasSoundRows c.problem.now (option_copied c.best) (table c.rows.now) says
  pub admitted : IsAdmittedBy c.problem.now (option_copied c.best) x

-- d is true at every such point at which the assumptions of the set are true
abbrev pub IsSoundUnder : {S : Type 0} → (S → Table) → Context S → set.FinSet nat_cmp → Condition
    → Type 0
IsSoundUnder table c s d =
    (says : ℕ → Condition) (x : Point) → IsSoundAt table c says x
    → IsTrueUnder (variables c.problem.now) says s d x

-- the constraint is what is stated at the index
abbrev pub IsStatedAt : {S : Type 0} → (S → Table) → Context S → ℕ → Constraint → Type 0
IsStatedAt table c i r =
    (says : ℕ → Condition) (x : Point) → IsSoundAt table c says x → says i ≡ condition_of r
