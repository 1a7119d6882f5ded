-- What a derivation is tested against, and the constraints before it
use Rattle.std.specs.Prelude.{◌≡◌, ◌↔◌, ℕ, Bool, false, cond, List, length}
use Rattle.std.specs.Prelude.{Option, None, Some, IsTrue, nat_lt, option_copied}
use Rattle.std.specs.FinSet as set
use Rattle.std.specs.Ordering.{nat_cmp}
use Rattle.vipr_spec.specs.Steps.{SomeRestsOn, RestsBy}
use Rattle.vipr_spec.specs.Certificate.{Certificate, Reason, constraint_at, reason_at, count}
use Rattle.vipr_spec.specs.Certificate.{is_assumption, RestsOn}
use Rattle.vipr_spec.specs.{Constraint.Profile, Fraction.ℚ, Soundness.IsBestValue}
use Rattle.vipr_linear.specs.{Constraint.condition_of, declared.constraint.Constraint.Constraint}
use Rattle.vipr_rules.specs.declared.context.Context.{Context}
use Rattle.vipr_rules.specs.declared.context.Known.TheVariants.{Given, Derived}
use Rattle.vipr_rules.specs.{Profile.profile_of, declared.context.Known.Known}
use Rattle.vipr_table.specs.declared.assumptions.union.Union.{Union}
use Rattle.vipr_table.specs.{History.IsTableOf, Table.Table, Table.entry_at, Unions.union_so_far}
use Rattle.vipr_table.specs.{Unions.has_noted, declared.rows.Entry.Entry}

-- the profile is P; the problem, the best objective value and the table are those of the
-- certificate so far
pub record IsContextOf {S : Type 0} (table : S → Table) (P : Profile) (c : Certificate)
    (x : Context S) : Type 0 where
  pub profile : P ≡ profile_of x.profile
  pub problem : c.problem ≡ x.problem.now
  pub rows : IsTableOf c (table x.rows.now)
  pub best : IsBestValue x.problem.now c.solutions (option_copied x.best)

-- ---- what a look-up gives

abbrev pub row_found : Known → Constraint
row_found (Given x) = x.now
row_found (Derived e) = e.now.constraint

-- the assumptions that it rests on
abbrev pub set_of : Known → set.FinSet nat_cmp
set_of (Given x) = set.empty
set_of (Derived e) = e.now.assumptions

abbrev pub assumptions_at : Option Entry → set.FinSet nat_cmp
assumptions_at None = set.empty
assumptions_at (Some e) = e.assumptions

-- the assumptions of what a look-up gives at an index
abbrev pub set_found : {S : Type 0} → (S → Table) → Context S → ℕ → set.FinSet nat_cmp
set_found table x i = cond (nat_lt i (length x.problem.now.constraints)) set.empty
    (assumptions_at (entry_at (table x.rows.now) i))

abbrev pub is_assumed : Known → Bool
is_assumed (Given x) = false
is_assumed (Derived e) = e.now.is_assumption

-- it says of constraint i what the certificate does
pub record IsKnownAs (c : Certificate) (i : ℕ) (k : Known) : Type 0 where
  pub says : condition_of (row_found k) ≡ constraint_at c i
  pub rests : (a : ℕ) → IsTrue (set.contains (set_of k) a) ↔ RestsOn c i a
  pub is_assumption : is_assumed k ≡ is_assumption (reason_at c i)

-- ---- assumption sets

-- the set has what the entries rest on, those with the multiplier 0 left out
abbrev pub IsSetOfAll : Certificate → List (ℕ × ℚ) → set.FinSet nat_cmp → Type 0
IsSetOfAll c es s = (a : ℕ) → IsTrue (set.contains s a) ↔ SomeRestsOn c es a

-- the set has what a derivation by this reason rests on, that comes after the certificate c
abbrev pub IsSetByReason : Certificate → Reason → set.FinSet nat_cmp → Type 0
IsSetByReason c r s = (a : ℕ) → IsTrue (set.contains s a) ↔ RestsBy c (count c) (Some r) a

-- the union has the assumptions that are found for each constraint that it noted
abbrev pub AreJoined : (ℕ → set.FinSet nat_cmp) → Union → Type 0
AreJoined found u = (i : ℕ) → IsTrue (has_noted u i)
    → (a : ℕ) → IsTrue (set.contains (found i) a) → IsTrue (set.contains (union_so_far u) a)
