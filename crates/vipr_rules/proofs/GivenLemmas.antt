-- The constraints of a problem, as they are read and as they are meant.
use Rattle.std.proofs.Common.{ℕ, List, map, All}
use Rattle.vipr_spec.specs.Constraint.{at, NamesBelow, Point, IsTrueAt, condition}
use Rattle.vipr_spec.specs.Shape.{ConstraintShape}
use Rattle.vipr_linear.specs.declared.constraint.Constraint.{Constraint}
use Rattle.vipr_linear.specs.Constraint.{constraint_of, condition_of}
use Rattle.vipr_cert.specs.{Items.named_of, declared.items.Named.Named}
use Rattle.vipr_cert.proofs.Laws.{each_from}

-- constraints that keep the limits
pub given_below : (n : ℕ) (cons : List (Named Constraint))
    → All (ConstraintShape n) (map (named_of constraint_of) cons)
    → All (λ x. NamesBelow n (at x.item.row)) cons
given_below n cons given = each_from (λ (x : Named Constraint). NamesBelow n (at x.item.row))
    (ConstraintShape n) (named_of constraint_of) (λ x s. s.row) cons given

-- the constraints of a problem, true at a point
pub given_true : (n : ℕ) (x : Point) (cons : List (Named Constraint))
    → All (λ c. IsTrueAt n (condition c.item) x) (map (named_of constraint_of) cons)
    → All (λ c. IsTrueAt n (condition_of c.item) x) cons
given_true n x cons given = each_from (λ (c : Named Constraint). IsTrueAt n (condition_of c.item) x)
    (λ c. IsTrueAt n (condition c.item) x) (named_of constraint_of) (λ c t. t) cons given
