-- Certificates that are proofs, and some that are none
use Rattle.std.specs.Prelude.{ℕ, ◌^◌, List, [], ◌∷◌, Some, None, pos, negsuc}
use Rattle.std.specs.{FinMap.empty, FinMap.insert, Ordering.nat_cmp}
use Rattle.std.specs.FinSet as set
use Rattle.vipr_spec.specs.Fraction.{ℚ, over, whole, zero_ℚ}
use Rattle.vipr_spec.specs.Constraint.{at_most, at_least, Row}
use Rattle.vipr_spec.specs.Certificate.{minimum, maximum, infeasible, range, asm, lin, rnd, uns}
use Rattle.vipr_spec.specs.Certificate.{sol, Problem, Certificate}

-- the row of the first variable
unfoldable pub row : Row
row = insert empty 0 (whole (pos 1))

unfoldable pub both : List (ℕ × ℚ)
both = (0, whole (pos 1)) ∷ (1, whole (negsuc 0)) ∷ []

-- x ≥ 1 and x ≤ 0 of one variable, with no point
abbrev pub apart : Problem
apart = record {
  names = [] ∷ [];
  integers = set.empty;
  direction = minimum;
  objective = empty;
  constraints =
      record { name = []; item = record { row = row; sense = at_least; bound = whole (pos 1) } }
      ∷ record { name = []; item = record { row = row; sense = at_most; bound = zero_ℚ } } ∷ [];
  bound_count = 0;
  claim = infeasible;
}

-- their difference is 0 ≥ 1
abbrev pub example : Certificate
example = record {
  problem = apart;
  solutions = [];
  derivations = record {
    name = [];
    stated = record { row = empty; sense = at_least; bound = whole (pos 1) };
    reason = lin both;
    last = None;
  } ∷ [];
}

-- no constraints; that they have no point rests on the assumption 0 ≥ 1
abbrev pub assumed : Certificate
assumed = record {
  problem = record {
    names = [] ∷ [];
    integers = set.empty;
    direction = minimum;
    objective = empty;
    constraints = [];
    bound_count = 0;
    claim = infeasible;
  };
  solutions = [];
  derivations = record {
    name = [];
    stated = record { row = empty; sense = at_least; bound = whole (pos 1) };
    reason = asm;
    last = None;
  } ∷ [];
}

-- constraint 2 is dropped at step 2, and step 3 refers to it
abbrev pub dropped_example : Certificate
dropped_example = record {
  problem = apart;
  solutions = [];
  derivations =
      record {
        name = [];
        stated = record { row = row; sense = at_least; bound = whole (pos 1) };
        reason = lin ((0, whole (pos 1)) ∷ []);
        last = Some 2;
      }
      ∷ record {
        name = [];
        stated = record { row = empty; sense = at_least; bound = whole (pos 1) };
        reason = lin ((2, whole (pos 1)) ∷ (1, whole (negsuc 0)) ∷ []);
        last = None;
      } ∷ [];
}

-- 0 ≥ 2^126, two times, makes 0 ≥ 2^127
abbrev pub too_large : Certificate
too_large = record {
  problem = record {
    names = [];
    integers = set.empty;
    direction = minimum;
    objective = empty;
    constraints =
        record {
          name = [];
          item = record { row = empty; sense = at_least; bound = whole (pos (2 ^ 126)) };
        } ∷ [];
    bound_count = 0;
    claim = infeasible;
  };
  solutions = [];
  derivations = record {
    name = [];
    stated = record { row = empty; sense = at_least; bound = whole (pos 1) };
    reason = lin ((0, whole (pos 2)) ∷ []);
    last = None;
  } ∷ [];
}

-- the row of two times the first variable
unfoldable pub twice : Row
twice = insert empty 0 (whole (pos 2))

unfoldable pub first_variable : set.FinSet nat_cmp
first_variable = set.insert set.empty 0

-- max x, where x is whole and 2 x ≤ 3: it is 1. Half of the constraint is rounded to x ≤ 1, which
-- the branches x ≤ 0 and x ≥ 1 then give once more; the listed solution x = 1 gives x ≥ 1.
-- Constraint 1 is dropped at the last step that refers to it.
abbrev pub optimum : Certificate
optimum = record {
  problem = record {
    names = [] ∷ [];
    integers = first_variable;
    direction = maximum;
    objective = row;
    constraints =
        record {
          name = [];
          item = record { row = twice; sense = at_most; bound = whole (pos 3) };
        } ∷ [];
    bound_count = 0;
    claim = range (Some (whole (pos 1))) (Some (whole (pos 1)));
  };
  solutions = record { name = []; item = row } ∷ [];
  derivations =
      record {
        name = [];
        stated = record { row = row; sense = at_most; bound = whole (pos 1) };
        reason = rnd ((0, over (pos 1) 2) ∷ []);
        last = Some 4;
      }
      ∷ record {
        name = [];
        stated = record { row = row; sense = at_most; bound = zero_ℚ };
        reason = asm;
        last = None;
      }
      ∷ record {
        name = [];
        stated = record { row = row; sense = at_least; bound = whole (pos 1) };
        reason = asm;
        last = None;
      }
      ∷ record {
        name = [];
        stated = record { row = row; sense = at_most; bound = whole (pos 1) };
        reason = uns 2 2 1 3;
        last = None;
      }
      ∷ record {
        name = [];
        stated = record { row = row; sense = at_least; bound = whole (pos 1) };
        reason = sol;
        last = None;
      } ∷ [];
}

-- x whole and x ≥ 1/2, of which min x is at least 1: the bound of the whole objective is rounded
abbrev pub rounded_bound : Certificate
rounded_bound = record {
  problem = record {
    names = [] ∷ [];
    integers = first_variable;
    direction = minimum;
    objective = row;
    constraints =
        record {
          name = [];
          item = record { row = row; sense = at_least; bound = over (pos 1) 2 };
        } ∷ [];
    bound_count = 0;
    claim = range (Some (whole (pos 1))) None;
  };
  solutions = [];
  derivations = [];
}

-- 0 ≥ 1 once more, from the branches x ≤ 1/2 and x ≥ 1/2 of a whole x
abbrev pub split_at_half : Certificate
split_at_half = record {
  problem = record {
    names = [] ∷ [];
    integers = first_variable;
    direction = minimum;
    objective = empty;
    constraints =
        record {
          name = [];
          item = record { row = empty; sense = at_least; bound = whole (pos 1) };
        } ∷ [];
    bound_count = 0;
    claim = infeasible;
  };
  solutions = [];
  derivations =
      record {
        name = [];
        stated = record { row = row; sense = at_most; bound = over (pos 1) 2 };
        reason = asm;
        last = None;
      }
      ∷ record {
        name = [];
        stated = record { row = row; sense = at_least; bound = over (pos 1) 2 };
        reason = asm;
        last = None;
      }
      ∷ record {
        name = [];
        stated = record { row = empty; sense = at_least; bound = whole (pos 1) };
        reason = uns 0 1 0 2;
        last = None;
      } ∷ [];
}
