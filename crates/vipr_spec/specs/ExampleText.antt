-- A text, and the certificate that it spells: x ≥ 1 and x ≤ 0 have no point, by their difference
use Rattle.std.specs.Prelude.{ℕ, List, [], ◌∷◌, None, codes, pos, negsuc}
use Rattle.std.specs.FinSet.{from_list}
use Rattle.vipr_spec.specs.Certificate.{minimum, infeasible, lin, Certificate}
use Rattle.vipr_spec.specs.{Constraint.at_most, Constraint.at_least, Fraction.over, Reading.row_of}

abbrev pub example_text : List ℕ
example_text =
    codes "% made by hand\nVER 1.0\nVAR 1\nx\nINT 0\nOBJ min\n0\nCON 2 0\na G 1 1 0 1\nb L 0 1 0 1\nRTP infeas\nSOL 0\nDER 1\nf G 1 0 { lin 2 0 1 1 -1 } -1\n"

abbrev pub example_certificate : Certificate
example_certificate = record {
  problem = record {
    names = codes "x" ∷ [];
    integers = from_list [];
    direction = minimum;
    objective = row_of [];
    constraints =
        record {
          name = codes "a";
          item =
              record {
                row = row_of ((0, over (pos 1) 1) ∷ []);
                sense = at_least;
                bound = over (pos 1) 1;
              };
        }
        ∷ record {
          name = codes "b";
          item =
              record {
                row = row_of ((0, over (pos 1) 1) ∷ []);
                sense = at_most;
                bound = over (pos 0) 1;
              };
        } ∷ [];
    bound_count = 0;
    claim = infeasible;
  };
  solutions = [];
  derivations = record {
    name = codes "f";
    stated = record { row = row_of []; sense = at_least; bound = over (pos 1) 1 };
    reason = lin ((0, over (pos 1) 1) ∷ (1, over (negsuc 0) 1) ∷ []);
    last = None;
  } ∷ [];
}
