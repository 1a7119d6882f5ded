-- A certificate with each kind of line, and its texts
use Rattle.std.specs.Prelude.{ℕ, List, [], ◌∷◌, None, Some, codes, pos, negsuc}
use Rattle.std.specs.{FinMap.from_sorted, FinSet.from_list}
use Rattle.vipr_spec.specs.Fraction.{over, whole}
use Rattle.vipr_spec.specs.Constraint.{at_most, equal, at_least, Row}
use Rattle.vipr_spec.specs.Certificate.{maximum, range, asm, lin, rnd, uns, sol, Certificate}

-- no variable, the second alone, and both
unfoldable pub nothing : Row
nothing = from_sorted []

unfoldable pub second : Row
second = from_sorted ((1, whole (pos 1)) ∷ [])

unfoldable pub two_terms : Row
two_terms = from_sorted ((0, over (pos 2) 4) ∷ (1, whole (negsuc 2)) ∷ [])

abbrev pub sample : Certificate
sample = record {
  problem = record {
    names = codes "x" ∷ codes "y" ∷ [];
    integers = from_list (1 ∷ 1 ∷ []);
    direction = maximum;
    objective = two_terms;
    constraints =
        record {
          name = codes "a";
          item = record { row = nothing; sense = at_least; bound = over (negsuc 0) 3 };
        }
        ∷ record {
          name = codes "b";
          item = record { row = two_terms; sense = equal; bound = whole (pos 0) };
        } ∷ [];
    bound_count = 1;
    claim = range None (Some (over (pos 7) 2));
  };
  solutions = record { name = codes "s"; item = second }
      ∷ record { name = codes "t"; item = nothing } ∷ [];
  derivations =
      record {
        name = codes "c";
        stated = record { row = second; sense = at_most; bound = whole (pos 12) };
        reason = asm;
        last = Some 6;
      }
      ∷ record {
        name = codes "d";
        stated = record { row = second; sense = at_least; bound = whole (pos 13) };
        reason = lin ((0, whole (pos 0)) ∷ (1, over (negsuc 4) 10) ∷ []);
        last = None;
      }
      ∷ record {
        name = codes "e";
        stated = record { row = nothing; sense = at_most; bound = whole (pos 0) };
        reason = rnd [];
        last = None;
      }
      ∷ record {
        name = codes "f";
        stated = record { row = nothing; sense = at_most; bound = whole (pos 0) };
        reason = uns 4 2 5 3;
        last = None;
      }
      ∷ record {
        name = codes "g";
        stated = record { row = nothing; sense = equal; bound = whole (pos 0) };
        reason = sol;
        last = None;
      } ∷ [];
}

-- the same with OBJ for the row of constraint b, which is the objective's
abbrev pub sample_compact : List ℕ
sample_compact =
    codes "VER 1.0\nVAR 2\nx\ny\nINT 1\n1\nOBJ max\n2 0 1/2 1 -3\nCON 2 1\na G -1/3 0\nb E 0 OBJ\nRTP range -inf 7/2\nSOL 2\ns 1 1 1\nt 0\nDER 5\nc L 12 1 1 1 { asm } 6\nd G 13 1 1 1 { lin 2 0 0 1 -1/2 } -1\ne L 0 0 { rnd 0 } -1\nf L 0 0 { uns 4 2 5 3 } -1\ng E 0 0 { sol } -1\n"

abbrev pub sample_text : List ℕ
sample_text =
    codes "VER 1.0\nVAR 2\nx\ny\nINT 1\n1\nOBJ max\n2 0 1/2 1 -3\nCON 2 1\na G -1/3 0\nb E 0 2 0 1/2 1 -3\nRTP range -inf 7/2\nSOL 2\ns 1 1 1\nt 0\nDER 5\nc L 12 1 1 1 { asm } 6\nd G 13 1 1 1 { lin 2 0 0 1 -1/2 } -1\ne L 0 0 { rnd 0 } -1\nf L 0 0 { uns 4 2 5 3 } -1\ng E 0 0 { sol } -1\n"
