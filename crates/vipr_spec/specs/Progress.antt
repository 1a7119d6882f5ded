-- A text item by item: what remains once so much was read
use Rattle.std.specs.Prelude.{ℕ, List, ◌++◌, length}
use Rattle.vipr_spec.specs.Certificate.{Named, Problem, Certificate, count}
use Rattle.vipr_spec.specs.Reading.{Rest, ◌>>=◌, solution_read, derivation_read, end_read}
use Rattle.vipr_spec.specs.Tests.{numbered_tests, tests_of_solution, tests_of_derivation}
use Rattle.vipr_spec.specs.Verdict.{items_read, Found, last_tests, ending_found}
use Rattle.vipr_spec.specs.{Constraint.Row, Steps.with_more}

-- The certificate c was read so far, so many derivations are to come, and this is left of the text.
abbrev pub derivations_from : Certificate → ℕ → Rest → Found
derivations_from c n r = let items = items_read (derivation_read c.problem) n r in record {
  certificate = with_more c items.0;
  tests = numbered_tests tests_of_derivation (count c) items.0 ++ last_tests (items.1 >>= end_read);
}

-- The problem and these solutions were read so far, so many solutions are to come, and this is left
-- of the text.
abbrev pub solutions_from : Problem → List (Named Row) → ℕ → Rest → Found
solutions_from p ss n r =
    let items = items_read (solution_read p) n r in
    let ending = ending_found p items.1 in record {
      certificate = record { problem = p; solutions = ss ++ items.0; derivations = ending.0 };
      tests = numbered_tests (tests_of_solution p) (length ss) items.0 ++ ending.1;
    }
