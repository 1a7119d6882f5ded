-- What a program in C gets of a verdict
use Rattle.std.specs.Prelude.{ℕ, ℤ, pos, Option, Some, None, Result, Ok, Err}
use Rattle.vipr_check.specs.declared.verdict.Fault.TheVariants.{Memory}
use Rattle.vipr_check.specs.declared.verdict.Place.TheVariants.{Byte, Sol, Der, End}
use Rattle.vipr_check.specs.declared.verdict.Verdict.TheVariants.{Verified, Refused}
use Rattle.vipr_check.specs.{Text.verdict_status, declared.verdict.Fault.Fault}
use Rattle.vipr_check.specs.{declared.verdict.Place.Place, declared.verdict.Verdict.Verdict}
use Rattle.vipr_c.specs.declared.answer.Answer.{Answer}

-- the status of a verdict, 3 if there is none
abbrev pub status_of : Result Verdict Fault → ℤ
status_of (Ok v) = pos (verdict_status v)
status_of (Err e) = pos 3

abbrev pub kind_of_place : Place → ℕ
kind_of_place (Byte offset) = 1
kind_of_place (Sol number) = 2
kind_of_place (Der index) = 3
kind_of_place End = 4

abbrev pub number_of_place : Place → ℕ
number_of_place (Byte offset) = offset
number_of_place (Sol number) = number
number_of_place (Der index) = index
number_of_place End = 0

abbrev pub one_if_some : Option ℕ → ℕ
one_if_some None = 0
one_if_some (Some n) = 1

abbrev pub or_0 : Option ℕ → ℕ
or_0 None = 0
or_0 (Some n) = n

abbrev pub answer_of_verdict : Result Verdict Fault → Answer
answer_of_verdict (Ok (Verified r)) =
    record {
      cause = 0;
      place = 0;
      number = 0;
      solutions = r.solutions;
      derived = r.derived;
      peak = r.peak;
      has_goal = one_if_some r.goal;
      goal = or_0 r.goal;
    }
answer_of_verdict (Ok (Refused r)) =
    record {
      cause = r.cause;
      place = kind_of_place r.place;
      number = number_of_place r.place;
      solutions = 0;
      derived = 0;
      peak = 0;
      has_goal = 0;
      goal = 0;
    }
answer_of_verdict (Err e) =
    record {
      cause = 0;
      place = 0;
      number = 0;
      solutions = 0;
      derived = 0;
      peak = 0;
      has_goal = 0;
      goal = 0;
    }

abbrev pub no_answer : Answer
no_answer = answer_of_verdict (Err Memory)
