use Rattle.std.proofs.Common.{[]}
use Rattle.vipr_scan.specs.Giving.{rest_of}
use Rattle.vipr_check.specs.Shown.{state_shown}
use Rattle.vipr_check.proofs.RunLemmas.{among_start, problem_read_on}
use Rattle.vipr_rules.specs.Profile.{profile_of}
use Rattle.vipr_check.proofs.walk.after_problem.Goals as goal

pub check_solutions-outcome-requires : goal.check_solutions-outcome-requires
check_solutions-outcome-requires g c =
    let p = c.args.problem in
    let k = c.in-Ok.checker in
    let e = c.in-Ok.ensures in (
      profile_of c.args.profile,
      p,
      [],
      among_start (profile_of c.args.profile) p k c.args.solutions
          e.profile e.problem e.start e.phase e.runs c.requires.knows c.requires.unspent
          c.requires.counted,
    )

pub returns-in-Ok-clause-explained : goal.returns-in-Ok-clause-explained
returns-in-Ok-clause-explained g c = λ known r is.
    let p = c.args.problem in
    let k = c.in-Ok.checker in
    let e = c.in-Ok.ensures in
    let after = c.check_solutions-outcome in
    let among = among_start (profile_of c.args.profile) p k c.args.solutions e.profile e.problem
    e.start e.phase e.runs c.requires.knows c.requires.unspent c.requires.counted in
    problem_read_on (profile_of c.args.profile) r p c.args.solutions.left
    (rest_of c.args.solutions.rest) (state_shown after.new.checker) after.result is
    (after.ensures.explained (profile_of c.args.profile) p [] among known)
