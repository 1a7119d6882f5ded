use Rattle.std.proofs.Common.{arith}
use Rattle.vipr_spec.specs.{Checking.start, Steps.with_more, Tests.none}
use Rattle.vipr_rules.specs.Profile.{profile_of}
use Rattle.vipr_check.proofs.Laws.{among_start}
use Rattle.vipr_tighten.proofs.proof_reader.read_rest.Goals as goal

pub returns-in_default-clause-unproved : goal.returns-in_default-clause-unproved
returns-in_default-clause-unproved g c = λ known. (none, tt)

pub read_items-read-requires-clause-among : goal.read_items-read-requires-clause-among
read_items-read-requires-clause-among g c =
    let P = profile_of c.args.profile in
    let e = c.in-Ok.ensures in (
      P,
      c.args.problem,
      among_start P c.args.problem c.in-Ok.checker c.args.solutions e.profile
          e.problem e.start e.phase e.runs c.requires.knows c.requires.working c.requires.counted,
    )

pub returns-in-Ok-read-clause-kept : goal.returns-in-Ok-read-clause-kept
returns-in-Ok-read-clause-kept g c =
    let P = profile_of c.args.profile in
    let e = c.in-Ok.ensures in
    let among = among_start P c.args.problem c.in-Ok.checker c.args.solutions e.profile e.problem
    e.start e.phase e.runs c.requires.knows c.requires.working c.requires.counted in
    let (same_problem, is_for, ss, ds, lines, kept, writes, proof) =
    c.in-Ok-read.ensures.kept P c.args.problem among in (
      with_more (start c.args.problem ss) ds,
      record {
        steps = grind (arith, c.requires.writes, c.into_problem-problem.ensures);
        form = is_for.form;
        proof = proof.proof;
        reports = proof.reports;
        shown = proof.shown;
      },
      proof,
    )
