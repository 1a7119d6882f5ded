use Rattle.std.proofs.Common.{Ok}
use Rattle.vipr_frac.proofs.Parsed.{read_parts, spelled}
use Rattle.vipr_frac.proofs.frac.Frac.parse.Goals as goal

pub returns-in-Some-clause-read : goal.returns-in-Some-clause-read
returns-in-Some-clause-read c =
    read_parts c.args.b.now c.unsigned-text.result.now c.starts_negative-is_negative.result
    (Ok c.in-Some.whole) c.starts_negative-is_negative.ensures c.unsigned-text.ensures
    c.in-Some.ensures

pub returns-in-Some-clause-spelled : goal.returns-in-Some-clause-spelled
returns-in-Some-clause-spelled c = spelled c.args.b.now (Ok c.in-Some.whole) (returns-in-Some-clause-read c)

pub returns-in-None-clause-read : goal.returns-in-None-clause-read
returns-in-None-clause-read c =
    read_parts c.args.b.now c.unsigned-text.result.now c.starts_negative-is_negative.result
    c.unsigned_fraction.result c.starts_negative-is_negative.ensures c.unsigned-text.ensures
    c.unsigned_fraction.ensures

pub returns-in-None-clause-spelled : goal.returns-in-None-clause-spelled
returns-in-None-clause-spelled c = spelled c.args.b.now c.unsigned_fraction.result (returns-in-None-clause-read c)
