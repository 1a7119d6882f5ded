use Rattle.vipr_cert.specs.Earlier.{NameEarlierFrom}
use Rattle.vipr_cert.proofs.certificate.refer_back.Given as goal

abbrev pub invariant-loop-i : goal.invariant-loop-i
invariant-loop-i l = NameEarlierFrom l.from l.derivations l.i
