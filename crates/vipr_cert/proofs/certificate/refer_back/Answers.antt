use Rattle.std.proofs.Common.{arith, rules}
use Rattle.vipr_cert.proofs.Backwards.{none_yet, one_earlier, this_one, up_to}
use Rattle.vipr_cert.proofs.certificate.refer_back.Goals as goal

pub loop-i-init : goal.loop-i-init
loop-i-init c = none_yet c.args.from c.args.derivations.now

pub returns-then-not-names_earlier : goal.returns-then-not-names_earlier
returns-then-not-names_earlier c =
    grind (
      arith,
      this_one c.args.from c.args.derivations.now c.loop-i.i,
      c.names_earlier.ensures.1,
      c.loop-i-test.true,
      c.index-derivations-i.is,
      c.if-not-names_earlier.true,
    )

pub loop-i-preserved : goal.loop-i-preserved
loop-i-preserved c = grind (
  arith,
  one_earlier c.args.from c.args.derivations.now c.loop-i.i,
  c.loop-i-test.true,
  c.index-derivations-i.is,
  c.loop-i.invariant,
  c.names_earlier.ensures.0,
  c.if-not-names_earlier.false,
)

pub returns : goal.returns
returns c = (
  λ t. up_to c.args.from c.args.derivations.now c.loop-i.i c.loop-i-test.false
      c.loop-i.invariant,
  λ all. search rules,
)
