use Rattle.std.proofs.Common.{rules}
use Rattle.vipr_frac.proofs.Views.{facts, Facts}
use Rattle.vipr_frac.proofs.frac.Frac.parts.Goals as goal

pub returns : goal.returns
returns c =
    let a : Facts c.args.self c.self.inside.p c.self.inside.q = facts _ _ _ c.self.view_is c.self.invariant in
    record { numer = rw c.value.ensures a.back; denom = rw c.value-2.ensures a.denom; reduced = search rules }
