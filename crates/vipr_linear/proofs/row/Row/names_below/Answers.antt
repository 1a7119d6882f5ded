use Rattle.vipr_linear.proofs.Adding.{names_known}
use Rattle.vipr_linear.proofs.row.Row.names_below.Goals as goal

pub returns : goal.returns
returns c =
    let list = c.entries.ensures.list in
    let known = names_known c.args.self.now c.args.n (rw list at c.entries.ensures.rising) in
    let all = rw list at c.ends_below.ensures in
    (λ t. known.0 (all.0 t), λ h. all.1 (known.1 h))
