use Rattle.vipr_c.proofs.ShownLemmas.{shown_by}
use Rattle.vipr_c.proofs.shown.shown.Goals as goal

pub returns-in-Ok : goal.returns-in-Ok
returns-in-Ok c =
    let found = c.in-Ok.ensures in
    shown_by c.args.form c.args.text.now c.in-Ok.whole.bytes found.0 c.written.result.status
    c.written.result.text.items found.1 found.2 c.written.ensures
