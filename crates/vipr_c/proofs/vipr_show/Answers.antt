use Rattle.std.proofs.Common.{◌≡◌, ◌∙◌, rules, sym, of_z, to_z, w32}
use Rattle.vipr_c.specs.Written.{form_flagged}
use Rattle.vipr_c.proofs.ShownLemmas.{renamed}
use Rattle.vipr_c.proofs.vipr_show.Goals as goal

pub returns : goal.returns
returns c =
    let made = c.shown-made.result.0 in
    let status = c.hand_over.result in
    let fits : status ≡ to_z w32 (of_z w32 status) = search rules in (
      made.text.items,
      renamed c.form_flagged.result (form_flagged c.args.compact) c.args.text.now
          made.status (to_z w32 (of_z w32 status)) made.text.items c.shown-made.result.1
          c.form_flagged.ensures (sym c.hand_over.ensures.status ∙ fits) c.shown-made.ensures,
      c.hand_over.ensures.text,
    )
