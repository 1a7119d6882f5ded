use Rattle.std.proofs.Common.{◌∷◌, w32, w64, SFits, ap, ◌∙◌, rules}
use Rattle.std.proofs.lemmas.Int.{to_z-of_z}
use Rattle.vipr_bytes.proofs.Laws.{puts_then, puts_same}
use Rattle.vipr_write.specs.Lines.{parts_text}
use Rattle.vipr_write.proofs.StepReasons.{short_text}
use Rattle.vipr_write.proofs.short_entry.ShortEntrySumEntry.put_multiplier.Goals as goal

pub returns : goal.returns
returns g c =
    let e = c.args.self.now in
    let fits : SFits w32 e.numer = search rules in
    let same = to_z-of_z w64 c.from.result (record { sfits = c.from.type_inv }) ∙ c.from.ensures
    ∙ to_z-of_z w32 e.numer fits in
    puts_same (ap (λ t. 32 ∷ t) (ap (λ p. parts_text p e.denom) same ∙ short_text e))
    (puts_then c.push.ensures c.put_parts.ensures)
