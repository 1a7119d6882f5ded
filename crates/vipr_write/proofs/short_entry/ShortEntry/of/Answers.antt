use Rattle.std.proofs.Common.{◌≡◌, w32, to_z, of_z, SFits, nat_abs, ap, sym, subst, ◌∙◌}
use Rattle.std.specs.Int.{w128}
use Rattle.std.proofs.lemmas.Int.{to_z-of_z}
use Rattle.vipr_write.proofs.StepReasons.{short_is}
use Rattle.vipr_write.proofs.short_entry.ShortEntry.of.Goals as goal

pub returns-in-Ok-Ok-clause-entry : goal.returns-in-Ok-Ok-clause-entry
returns-in-Ok-Ok-clause-entry c =
    let x = c.args.multiplier.now in
    let n = rw c.in-Ok-Ok.is-0 at c.try_from-numer.ensures in
    let d = rw c.in-Ok-Ok.is-1 at c.try_from-denom.ensures in
    let numer : to_z w32 (of_z w32 c.in-Ok-Ok.numer) ≡ x.numer =
    to_z-of_z w32 c.in-Ok-Ok.numer (subst (SFits w32) (sym n.1) n.0) ∙ n.1
    ∙ to_z-of_z w128 c.numer.result (record { sfits = c.numer.type_inv })
    ∙ c.numer.ensures.value in
    let denom : c.in-Ok-Ok.denom ≡ x.denom = d.1
    ∙ ap nat_abs (to_z-of_z w128 c.denom.result (record { sfits = c.denom.type_inv })
    ∙ c.denom.ensures.value) in
    ap (λ y. (c.args.index, y)) (short_is x (to_z w32 (of_z w32 c.in-Ok-Ok.numer)) c.in-Ok-Ok.denom numer denom)
