use Rattle.std.proofs.Common.{◌≡◌, map, nat_eq, subst, sym, ap, ◌∙◌}
use Rattle.vipr_spec.specs.{Certificate.References, Tightened.include, Tightened.referred_by}
use Rattle.vipr_cert.specs.Reasons.{references_of}
use Rattle.vipr_write.specs.StepReasons.{kept_references_of}
use Rattle.vipr_tighten.proofs.Referring.{four_referred, none_referred}
use Rattle.vipr_tighten.proofs.renumber.set_lasts.Goals as goal

pub returns-in-Whole-Nothing : goal.returns-in-Whole-Nothing
returns-in-Whole-Nothing g c = λ view.
    let w = c.in-Whole-Nothing in
    subst (λ (r : References). map (g.D.Tightenable.derived view) c.args.kept.now ≡ referred_by
    (include r) c.args.last c.args.first (map (g.D.Tightenable.derived view) c.args.kept.now))
    (sym (ap kept_references_of w.is ∙ ap references_of (rw w.is at w.field-0-is)))
    (none_referred c.args.last c.args.first (map (g.D.Tightenable.derived view) c.args.kept.now))

pub returns-in-Whole-Branches : goal.returns-in-Whole-Branches
returns-in-Whole-Branches g c = λ view.
    let derived = g.D.Tightenable.derived view in
    let w = c.in-Whole-Branches in
    subst (λ (r : References). map derived c.set_last_at-in-Whole-Branches-3.new.kept ≡ referred_by
    (include r) c.args.last c.args.first (map derived c.args.kept.now))
    (sym (ap kept_references_of w.is ∙ ap references_of (rw w.is at w.field-0-is)))
    (four_referred (λ i. nat_eq i w.i1) (λ i. nat_eq i w.l1) (λ i. nat_eq i w.i2)
    (λ i. nat_eq i w.l2) c.args.last c.args.first
    (map derived c.args.kept.now) (map derived c.set_last_at.new.kept)
    (map derived c.set_last_at-in-Whole-Branches.new.kept)
    (map derived c.set_last_at-in-Whole-Branches-2.new.kept) (map derived c.set_last_at-in-Whole-Branches-3.new.kept)
    (c.set_last_at.ensures view) (c.set_last_at-in-Whole-Branches.ensures view)
    (c.set_last_at-in-Whole-Branches-2.ensures view)
    (c.set_last_at-in-Whole-Branches-3.ensures view))
