use Rattle.std.proofs.Common.{Err, sym, ap, subst, ◌∙◌, refl, inl, inr, ◌++◌, ◌∷◌, []}
use Rattle.vipr_spec.specs.Constraint.{at, Entry, NamesBelow}
use Rattle.vipr_linear.specs.{Accumulator.Holds, Constraint.condition_of}
use Rattle.vipr_linear.proofs.Laws.{fits_known, suitable_known, step_held}
use Rattle.vipr_rules.proofs.sum.add_multiple.Goals as goal

pub returns-in-Ok-clause-sum : goal.returns-in-Ok-clause-sum
returns-in-Ok-clause-sum c = λ n es h.
    let can = c.in-Ok.ensures.ok.0 refl in
    let e : Entry = (c.args.multiplier, condition_of c.args.constraint.now) in
    subst (Holds n (es ++ e ∷ [])) (sym c.in-Ok.ensures.added)
    (step_held n es e c.args.scratch.now h
    (subst (λ m. NamesBelow m (at c.args.constraint.now.row)) h.variables c.requires.below)
    can.suitable can.fits)

pub returns-in-Err-MixedSigns-clause-sum : goal.returns-in-Err-MixedSigns-clause-sum
returns-in-Err-MixedSigns-clause-sum c = λ n es h.
    let e : Entry = (c.args.multiplier, condition_of c.args.constraint.now) in
    let known = c.add.ensures.mixed_signs.0 (c.in-Err-MixedSigns.is ∙ ap Err c.in-Err-MixedSigns.field-0-is) in
    inl (refl, λ s. let some = (suitable_known n es e c.args.scratch.now h).1 s in absurd (let none = known.1 in cc))

pub returns-in-Err-Overflow-clause-sum : goal.returns-in-Err-Overflow-clause-sum
returns-in-Err-Overflow-clause-sum c = λ n es h.
    let e : Entry = (c.args.multiplier, condition_of c.args.constraint.now) in
    let known = c.add.ensures.overflow.0 (c.in-Err-Overflow.is ∙ ap Err c.in-Err-Overflow.field-0-is) in
    inr (
      refl,
      (suitable_known n es e c.args.scratch.now h).0 known.1,
      λ f. known.2 ((fits_known n es e c.args.scratch.now h).1 f),
    )
