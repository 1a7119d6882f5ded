use Rattle.std.proofs.{Common.refl, Common.sym, Common.◌∙◌, lemmas.Bool.false≢true}
use Rattle.vipr_cert.proofs.{Viewing.all_seen, Viewing.fails_at, Within.each_of, Within.each_from}
use Rattle.vipr_cert.proofs.limits.are_within.Goals as goal

pub returns-then-not-is_within : goal.returns-then-not-is_within
returns-then-not-is_within g c =
    let view = g.T.NamesVariables.view in
    let shape = g.T.NamesVariables.shape c.args.n in
    let items = c.args.items.now in
    let fails : ¬ shape (view c.item-item.result) =
    λ h. false≢true (sym c.if-not-is_within.true ∙ c.is_within.ensures.shape.1 h) in
    record {
      shape = (
        λ t. absurd (false≢true t),
        λ all. absurd
            (fails_at (λ x. shape (view x)) items _ _ c.loop-item-test.true c.item-item.is fails
            (each_from (λ x. shape (view x)) shape view (λ x h. h) items all)),
      );
      fits = λ t. absurd (false≢true t);
    }

pub returns : goal.returns
returns g c =
    let view = g.T.NamesVariables.view in
    let shape = g.T.NamesVariables.shape c.args.n in
    let fits = g.T.NamesVariables.fits in
    let items = c.args.items.now in
    let all = all_seen (λ x. shape (view x) × fits (view x)) items _ c.loop-item-test.false c.loop-item.invariant in
    record {
      shape = (λ t. each_of (λ x. shape (view x) × fits (view x)) shape items all view (λ x h. h.0), λ h. refl);
      fits = λ t. each_of (λ x. shape (view x) × fits (view x)) fits items all view (λ x h. h.1);
    }
