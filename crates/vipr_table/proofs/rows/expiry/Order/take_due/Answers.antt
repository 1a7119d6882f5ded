use Rattle.std.proofs.{Common.◌≡◌, Common.ap, Common.arith, lemmas.List.Sorted.IsPermutation-map}
use Rattle.vipr_table.proofs.ExpiryLemmas.{All-below_top, same_front}
use Rattle.vipr_table.proofs.rows.expiry.Order.take_due.Goals as goal

pub returns-then-now-last-clause-none : goal.returns-then-now-last-clause-none
returns-then-now-last-clause-none c =
    All-below_top c.args.now c.in-Some.field-0.now _ c.if-now-last.true
    (c.in-Some.ensures.greatest c.args.self.now.ordered)

pub returns-in-Some-pop-clause-some : goal.returns-in-Some-pop-clause-some
returns-in-Some-pop-clause-some c =
    let same : c.in-Some.field-0.now ≡ c.in-Some-pop.field-0 =
    same_front _ _ _ c.in-Some.ensures.item.3.0 c.in-Some.ensures.lookup c.in-Some-pop.ensures.top in (
      c.in-Some-pop.field-0.0.0,
      omega (arith, ap (λ r. r.0.0) same, c.if-now-last.false),
      IsPermutation-map (λ r. r.0) _ _ c.in-Some-pop.ensures.permutation,
    )
