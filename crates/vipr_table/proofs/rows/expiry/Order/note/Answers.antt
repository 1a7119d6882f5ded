use Rattle.std.proofs.{Common.sym, Common.subst, lemmas.List.Sorted.IsPermutation-map}
use Rattle.vipr_table.specs.Expiry.{Notes, dues}
use Rattle.vipr_table.proofs.rows.expiry.Order.note.Goals as goal

pub returns-in-Some : goal.returns-in-Some
returns-in-Some c =
    subst (λ o. Notes o c.args.index (dues c.args.self.now.heap) (dues c.push.new.self)) (sym c.in-Some.is)
    (IsPermutation-map (λ r. r.0) _ _ (rw c.unwrap.ensures at c.push.ensures.permutation))
