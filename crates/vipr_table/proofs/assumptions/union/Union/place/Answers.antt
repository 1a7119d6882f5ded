use Rattle.std.proofs.Common.{◌≡◌, ◌∙◌, ◌++◌, ◌∷◌, [], ap, ap₂, sym}
use Rattle.std.proofs.lemmas.Result.{MatchResult-weaker}
use Rattle.std.specs.FinSet.{union, from_list}
use Rattle.vipr_table.specs.{Sets.union_of_all, Unions.union_so_far}
use Rattle.vipr_table.proofs.UnionsLemmas.{union_assoc, one_put, last_two}
use Rattle.vipr_table.proofs.assumptions.union.Union.place.Goals as goal
use Rattle.vipr_table.proofs.assumptions.union.Union.place.Goals.{then-is_near+in_ok-joined}
use Rattle.vipr_table.proofs.assumptions.union.Union.place.Goals.{else-is_near+in_ok-clone+in_ok-push}

pub returns-clause-union : goal.returns-clause-union
returns-clause-union c =
    let old = c.args.self.now in
    let more = c.args.more.now in
    let all = union_of_all old.below.items in
    let few = from_list old.few.items in
    let past : union (union (union all old.last) more) few ≡ union (union_so_far old) more =
    last_two (union all old.last) more few in
    let step : union_so_far c.if-is_near.self ≡ union (union_so_far old) more = elim c.if-is_near.branch [
      | then-is_near+in_ok-joined w ↦ ap union_so_far w.self-is
          ∙ ap (λ s. union (union all s) few) (w.put.ensures ∙ w.in_ok-joined.ensures)
          ∙ ap (λ s. union s few) (sym (union_assoc all old.last more)) ∙ past
      | else-is_near+in_ok-clone+in_ok-push w ↦
          ap union_so_far w.self-is
          ∙ ap₂ (λ ss s. union (union (union_of_all ss) s) few) (w.in_ok-push.ensures.items
          ∙ ap (λ s. old.below.items ++ s ∷ []) w.replace-last.ensures.value)
          (w.replace-last.ensures.after ∙ w.in_ok-clone.ensures.cases)
          ∙ ap (λ s. union s few) (one_put old.below.items old.last more) ∙ past
    ] in
    MatchResult-weaker c.settle.result c.settle.ensures.union (λ _ e. e ∙ step) (λ _ _. tt)
