use Rattle.std.proofs.Common.{◌∙◌, ◌^◌, ap, sym, subst}
use Rattle.std.proofs.lemmas.Result.{MatchResult-weaker, IfOk-weaker}
use Rattle.std.specs.FinSet.{remove, from_list}
use Rattle.vipr_table.specs.Rising.{IsRising}
use Rattle.vipr_table.proofs.RisingLemmas.{rises_filter}
use Rattle.vipr_table.proofs.SetLemmas.{remove_seen, remove_absent}
use Rattle.vipr_table.proofs.assumptions.Assumptions.without.Goals as goal

pub returns-then-not-contains : goal.returns-then-not-contains
returns-then-not-contains c =
    let absent = sym c.contains.ensures ∙ c.if-not-contains.true in
    MatchResult-weaker c.clone.result c.clone.ensures.cases
    (λ s e. e ∙ remove_absent c.args.self.now c.args.index absent) (λ _ _. tt)

pub of_rising-requires : goal.of_rising-requires
of_rising-requires c =
    subst IsRising (sym c.in_ok-all_but-in-Some-as_one.ensures)
    (rises_filter _ 0 (2 ^ 32) c.in-Some-as_one.items.now c.in-Some-as_one.ensures.rising)

pub returns-in_ok-all_but-in-Some-as_one : goal.returns-in_ok-all_but-in-Some-as_one
returns-in_ok-all_but-in-Some-as_one c =
    let set =
    ap from_list c.in_ok-all_but-in-Some-as_one.ensures
    ∙ remove_seen c.in-Some-as_one.items.now c.args.index
    ∙ ap (λ s. remove s c.args.index) c.in-Some-as_one.ensures.is_set in
    IfOk-weaker c.of_rising.result _ _ (λ s e. e ∙ set) c.of_rising.ensures
