use Rattle.std.proofs.Common.{◌≡◌, ◌++◌, ◌∷◌, [], take, length, ◌∙◌, ap, sym, arith}
use Rattle.std.specs.FinSet.{from_list}
use Rattle.vipr_table.proofs.ListsLemmas.{front_taken, last_out_rises, last_out_seen, only_item}
use Rattle.vipr_table.proofs.assumptions.list.front_but_last.Goals as goal

pub returns-in-len1-clause-set : goal.returns-in-len1-clause-set
returns-in-len1-clause-set c =
    let rest = c.in-Some.rest.now in
    let front : take c.args.count c.args.items.now.items ≡ rest ++ c.args.index ∷ [] =
    sym c.front_of.ensures ∙ c.in-Some.ensures.cases.0
    ∙ ap (λ x. rest ++ x ∷ []) c.if-last-index.true in
    let one : length rest ≡ 1 = omega (arith, c.in-len1.len_at_least, c.in-len1.len_below) in
    ap from_list (only_item rest one) ∙ last_out_seen c.args.index _ rest c.requires front

pub returns-in_ok-items-in-Some-clause-rises : goal.returns-in_ok-items-in-Some-clause-rises
returns-in_ok-items-in-Some-clause-rises c =
    let rest = c.in-Some.rest.now in
    let front : take c.args.count c.args.items.now.items ≡ rest ++ c.args.index ∷ [] =
    sym c.front_of.ensures ∙ c.in-Some.ensures.cases.0
    ∙ ap (λ x. rest ++ x ∷ []) c.if-last-index.true in
    rw c.in_ok-items-in-Some.ensures.cases
    (last_out_rises c.args.count c.args.index c.args.items.now.items rest c.requires front)

pub returns-in_ok-items-in-Some-clause-set : goal.returns-in_ok-items-in-Some-clause-set
returns-in_ok-items-in-Some-clause-set c =
    let rest = c.in-Some.rest.now in
    let front : take c.args.count c.args.items.now.items ≡ rest ++ c.args.index ∷ [] =
    sym c.front_of.ensures ∙ c.in-Some.ensures.cases.0
    ∙ ap (λ x. rest ++ x ∷ []) c.if-last-index.true in
    rw c.in_ok-items-in-Some.ensures.cases
    (ap from_list (front_taken c.args.count c.args.index c.args.items.now.items rest front)
    ∙ last_out_seen c.args.index _ rest c.requires front)
