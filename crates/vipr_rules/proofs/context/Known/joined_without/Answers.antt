use Rattle.std.proofs.{Common.sym, Common.ap, Common.◌∙◌, lemmas.Result.IfOk-weaker}
use Rattle.std.specs.FinSet.{union, remove}
use Rattle.vipr_rules.specs.Context.{set_of}
use Rattle.vipr_table.proofs.Laws.{remove_none, union_none}
use Rattle.vipr_rules.proofs.JoinedLemmas.{none_union}
use Rattle.vipr_rules.proofs.context.Known.joined_without.Goals as goal

pub returns-in-Given-default : goal.returns-in-Given-default
returns-in-Given-default c =
    let none = remove_none c.args.index ∙ ap (λ k. remove (set_of k) c.args.index) (sym c.in-Given-default.is-0) in
    let second = remove (set_of c.args.other) c.args.other_index in
    IfOk-weaker c.without.result _ _ (λ s e. e ∙ none_union second
    ∙ ap (λ first. union first second) none) c.without.ensures

pub returns-in_default-Given : goal.returns-in_default-Given
returns-in_default-Given c =
    let none = remove_none c.args.other_index ∙ ap (λ k. remove (set_of k) c.args.other_index)
    (sym c.in_default-Given.is-1) in
    let first = remove (set_of c.args.self) c.args.index in
    IfOk-weaker c.without-in_default-Given.result _ _ (λ s e. e ∙ union_none first
    ∙ ap (union first) none) c.without-in_default-Given.ensures
