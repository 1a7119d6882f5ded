use Rattle.std.proofs.Common.{◌∙◌, ap, ap₂, sym}
use Rattle.std.proofs.lemmas.Result.{MatchResult-weaker, IfOk-weaker}
use Rattle.std.specs.FinSet.{union, contains, contains-from_list_nat}
use Rattle.vipr_table.proofs.SetLemmas.{union_none, union_same, union_seen}
use Rattle.vipr_table.proofs.{ListsLemmas.union_turned, ListsLemmas.union_with_part, UnionsLemmas.none_union}
use Rattle.vipr_table.proofs.assumptions.Assumptions.union.Goals as goal

pub returns-then-is_empty : goal.returns-then-is_empty
returns-then-is_empty c =
    let same = union_none c.args.self.now
    ∙ ap (union c.args.self.now) (sym (c.is_empty.ensures.0 c.if-is_empty.true)) in
    MatchResult-weaker c.clone.result c.clone.ensures.cases (λ s e. e ∙ same) (λ _ _. tt)

pub returns-then-is_empty-2 : goal.returns-then-is_empty-2
returns-then-is_empty-2 c =
    let same = sym (none_union c.args.other.now)
    ∙ ap (λ s. union s c.args.other.now) (sym (c.is_empty-2.ensures.0 c.if-is_empty-2.true)) in
    MatchResult-weaker c.clone-then-is_empty-2.result c.clone-then-is_empty-2.ensures.cases
    (λ s e. e ∙ same) (λ _ _. tt)

pub returns-then-is_one : goal.returns-then-is_one
returns-then-is_one c =
    let same = union_same c.args.self.now ∙ ap (union c.args.self.now) (c.is_one.ensures c.if-is_one.true) in
    MatchResult-weaker c.clone-then-is_one.result c.clone-then-is_one.ensures.cases (λ s e. e ∙ same) (λ _ _. tt)

pub returns-then-has_all : goal.returns-then-has_all
returns-then-has_all c =
    let ours = c.in-Some-Some.ours.now in
    let theirs = c.in-Some-Some.theirs.now in
    let same = union_with_part c.args.self.now c.args.other.now theirs c.in-Some-Some.ensures'.is_set (λ q m.
    ap (λ s. contains s q) (sym c.in-Some-Some.ensures.is_set) ∙ contains-from_list_nat ours q
    ∙ c.has_all.ensures c.if-has_all.true q m) in
    MatchResult-weaker c.clone-then-has_all.result c.clone-then-has_all.ensures.cases (λ s e. e ∙ same) (λ _ _. tt)

pub returns-then-has_all-2 : goal.returns-then-has_all-2
returns-then-has_all-2 c =
    let ours = c.in-Some-Some.ours.now in
    let theirs = c.in-Some-Some.theirs.now in
    let same = union_with_part c.args.other.now c.args.self.now ours c.in-Some-Some.ensures.is_set (λ q m.
    ap (λ s. contains s q) (sym c.in-Some-Some.ensures'.is_set) ∙ contains-from_list_nat theirs q
    ∙ c.has_all-in-Some-Some.ensures c.if-has_all-2.true q m) ∙ union_turned c.args.other.now c.args.self.now in
    MatchResult-weaker c.clone-then-has_all-2.result c.clone-then-has_all-2.ensures.cases (λ s e. e ∙ same) (λ _ _. tt)

pub returns-in_ok-items-in-Some-Some : goal.returns-in_ok-items-in-Some-Some
returns-in_ok-items-in-Some-Some c =
    IfOk-weaker c.of_rising.result _ _
    (λ s e. e ∙ union_seen _ _ _ c.in_ok-items-in-Some-Some.ensures
    ∙ ap₂ union c.in-Some-Some.ensures.is_set c.in-Some-Some.ensures'.is_set)
    c.of_rising.ensures
