use Rattle.std.proofs.Common.{◌∙◌, ◌<◌, ap, sym, subst, get_or, length, false}
use Rattle.std.specs.FinSet.{contains}
use Rattle.vipr_linear.proofs.Sets.{found, member}
use Rattle.vipr_linear.proofs.ints.Ints.contains.Goals as goal

pub returns-in-Some : goal.returns-in-Some
returns-in-Some c =
    let found = c.in-Some.ensures.lookup.3 in
    let same = c.deref.ensures.value in
    let e = found.1 false
    ∙ ap (λ xs. get_or xs c.args.variable false) same
    ∙ c.self.invariant.marked c.args.variable (subst (λ xs. c.args.variable < length xs) same found.0)
    ∙ sym (member c.self.inside.indices.items c.args.variable)
    ∙ ap (λ s. contains s c.args.variable) c.self.view_is in
    (λ t. sym e ∙ t, λ t. e ∙ t)

pub returns-in-None : goal.returns-in-None
returns-in-None c =
    let e = c.is_ok.ensures.value
    ∙ found c.self.inside.indices.items c.args.variable _ c.self.invariant.rising
    (rw c.deref-in-None.ensures.value at c.binary_search.ensures.position)
    ∙ ap (λ s. contains s c.args.variable) c.self.view_is in
    (λ t. sym e ∙ t, λ t. e ∙ t)
