use Rattle.std.proofs.Common.{rules, ◌≡◌, ◌≢◌, ℕ, Some, length, arith, sym, subst}
use Rattle.std.proofs.lemmas.List.{take_all}
use Rattle.vipr_spec.specs.Digits.{natural_of}
use Rattle.vipr_spec.proofs.Laws.{natural_of_empty}
use Rattle.vipr_frac.proofs.Fronts.{front_value, stopped}
use Rattle.vipr_frac.proofs.number.short_natural.Goals as goal

pub returns-then-is_empty-clause-value : goal.returns-then-is_empty-clause-value
returns-then-is_empty-clause-value c =
    let e : length c.args.s.now ≡ 0 = search rules in
    sym (natural_of_empty c.args.s.now e)

pub returns-then-len-s-clause-value : goal.returns-then-len-s-clause-value
returns-then-len-s-clause-value c =
    let bs = c.args.s.now in
    let len : ℕ = c.front_natural-value.result.1 in
    let v : ℕ = c.front_natural-value.result.0 in
    let some : length bs ≢ 0 = search rules in
    let front = front_value len v bs (omega arith) c.front_natural-value.ensures.within
    c.front_natural-value.ensures.value in
    sym (subst (λ ds. natural_of ds ≡ Some v) (take_all len bs (omega arith)) front)

pub returns-else-len-s-clause-value : goal.returns-else-len-s-clause-value
returns-else-len-s-clause-value c =
    let bs = c.args.s.now in
    let len : ℕ = c.front_natural-value.result.1 in
    let stop = c.front_natural-value.ensures.longest (omega arith) (omega arith) in
    sym (stopped len c.front_natural-value.result.0 bs (omega arith) c.front_natural-value.ensures.value stop)
