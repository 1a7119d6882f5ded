use Rattle.std.proofs.Common.{◌≡◌, ℕ, ◌++◌, ◌∙◌, List, Result, Ok, Err, ap, sym}
use Rattle.std.specs.Prelude.{OnOk, if◌then◌else◌, is_ok}
use Rattle.std.specs.{FinSet.FinSet, FinSet.union, FinSet.from_list, Ordering.nat_cmp}
use Rattle.vipr_table.specs.{Sets.union_of_all, Unions.union_so_far}
use Rattle.vipr_table.proofs.{SetLemmas.union_none, UnionsLemmas.few_put}
use Rattle.vipr_table.proofs.assumptions.union.Union.add.Goals as goal

pub returns-then-is_empty-clause-union : goal.returns-then-is_empty-clause-union
returns-then-is_empty-clause-union c =
    let all = union_so_far c.args.self.now in
    union_none all ∙ ap (union all) (sym (c.is_empty.ensures.0 c.if-is_empty.true))

-- the indices of one more set wait with those of others
gathered : {A E : Type 0} (r : Result A E) (rest more : FinSet nat_cmp) (old few new : List ℕ)
    → new ≡ (if is_ok r then old ++ few else old) → from_list few ≡ more
    → OnOk r (union rest (from_list new) ≡ union (union rest (from_list old)) more)
gathered (Ok x) rest more old few new e f = ap (λ l. union rest (from_list l)) e
    ∙ few_put rest old few ∙ ap (union (union rest (from_list old))) f
gathered (Err d) rest more old few new e f = tt

pub returns-in-Some-clause-union : goal.returns-in-Some-clause-union
returns-in-Some-clause-union c =
    let old = c.args.self.now in
    gathered c.extend_from_slice.result (union (union_of_all old.below.items) old.last)
    c.args.more.now old.few.items c.in-Some.few.now _ c.extend_from_slice.ensures.items
    c.in-Some.ensures
