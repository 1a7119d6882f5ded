use Rattle.std.proofs.Common.{[], ◌∷◌, ◌++◌, None, take, sym, subst, refl, inl, inr}
use Rattle.std.proofs.lemmas.Result.{err_from_is_err_and, IfOk-weaker, MatchResult-weaker}
use Rattle.std.specs.Prelude.{flat_map, IsTrue}
use Rattle.std.specs.{FinSet.FinSet, FinSet.contains, Ordering.nat_cmp}
use Rattle.vipr_spec.specs.{Constraint.condition, Steps.PassesStep, Steps.reference_tests}
use Rattle.vipr_spec.proofs.Laws.{not_zero}
use Rattle.vipr_linear.proofs.Laws.{zero_test}
use Rattle.vipr_rules.specs.Context.{IsSetOfAll, set_of, set_found}
use Rattle.vipr_rules.specs.Apply.{PassesTestsIn}
use Rattle.vipr_rules.proofs.EntryTests.{one_more, take_all, references_more, reference_fails}
use Rattle.vipr_rules.proofs.UnionLemmas.{IsSetOfAll-none, without_it, with_it}
use Rattle.vipr_rules.proofs.StepLemmas.{found_or_memory}
use Rattle.vipr_rules.proofs.JoinedLemmas.{joined_more, union_within}
use Rattle.vipr_table.specs.Unions.{union_so_far}
use Rattle.vipr_rules.proofs.sum.assumptions_of_sum.Goals as goal

pub loop-entry-init : goal.loop-entry-init
loop-entry-init g c = record {
  sum = λ P d e is. (refl, subst (IsSetOfAll d []) (sym c.new-assumptions.ensures.none) (IsSetOfAll-none d));
  joined = λ i is. absurd (let none = c.new-assumptions.ensures.not_noted i in cc);
}

pub returns-in_err-used : goal.returns-in_err-used
returns-in_err-used g c = λ P d e is.
    let stops = c.in_err-used.ensures.known P d e is in
    let p = err_from_is_err_and c.from_residual.result c.from_residual.ensures.1 in
    rw (p.1, p.2)
    (inr (
      stops.0,
      reference_fails (PassesStep P d (condition e.stated)) _ _ _
          c.loop-entry-test.true c.entry-item.is stops.0 (c.loop-entry.invariant.sum P d e is).0
          stops.1,
      stops.2,
    ))

pub join-requires : goal.join-requires
join-requires g c = λ noted.
    let found = rw c.in-Some.is at c.in_ok-used.ensures.set in
    union_within (union_so_far c.loop-entry.assumptions) _
    (λ a has. c.loop-entry.invariant.joined _ noted a
    (subst (λ (s : FinSet nat_cmp). IsTrue (contains s a)) found has))

pub loop-entry-preserved : goal.loop-entry-preserved
loop-entry-preserved g c =
    let e = c.entry-item.result in
    let before = take c.loop-entry.entry-index c.args.entries.now in record {
      sum = λ P d s is.
          let so_far = c.loop-entry.invariant.sum P d s is in
          let found = c.in_ok-used.ensures.known P d s is in
          let known = rw c.in-Some.is at found.1 in (
            references_more (PassesStep P d (condition s.stated)) _ _ _ c.loop-entry-test.true
                c.entry-item.is None so_far.0 found.0,
            subst (λ l. IsSetOfAll d l (union_so_far c.join.new.assumptions))
                (sym (one_more _ _ _ c.loop-entry-test.true c.entry-item.is))
                (subst (IsSetOfAll d (before ++ e ∷ [])) (sym c.in_ok-join.ensures.union)
                (with_it d before e (union_so_far c.loop-entry.assumptions) so_far.1
                (not_zero e.1 known.0) (set_of c.in-Some.used) known.1.rests)),
          );
      joined = joined_more (set_found g.S.Rows.table c.args.context.now) e.0
          c.loop-entry.assumptions c.join.new.assumptions (set_of c.in-Some.used)
          c.loop-entry.invariant.joined (rw c.in-Some.is at c.in_ok-used.ensures.set)
          c.in_ok-join.ensures.union c.in_ok-join.ensures.noted;
    }

pub loop-entry-preserved-in_default : goal.loop-entry-preserved-in_default
loop-entry-preserved-in_default g c =
    let e = c.entry-item.result in
    let before = take c.loop-entry.entry-index c.args.entries.now in record {
      sum = λ P d s is.
          let so_far = c.loop-entry.invariant.sum P d s is in
          let found = c.in_ok-used.ensures.known P d s is in
          let none = zero_test e.1 (rw c.in_default.is at found.1) in (
            references_more (PassesStep P d (condition s.stated)) _ _ _ c.loop-entry-test.true
                c.entry-item.is None so_far.0 found.0,
            subst (λ l. IsSetOfAll d l (union_so_far c.loop-entry.assumptions))
                (sym (one_more _ _ _ c.loop-entry-test.true c.entry-item.is))
                (without_it d before e (union_so_far c.loop-entry.assumptions) so_far.1
                (λ m. absurd (m none))),
          );
      joined = c.loop-entry.invariant.joined;
    }

pub returns : goal.returns
returns g c = λ P d e is.
    let so_far = c.loop-entry.invariant.sum P d e is in
    let all = take_all c.args.entries.now c.loop-entry.entry-index c.loop-entry-test.false in
    let set = IsSetOfAll d c.args.entries.now in
    let whole = subst (λ l. IsSetOfAll d l (union_so_far c.loop-entry.assumptions)) all so_far.1 in
    let found = found_or_memory c.finish.result c.or_memory.result set c.or_memory.ensures
    (IfOk-weaker c.finish.result _ _ (λ s same. subst set (sym same) whole) c.finish.ensures) in
    MatchResult-weaker c.or_memory.result found
    (λ s set. (subst (λ l. PassesTestsIn P d e (flat_map reference_tests l)) all so_far.0, set))
    (λ e memory. inl memory)
