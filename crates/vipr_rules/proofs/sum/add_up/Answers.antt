use Rattle.std.proofs.Common.{◌+◌, [], ◌∷◌, ◌++◌, Some, None, take, length, sym, ◌∙◌, ap, subst}
use Rattle.std.proofs.Common.{refl, inl, inr}
use Rattle.std.proofs.{lemmas.List.length-replicate, lemmas.Result.err_from_is_err_and}
use Rattle.std.specs.Prelude.{flat_map, IsTrue}
use Rattle.std.specs.{FinSet.FinSet, FinSet.contains, Ordering.nat_cmp}
use Rattle.vipr_spec.specs.Constraint.{condition, IsTrueAt}
use Rattle.vipr_spec.specs.Steps.{PassesStep, FirstFailing, reference_tests, entry_tests, sum_tests}
use Rattle.vipr_spec.specs.Steps.{IsSum}
use Rattle.vipr_spec.specs.{Certificate.variables, Certificate.entries, Fraction.zero_ℚ}
use Rattle.vipr_spec.proofs.Laws.{not_zero}
use Rattle.vipr_linear.specs.Accumulator.{Accumulator, Holds, nothing_added, held_condition}
use Rattle.vipr_linear.specs.{Constraint.condition_of, declared.constraint.Constraint.Constraint}
use Rattle.vipr_linear.proofs.Laws.{zero_test, start_held, held_sum}
use Rattle.vipr_rules.specs.Context.{IsSetOfAll, set_of, set_found}
use Rattle.vipr_rules.specs.Apply.{PassesTestsIn, SumStops}
use Rattle.vipr_rules.proofs.EntryTests.{one_more, take_all, entry_passes, sum_stops}
use Rattle.vipr_rules.proofs.EntryTests.{references_more, reference_fails, references_rest, to_end}
use Rattle.vipr_rules.proofs.StepLemmas.{stops_first, stops_second, passes_both}
use Rattle.vipr_rules.proofs.SumLemmas.{entries_more, unused_held, IsTrueSum, nothing_true}
use Rattle.vipr_rules.proofs.SumLemmas.{more_true, sum_is_true}
use Rattle.vipr_rules.proofs.UnionLemmas.{IsSetOfAll-none, without_it, with_it}
use Rattle.vipr_table.specs.Unions.{union_so_far}
use Rattle.vipr_rules.proofs.SoundLemmas.{true_left, true_right}
use Rattle.vipr_rules.proofs.JoinedLemmas.{joined_more, union_within}
use Rattle.vipr_rules.proofs.sum.add_up.Goals as goal

pub loop-position-init : goal.loop-position-init
unfolding entry_tests
loop-position-init g c =
    let cleared = c.clear.ensures ∙ ap nothing_added c.requires.variables in
    record {
      places = ap (λ (a : Accumulator). length a.sums) cleared
          ∙ length-replicate (variables c.args.context.now.problem.now) zero_ℚ;
      fresh = ap (λ (a : Accumulator). a.spent) cleared;
      sum = λ P d e is. (
        refl,
        refl,
        subst (Holds (variables c.args.context.now.problem.now) []) (sym cleared)
            (start_held (variables c.args.context.now.problem.now)),
        subst (IsSetOfAll d []) (sym c.requires.none) (IsSetOfAll-none d),
      );
      sound = λ says x at h. subst (IsTrueSum (variables c.args.context.now.problem.now) x)
          (sym cleared) (nothing_true (variables c.args.context.now.problem.now) x);
      joined = λ i is. absurd (let none = c.requires.not_noted i in cc);
    }

pub loop-position-preserved : goal.loop-position-preserved
loop-position-preserved g c =
    let n = variables c.args.context.now.problem.now in
    let e = c.index-entries-position.result in
    let item = c.index-entries-position.is in
    let lt = c.loop-position-test.true in
    let known = c.in-Some.known in
    let new = c.add_multiple.new.scratch in record {
      places = c.add_multiple.ensures.variables ∙ c.loop-position.invariant.places;
      fresh = c.in_default-add_multiple.ensures.fresh;
      sum = λ P d s is.
          let so_far = c.loop-position.invariant.sum P d s is in
          let found = c.in_ok-known.ensures.known P d s is in
          let used = rw c.in-Some.is at found.1 in
          let more = one_more _ _ _ lt item in
          let says = ap condition_of c.constraint.ensures ∙ used.1.says in
          let added = c.in_default-add_multiple.ensures.sum n _ so_far.2 in
          let held = subst (λ l. Holds n l new)
          (sym (entries_more d (take c.loop-position.position c.args.entries.now) e
          (condition_of c.constraint.result.now) says)) added in (
            references_more (PassesStep P d (condition s.stated)) _ _ _ lt item None so_far.0 found.0,
            entry_passes (PassesStep P d (condition s.stated)) _ _ _ lt item so_far.1
                (new.sense, held.sense_is) held.fits,
            subst (λ l. Holds n (entries d l) new) (sym more) held,
            subst (λ l. IsSetOfAll d l (union_so_far c.join.new.assumptions)) (sym more)
                (subst (IsSetOfAll d (take c.loop-position.position c.args.entries.now ++ e ∷ []))
                (sym c.in_ok-join.ensures.union)
                (with_it d (take c.loop-position.position c.args.entries.now) e
                (union_so_far c.loop-position.assumptions) so_far.3 (not_zero e.1 used.0)
                (set_of known) used.1.rests)),
          );
      sound = λ says x here h.
          let sound = rw c.in-Some.is at c.in_ok-known.ensures.sound in
          let so_far = c.loop-position.invariant.sound says x here
          (true_left n says x (union_so_far c.loop-position.assumptions) (set_of known)
          (union_so_far c.join.new.assumptions) c.in_ok-join.ensures.union h) in
          more_true n x c.loop-position.scratch new (e.1, condition_of c.constraint.result.now)
          so_far (c.in_default-add_multiple.ensures.sum n so_far.es so_far.held)
          (subst (λ (r : Constraint). IsTrueAt n (condition_of r) x) (sym c.constraint.ensures)
          (sound says x here
          (true_right n says x (union_so_far c.loop-position.assumptions) (set_of known)
          (union_so_far c.join.new.assumptions) c.in_ok-join.ensures.union h)));
      joined = joined_more (set_found g.S.Rows.table c.args.context.now) e.0
          c.loop-position.assumptions c.join.new.assumptions
          (set_of known) c.loop-position.invariant.joined
          (rw c.in-Some.is at c.in_ok-known.ensures.set) c.in_ok-join.ensures.union
          c.in_ok-join.ensures.noted;
    }

pub join-requires : goal.join-requires
join-requires g c = λ noted.
    let found = rw c.in-Some.is at c.in_ok-known.ensures.set in
    union_within (union_so_far c.loop-position.assumptions) _
    (λ a has. c.loop-position.invariant.joined _ noted a
    (subst (λ (s : FinSet nat_cmp). IsTrue (contains s a)) found has))

pub loop-position-preserved-in_default : goal.loop-position-preserved-in_default
loop-position-preserved-in_default g c =
    let n = variables c.args.context.now.problem.now in
    let e = c.index-entries-position.result in
    let item = c.index-entries-position.is in
    let lt = c.loop-position-test.true in record {
      places = c.loop-position.invariant.places;
      fresh = c.loop-position.invariant.fresh;
      sum = λ P d s is.
          let so_far = c.loop-position.invariant.sum P d s is in
          let found = c.in_ok-known.ensures.known P d s is in
          let unused = rw c.in_default.is at found.1 in
          let more = one_more _ _ _ lt item in
          let none = zero_test e.1 unused in
          let held = unused_held d (take c.loop-position.position c.args.entries.now) e n
          c.loop-position.scratch so_far.2 none in (
            references_more (PassesStep P d (condition s.stated)) _ _ _ lt item None so_far.0 found.0,
            entry_passes (PassesStep P d (condition s.stated)) _ _ _ lt item so_far.1
                (c.loop-position.scratch.sense, held.sense_is) held.fits,
            subst (λ l. Holds n (entries d l) c.loop-position.scratch) (sym more) held,
            subst (λ l. IsSetOfAll d l (union_so_far c.loop-position.assumptions)) (sym more)
                (without_it d (take c.loop-position.position c.args.entries.now) e
                (union_so_far c.loop-position.assumptions) so_far.3 (λ m. absurd (m none))),
          );
      sound = c.loop-position.invariant.sound;
      joined = c.loop-position.invariant.joined;
    }

pub returns-in_err-known-clause-sum : goal.returns-in_err-known-clause-sum
returns-in_err-known-clause-sum g c = λ P d s is.
    let so_far = c.loop-position.invariant.sum P d s is in
    let stops = c.in_err-known.ensures.known P d s is in
    let p = err_from_is_err_and c.from_residual.result c.from_residual.ensures.1 in
    rw (p.1, p.2)
    (inr (stops_first P d s (flat_map reference_tests c.args.entries.now) (entry_tests [] c.args.entries.now) _ (
      stops.0,
      reference_fails (PassesStep P d (condition s.stated)) _ _ _ c.loop-position-test.true
          c.index-entries-position.is stops.0 so_far.0 stops.1,
      stops.2,
    )))

pub returns-in-Err-clause-sum : goal.returns-in-Err-clause-sum
returns-in-Err-clause-sum g c = λ P d s is.
    let so_far = c.loop-position.invariant.sum P d s is in
    let e = c.index-entries-position.result in
    let item = c.index-entries-position.is in
    let lt = c.loop-position-test.true in
    let found = c.in_ok-known.ensures.known P d s is in
    let used = rw c.in-Some.is at found.1 in
    let before = references_more (PassesStep P d (condition s.stated)) _ _ _ lt item None so_far.0 found.0 in
    let says = ap condition_of c.constraint.ensures ∙ used.1.says in
    let stops =
    subst (λ l. SumStops l c.loop-position.position c.in-Err.error)
    (sym (entries_more d (take c.loop-position.position c.args.entries.now) e
    (condition_of c.constraint.result.now) says))
    (c.in-Err.ensures.sum (variables c.args.context.now.problem.now) _ so_far.2) in
    elim (c.first_error.ensures P d s is) [
      | inl same ↦
          let rest = subst (λ l. PassesTestsIn P d s (flat_map reference_tests l))
          (to_end c.args.entries.now (c.loop-position.position + 1)) same.1 in
          let all = references_rest (PassesStep P d (condition s.stated)) c.args.entries.now
          (c.loop-position.position + 1) None before rest in
          rw same.0 (inr (stops_second P d s (flat_map reference_tests c.args.entries.now)
          (entry_tests [] c.args.entries.now) _ all
          (sum_stops P d s c.args.entries.now c.loop-position.position e c.in-Err.error lt item so_far.1 stops)))
      | inr refused ↦
          let rest = subst
          (λ l. FirstFailing (PassesStep P d (condition s.stated)) (flat_map reference_tests l)
          (Some refused.0)) (to_end c.args.entries.now (c.loop-position.position + 1))
          refused.1 in
          inr (stops_first P d s (flat_map reference_tests c.args.entries.now) (entry_tests [] c.args.entries.now) _ (
            refused.0,
            references_rest (PassesStep P d (condition s.stated)) c.args.entries.now
                (c.loop-position.position + 1) (Some refused.0) before rest,
            refused.2,
          ))
    ]

pub returns-clause-sum : goal.returns-clause-sum
returns-clause-sum g c = λ P d s is.
    let so_far = c.loop-position.invariant.sum P d s is in
    let all = take_all c.args.entries.now c.loop-position.position c.loop-position-test.false in
    let sum = held_sum (variables c.args.context.now.problem.now)
    (entries d (take c.loop-position.position c.args.entries.now)) c.loop-position.scratch
    so_far.2 in (
      subst (λ l. PassesTestsIn P d s (sum_tests l)) all
          (passes_both P d s
          (flat_map reference_tests (take c.loop-position.position c.args.entries.now))
          (entry_tests [] (take c.loop-position.position c.args.entries.now)) so_far.0
          so_far.1),
      subst (λ l. IsSum d l (held_condition c.loop-position.scratch)) all (_, sum.0, sum.1),
      subst (λ l. IsSetOfAll d l (union_so_far c.loop-position.assumptions)) all so_far.3,
    )

pub returns-clause-sound : goal.returns-clause-sound
returns-clause-sound g c = λ says x here h.
    let n = variables c.args.context.now.problem.now in
    sum_is_true n x c.loop-position.scratch (c.loop-position.invariant.sound says x here h)
