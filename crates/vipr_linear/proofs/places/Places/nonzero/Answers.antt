use Rattle.std.proofs.Common.{◌≡◌, ◌∙◌, sym, ap, ap₂, subst, get_or, map, filter, All}
use Rattle.std.specs.FinMap.{from_sorted}
use Rattle.vipr_spec.specs.{Constraint.at, Fraction.zero_ℚ, Fraction.IsBounded, Reading.is_nonzero}
use Rattle.vipr_linear.specs.Row.{AreEntries, RisesFrom}
use Rattle.vipr_linear.specs.Touched.{AreCovered, HasRowEntries}
use Rattle.vipr_linear.proofs.Marks.{pick}
use Rattle.vipr_linear.proofs.Collecting.{touched_sorted, touched_within, collected_rises}
use Rattle.vipr_linear.proofs.Collecting.{collected_at, rising_of_touched, both_ok}
use Rattle.vipr_linear.proofs.places.Places.nonzero.Goals as goal

pub nonzero_sums-requires : goal.nonzero_sums-requires
nonzero_sums-requires c =
    let kept = touched_sorted _ _ _ _ _ c.sort_unstable.ensures.permutation
    c.sort_unstable.ensures.capacity c.touched.invariant in
    let covered = subst (AreCovered c.self.inside.sums.items) (sym c.touched.view_is) c.self.invariant in
    rw (c.as_slice.ensures.value, c.deref.ensures.value) (touched_within _ _ _ covered.places kept.touching)

pub invariant_of-touched : goal.invariant_of-touched
invariant_of-touched c = touched_sorted _ _ _ _ _ c.sort_unstable.ensures.permutation
    c.sort_unstable.ensures.capacity c.touched.invariant

pub returns-clause-entries : goal.returns-clause-entries
returns-clause-entries c =
    let kept = touched_sorted _ _ _ _ _ c.sort_unstable.ensures.permutation
    c.sort_unstable.ensures.capacity c.touched.invariant in
    let rising = rising_of_touched _ _ c.sort_unstable.ensures.sorted kept.touching in
    let list = ap₂ (λ xs ys. filter is_nonzero (map (pick xs) ys)) c.deref.ensures.value c.as_slice.ensures.value in
    both_ok c.nonzero_sums.result
    (λ v. v.items ≡ filter is_nonzero (map (pick c.deref.result.now) c.as_slice.result.now))
    (λ v. All (λ e. IsBounded e.1) v.items) (λ v. AreEntries v.items)
    (λ v is b. record {
      rising = subst (RisesFrom 0) (sym (is ∙ list))
          (collected_rises c.self.inside.sums.items c.sort_unstable.new.self.items rising);
      bounded = b;
    })
    c.nonzero_sums.ensures.kept c.nonzero_sums.ensures.bounded

pub returns-clause-sums : goal.returns-clause-sums
returns-clause-sums c =
    let kept = touched_sorted _ _ _ _ _ c.sort_unstable.ensures.permutation
    c.sort_unstable.ensures.capacity c.touched.invariant in
    let covered = subst (AreCovered c.self.inside.sums.items) (sym c.touched.view_is) c.self.invariant in
    let rising = rising_of_touched _ _ c.sort_unstable.ensures.sorted kept.touching in
    let list = ap₂ (λ xs ys. filter is_nonzero (map (pick xs) ys)) c.deref.ensures.value c.as_slice.ensures.value in
    both_ok c.nonzero_sums.result
    (λ v. v.items ≡ filter is_nonzero (map (pick c.deref.result.now) c.as_slice.result.now))
    (λ v. All (λ e. IsBounded e.1) v.items) (λ v. HasRowEntries c.args.self.now v.items)
    (λ v is b j. ap (λ es. at (from_sorted es) j) (is ∙ list)
    ∙ collected_at c.self.inside.sums.items c.touched.inside.marks.items
    c.sort_unstable.new.self.items kept.touching covered.covers rising j
    ∙ ap (λ xs. get_or xs j zero_ℚ) c.self.view_is)
    c.nonzero_sums.ensures.kept c.nonzero_sums.ensures.bounded
