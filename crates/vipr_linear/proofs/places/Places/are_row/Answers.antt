use Rattle.std.proofs.Common.{◌∙◌, sym, ap, subst, get_or}
use Rattle.std.proofs.lemmas.Bool.{false≢true}
use Rattle.vipr_spec.specs.Fraction.{zero_ℚ}
use Rattle.vipr_linear.specs.Touched.{Covers}
use Rattle.vipr_linear.proofs.Counting.{row_counted, same_test}
use Rattle.vipr_linear.proofs.{Collecting.touched_within, Rows.exact}
use Rattle.vipr_linear.proofs.places.Places.are_row.Goals as goal

pub count_nonzero-requires : goal.count_nonzero-requires
count_nonzero-requires c = rw c.as_slice-sums.ensures.value
    (touched_within c.self.inside.sums.items c.self.inside.touched c.places-places.result.now
    c.self.invariant.places c.places-places.ensures)

pub returns-then-have_each : goal.returns-then-have_each
returns-then-have_each c =
    let sums = c.as_slice-sums.ensures.value ∙ c.self.view_is in
    let covers = subst (λ xs. Covers xs c.self.inside.touched) (sym c.as_slice-sums.ensures.value)
    c.self.invariant.covers in
    let same = row_counted c.as_slice-sums.result.now c.self.inside.touched
    c.places-places.result.now c.places-places.ensures covers c.args.row.now
    c.entries-entries.result.now c.entries-entries.ensures.list c.entries-entries.ensures.rising
    in (
      λ t j. ap (λ xs. get_or xs j zero_ℚ) (sym sums)
          ∙ same.0 (
            c.have_each.ensures.0 c.if-have_each.true,
            sym c.count_nonzero.ensures
                ∙ exact _ _ t,
          ) j,
      λ h. same_test _ _ (c.count_nonzero.ensures ∙ (same.1 (λ j. ap (λ xs. get_or xs j zero_ℚ) sums ∙ h j)).1),
    )

pub returns-else-have_each : goal.returns-else-have_each
returns-else-have_each c =
    let sums = c.as_slice-sums.ensures.value ∙ c.self.view_is in
    let covers = subst (λ xs. Covers xs c.self.inside.touched) (sym c.as_slice-sums.ensures.value)
    c.self.invariant.covers in
    let same = row_counted c.as_slice-sums.result.now c.self.inside.touched
    c.places-places.result.now c.places-places.ensures covers c.args.row.now
    c.entries-entries.result.now c.entries-entries.ensures.list c.entries-entries.ensures.rising
    in (
      λ t. absurd (false≢true (sym c.if-have_each.false ∙ t)),
      λ h. absurd (false≢true (sym c.if-have_each.false
          ∙ c.have_each.ensures.1 (same.1 (λ j. ap (λ xs. get_or xs j zero_ℚ) sums ∙ h j)).0)),
    )
