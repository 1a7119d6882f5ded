use Rattle.std.proofs.Common.{ℕ, ◌≡◌, ◌<◌, ◌∙◌, ap, sym, subst, get_or, length, vec_items, All}
use Rattle.std.proofs.lemmas.List.Elements.{All-push}
use Rattle.vipr_spec.specs.Fraction.{ℚ, IsBounded}
use Rattle.vipr_linear.proofs.Marks.{kept, left_out}
use Rattle.vipr_linear.proofs.places.nonzero_sums.Goals as goal
use Rattle.vipr_linear.proofs.places.nonzero_sums.Goals.{then-not-is_zero+in_ok-push}
use Rattle.vipr_linear.proofs.places.nonzero_sums.Goals.{else-not-is_zero}

pub loop-variable-preserved : goal.loop-variable-preserved
loop-variable-preserved c =
    let is : c.value-sum.result ≡ get_or c.args.sums.now
    (get_or c.args.places.now c.loop-variable.variable-index 0) c.value-sum.result =
    subst (λ x. x ≡ get_or c.args.sums.now
    (get_or c.args.places.now c.loop-variable.variable-index 0) x) (sym c.value-sum.ensures)
    c.index-sums-variable.is in
    let within : get_or c.args.places.now c.loop-variable.variable-index 0 < length c.args.sums.now
    = c.requires c.loop-variable.variable-index 0 c.loop-variable-test.true in
    elim c.if-not-is_zero.branch [
      | then-not-is_zero+in_ok-push w ↦
          let z = w.if-not-is_zero.true in
          let it = w.in_ok-push.ensures.items in
          let items = ap vec_items w.entries-is ∙ it in
          record {
            kept = items ∙ kept c.args.sums.now c.args.places.now c.loop-variable.variable-index
                c.value-sum.result c.loop-variable-test.true within is _
                c.loop-variable.invariant.kept (sym c.is_zero.ensures.zero ∙ z);
            bounded = subst (All (λ (e : ℕ × ℚ). IsBounded e.1)) (sym items)
                (All-push (λ (e : ℕ × ℚ). IsBounded e.1) _ _ c.loop-variable.invariant.bounded
                c.is_zero.ensures.bounded);
          }
      | else-not-is_zero w ↦
          let z = w.if-not-is_zero.false in
          record {
            kept = ap vec_items w.entries-is
                ∙ left_out c.args.sums.now c.args.places.now c.loop-variable.variable-index
                c.value-sum.result c.loop-variable-test.true within is _
                c.loop-variable.invariant.kept (sym c.is_zero.ensures.zero ∙ z);
            bounded = subst (All (λ (e : ℕ × ℚ). IsBounded e.1)) (sym (ap vec_items w.entries-is))
                c.loop-variable.invariant.bounded;
          }
    ]
