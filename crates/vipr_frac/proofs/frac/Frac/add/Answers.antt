use Rattle.std.proofs.Common.{◌≡◌, ◌↔◌}
use Rattle.std.specs.Prelude.{◌+ℤ◌, IsOk, IfOk}
use Rattle.vipr_spec.specs.Fraction.{◌+ℚ◌, SumFits}
use Rattle.vipr_frac.specs.Parts.{FitsSum}
use Rattle.vipr_frac.proofs.Sums.{sum-whole, FitsSum-whole, FitsSum-whole_back, SumFits-parts}
use Rattle.vipr_frac.proofs.Sums.{FitsSum-from, by_numerators, passed_both}
use Rattle.vipr_frac.proofs.Views.{whole_facts}
use Rattle.vipr_frac.proofs.frac.Frac.add.Goals as goal

pub returns-then-s-eq1 : goal.returns-then-s-eq1
returns-then-s-eq1 c =
    let a = whole_facts c.args.self _ _ c.parts-p.ensures.numer c.parts-p.ensures.denom
    c.parts-p.ensures.reduced c.if-q-eq1.true in
    let b = whole_facts c.args.other _ _ c.parts-r.ensures.numer c.parts-r.ensures.denom
    c.parts-r.ensures.reduced c.if-s-eq1.true in
    let h = by_numerators c.args.self c.args.other _ _ _ ◌+ℤ◌ (SumFits c.args.self c.args.other) _ a
    b (sum-whole _ _ a.whole b.whole) (
      λ h. SumFits-parts c.args.self c.args.other
          (FitsSum-whole _ _ a.whole b.whole a.bounded b.bounded h),
      λ f. FitsSum-whole_back _ _ a.whole b.whole (FitsSum-from c.args.self c.args.other f),
    )
    c.whole_sum.ensures.fits c.whole_sum.ensures.value in
    record { fits = h.0; value = h.1 }

pub returns : goal.returns
returns c =
    let h = passed_both (λ x y. (IsOk c.exact_sum.result ↔ FitsSum x y) × IfOk c.exact_sum.result
    (λ f. f ≡ x +ℚ y)) c.args.self c.args.other _ _ _ _ c.parts-p.ensures.numer
    c.parts-p.ensures.denom c.parts-p.ensures.reduced c.parts-r.ensures.numer
    c.parts-r.ensures.denom c.parts-r.ensures.reduced
    (c.exact_sum.ensures.fits, c.exact_sum.ensures.value) in
    record {
      fits = (
        λ ok. SumFits-parts c.args.self c.args.other (h.0.0 ok),
        λ f. h.0.1 (FitsSum-from c.args.self c.args.other f),
      );
      value = h.1;
    }
