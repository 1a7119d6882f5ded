use Rattle.std.proofs.Common.{◌≡◌, ◌↔◌}
use Rattle.std.specs.Prelude.{◌*ℤ◌, IsOk, IfOk}
use Rattle.vipr_spec.specs.Fraction.{◌*ℚ◌, ProductFits}
use Rattle.vipr_frac.proofs.Sums.{product-whole, ProductFits-whole, ProductFits-whole_back}
use Rattle.vipr_frac.proofs.Sums.{by_numerators, passed_both}
use Rattle.vipr_frac.proofs.Views.{whole_facts}
use Rattle.vipr_frac.proofs.frac.Frac.mul.Goals as goal

pub returns-then-s-eq1 : goal.returns-then-s-eq1
returns-then-s-eq1 c =
    let a = whole_facts c.args.self _ _ c.parts-p.ensures.numer c.parts-p.ensures.denom
    c.parts-p.ensures.reduced c.if-q-eq1.true in
    let b = whole_facts c.args.other _ _ c.parts-r.ensures.numer c.parts-r.ensures.denom
    c.parts-r.ensures.reduced c.if-s-eq1.true in
    let h = by_numerators c.args.self c.args.other _ _ _ ◌*ℤ◌ (ProductFits c.args.self c.args.other)
    _ a b (product-whole _ _ a.whole b.whole) (
      ProductFits-whole _ _ a.whole b.whole,
      ProductFits-whole_back _ _ a.whole b.whole,
    ) c.whole_product.ensures.fits
    c.whole_product.ensures.value in
    record { fits = h.0; value = h.1 }

pub returns : goal.returns
returns c =
    let h = passed_both (λ x y. (IsOk c.exact_product.result ↔ ProductFits x y)
    × IfOk c.exact_product.result (λ f. f ≡ x *ℚ y)) c.args.self c.args.other _ _ _ _
    c.parts-p.ensures.numer c.parts-p.ensures.denom c.parts-p.ensures.reduced
    c.parts-r.ensures.numer c.parts-r.ensures.denom c.parts-r.ensures.reduced
    (c.exact_product.ensures.fits, c.exact_product.ensures.value) in
    record { fits = h.0; value = h.1 }
