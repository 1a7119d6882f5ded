use Rattle.std.proofs.Common.{◌≡◌, ◌*◌, ◌∙◌, refl, subst, arith, FitsSigned, to_z, of_z}
use Rattle.std.specs.{Int.w64, Int.w128, Prelude.◌*ℤ◌}
use Rattle.std.proofs.lemmas.Int.{to_z-of_z, fits_signed_from_abs}
use Rattle.vipr_frac.proofs.OneDenominator.{IsShortProduct, short_product}
use Rattle.vipr_frac.proofs.Views.{as-is, passed-on}
use Rattle.vipr_frac.proofs.partial.Partial.add_product.Goals as goal
use Rattle.vipr_frac.proofs.partial.Partial.add_product.Goals.{After-from-then-are_short-2}

module _ (c : After-from-then-are_short-2) where
  p_back : to_z w128 (of_z w128 c.parts-p.result.0) ≡ c.parts-p.result.0
  p_back = as-is c.parts-p.result.0 c.parts-p.ensures.reduced.numer_bounded

  r_back : to_z w128 (of_z w128 c.parts-r.result.0) ≡ c.parts-r.result.0
  r_back = as-is c.parts-r.result.0 c.parts-r.ensures.reduced.numer_bounded

  p_word : FitsSigned w64 c.parts-p.result.0
  p_word = subst (λ z. FitsSigned w64 z) p_back (c.are_short.ensures.0 c.if-are_short.true).0

  r_word : FitsSigned w64 c.parts-r.result.0
  r_word = subst (λ z. FitsSigned w64 z) r_back (c.are_short-then-are_short.ensures.0 c.if-are_short-2.true).0

  p_is : to_z w128 (of_z w128 c.from.result) ≡ c.parts-p.result.0
  p_is = to_z-of_z w128 c.from.result (record { sfits = c.from.type_inv }) ∙ c.from.ensures
      ∙ rw p_back (to_z-of_z w64 c.parts-p.result.0 p_word)

  r_is : to_z w128 (of_z w128 c.from-then-are_short-2.result) ≡ c.parts-r.result.0
  r_is = to_z-of_z w128 c.from-then-are_short-2.result
      (record { sfits = c.from-then-are_short-2.type_inv }) ∙ c.from-then-are_short-2.ensures
      ∙ rw r_back (to_z-of_z w64 c.parts-r.result.0 r_word)

  short : IsShortProduct c.args.multiplier c.args.coefficient
      (c.parts-p.result.0 *ℤ c.parts-r.result.0) (c.parts-p.result.1 * c.parts-r.result.1)
  short = short_product _ _ _ _ _ _ _ _ c.parts-p.ensures.numer c.parts-p.ensures.denom
      c.parts-r.ensures.numer c.parts-r.ensures.denom p_word r_word
      (c.are_short.ensures.0 c.if-are_short.true).1
      (c.are_short-then-are_short.ensures.0 c.if-are_short-2.true).1 refl refl

  fits : FitsSigned w128 (c.parts-p.result.0 *ℤ c.parts-r.result.0)
  fits = fits_signed_from_abs w128 _ (let h = short.numer in omega arith)

pub overflow_mul-numer : goal.overflow_mul-numer
overflow_mul-numer c = rw (p_is c, r_is c) (fits c)

pub add_short-requires-clause-numer : goal.add_short-requires-clause-numer
add_short-requires-clause-numer c =
    let k = (goal.at.add_short-requires-clause-numer c).After-from-then-are_short-2 in
    rw (p_is k, r_is k, to_z-of_z w128 _ (fits k)) (short k).numer

pub overflow_mul-denom : goal.overflow_mul-denom
overflow_mul-denom c = let h = (short c).denom in omega arith

pub add_short-requires-clause-denom : goal.add_short-requires-clause-denom
add_short-requires-clause-denom c =
    let k = (goal.at.add_short-requires-clause-denom c).After-from-then-are_short-2 in
    (short k).denom

pub returns-then-add_short-clause-fits : goal.returns-then-add_short-clause-fits
returns-then-add_short-clause-fits c =
    let k = (goal.at.returns-then-add_short-clause-fits c).After-from-then-are_short-2 in
    let h = rw (p_is k, r_is k, to_z-of_z w128 _ (fits k), (short k).product) at c.add_short.ensures.fits in
    (λ _. ((short k).fits, h c.if-add_short.true), λ _. refl)

pub returns-then-add_short-clause-sum : goal.returns-then-add_short-clause-sum
returns-then-add_short-clause-sum c =
    let k = (goal.at.returns-then-add_short-clause-sum c).After-from-then-are_short-2 in
    let h = rw (p_is k, r_is k, to_z-of_z w128 _ (fits k), (short k).product) at c.add_short.ensures.sum in
    h c.if-add_short.true

-- the parts that are passed on are those of the factors
pub returns-else-add_short : goal.returns-else-add_short
returns-else-add_short c =
    let left = passed-on c.args.multiplier _ _ c.parts-p.ensures.numer c.parts-p.ensures.denom
    c.parts-p.ensures.reduced in
    let right = passed-on c.args.coefficient _ _ c.parts-r.ensures.numer c.parts-r.ensures.denom
    c.parts-r.ensures.reduced in
    let h = rw (left, right, c.add_short.ensures.kept c.if-add_short.false) at c.add_exact.ensures in
    record { fits = h.fits; sum = h.sum; kept = h.kept }
