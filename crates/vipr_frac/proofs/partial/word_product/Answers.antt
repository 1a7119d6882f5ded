use Rattle.std.proofs.Common.{rules, ◌≡◌, refl, subst, ◌∙◌, FitsSigned}
use Rattle.std.specs.Int.{w64, w128}
use Rattle.std.proofs.lemmas.Int.{to_z-of_z}
use Rattle.vipr_spec.specs.Fraction.{over}
use Rattle.vipr_frac.specs.Parts.{IsSmall, AreWords}
use Rattle.vipr_frac.proofs.Unreduced.{word_abs, small_over, product_of}
use Rattle.vipr_frac.proofs.partial.word_product.Goals.{After-pair_product}
use Rattle.vipr_frac.proofs.{Small.small_product_fits, Sums.ProductFits-parts, Views.facts}
use Rattle.vipr_frac.proofs.partial.word_product.Goals as goal

module _ (c : After-pair_product) where
  left_words : AreWords c.args.p c.args.q
  left_words = subst (λ z. AreWords z c.args.q) (to_z-of_z w128 c.args.p c.ranges.p) c.in_ok-p.ensures.0

  right_words : AreWords c.args.r c.args.s
  right_words = subst (λ z. AreWords z c.args.s) (to_z-of_z w128 c.args.r c.ranges.r) c.in_ok-r.ensures.0

  left_small : IsSmall (over c.args.p c.args.q)
  left_small = small_over _ _ c.requires.left.lowest.positive (word_abs _ left_words.numer) left_words.denom

  right_small : IsSmall (over c.args.r c.args.s)
  right_small = small_over _ _ c.requires.right.lowest.positive (word_abs _ right_words.numer) right_words.denom

pub returns-clause-fits : goal.returns-clause-fits
returns-clause-fits c =
    let k = (goal.at.returns-clause-fits c).After-pair_product in
    λ _. ProductFits-parts _ _ (small_product_fits _ _ (left_small k) (right_small k))

pub returns-clause-product : goal.returns-clause-product
returns-clause-product c =
    let a = facts (over c.args.p c.args.q) c.args.p c.args.q refl c.requires.left in
    let b = facts (over c.args.r c.args.s) c.args.r c.args.s refl c.requires.right in
    let p_fits : FitsSigned w64 c.in_ok-p.p = search rules in
    let r_fits : FitsSigned w64 c.in_ok-r.r = search rules in
    let p_is : c.in_ok-p.p ≡ (over c.args.p c.args.q).numer = c.in_ok-p.ensures.1
    ∙ to_z-of_z w128 c.args.p c.ranges.p ∙ a.numer in
    let r_is : c.in_ok-r.r ≡ (over c.args.r c.args.s).numer = c.in_ok-r.ensures.1
    ∙ to_z-of_z w128 c.args.r c.ranges.r ∙ b.numer in
    let h = rw (to_z-of_z w64 c.in_ok-p.p p_fits, to_z-of_z w64 c.in_ok-r.r r_fits) at c.pair_product.ensures in
    product_of _ _ c.in_ok-p.p c.in_ok-r.r c.in_ok-p.q c.in_ok-r.s c.pair_product.result p_is
    (c.in_ok-p.ensures.2 ∙ a.denom) r_is (c.in_ok-r.ensures.2 ∙ b.denom) h
