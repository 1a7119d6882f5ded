use Rattle.std.proofs.Common.{rules, ◌≡◌, ◌≤◌, ◌∙◌, refl, ap, subst, arith, pos, FitsSigned, lit≤}
use Rattle.std.proofs.Common.{to_z, of_z}
use Rattle.std.proofs.{Math.Nat.le_trans, lemmas.Int.to_z-of_z}
use Rattle.std.specs.{Int.w64, Int.w128, Int.int_wrapping_add, Prelude.unsigned_abs}
use Rattle.vipr_spec.specs.Fraction.{over, most}
use Rattle.vipr_frac.proofs.{OneDenominator.sum_by_equal, OneDenominator.sum_from_zero, Views.as-is}
use Rattle.vipr_frac.proofs.partial.add_short.Goals as goal

pub returns-then-is_word : goal.returns-then-is_word
returns-then-is_word c =
    let p = c.sum.inside.p in
    let t = c.args.p in
    let s = int_wrapping_add w128 p t in
    let same : c.sum.inside.q ≡ c.args.q = omega arith in
    let word : FitsSigned w64 s = c.is_word.ensures.0 c.if-is_word.true in
    let both = sum_by_equal c.args.sum.now p t s c.sum.inside.q c.args.q c.sum.view_is same
    c.requires.some c.requires.denom c.sum.invariant.numer_bounded c.requires.numer refl word in
    record { fits = λ _. both.0; sum = λ _. ap (over s) same ∙ both.1; kept = search rules }

pub returns-then-sum-eq0 : goal.returns-then-sum-eq0
returns-then-sum-eq0 c =
    let p = c.sum.inside.p in
    let t = c.args.p in
    let back : to_z w128 (of_z w128 p) ≡ p = as-is p c.sum.invariant.numer_bounded in
    let zero : p ≡ pos 0 = let e = c.if-sum-eq0.true in cc in
    let small : unsigned_abs t ≤ most = le_trans c.requires.numer (lit≤ tt) in
    let given : FitsSigned w64 (to_z w128 (of_z w128 t)) = search rules in
    let word : FitsSigned w64 t = subst (λ z. FitsSigned w64 z) (as-is t small) given in
    let both = sum_from_zero c.args.sum.now p t c.sum.inside.q c.args.q c.sum.view_is
    c.sum.invariant.some zero c.requires.some c.requires.denom c.requires.numer word in
    record {
      fits = λ _. both.0;
      sum = λ _. rw (as-is t small, c.from-then-sum-eq0.ensures) both.1;
      kept = search rules;
    }

pub returns-clause-fits : goal.returns-clause-fits
returns-clause-fits c =
    let t = c.args.p in
    let small : unsigned_abs t ≤ most = le_trans c.requires.numer (lit≤ tt) in
    let given : FitsSigned w64 (to_z w128 (of_z w128 t)) = search rules in
    let word : FitsSigned w64 t = subst (λ z. FitsSigned w64 z) (as-is t small) given in
    rw (as-is t small, to_z-of_z w64 t word) at c.add_words.ensures.fits
