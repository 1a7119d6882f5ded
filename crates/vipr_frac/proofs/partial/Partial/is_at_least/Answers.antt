use Rattle.std.proofs.Common.{rules, ◌≡◌, ◌∙◌, sym, subst, FitsSigned, to_z, of_z}
use Rattle.std.specs.{Int.w64}
use Rattle.std.proofs.lemmas.Int.{to_z-of_z}
use Rattle.vipr_spec.specs.Fraction.{◌≤ℚ◌}
use Rattle.vipr_spec.proofs.Laws.{is_over, is_self, le_in, le_out}
use Rattle.vipr_frac.proofs.Views.{as-is, facts_of, Facts}
use Rattle.vipr_frac.proofs.partial.Partial.is_at_least.Goals as goal

pub returns-in-Some-Some : goal.returns-in-Some-Some
returns-in-Some-Some c =
    let x = c.args.fraction in
    let f : Facts x c.parts-r.result.0 c.parts-r.result.1 =
    facts_of _ _ _ c.parts-r.ensures.numer c.parts-r.ensures.denom c.parts-r.ensures.reduced in
    let a = c.in-Some-Some.ensures in
    let b = c.in-Some-Some.ensures' in
    let p_word : FitsSigned w64 c.in-Some-Some.p = search rules in
    let r_word : FitsSigned w64 c.in-Some-Some.r = search rules in
    let p_is : to_z w64 (of_z w64 c.in-Some-Some.p) ≡ c.self.inside.p =
    to_z-of_z w64 c.in-Some-Some.p p_word ∙ a.1
    ∙ as-is c.self.inside.p c.self.invariant.numer_bounded in
    let r_is : to_z w64 (of_z w64 c.in-Some-Some.r) ≡ x.numer = to_z-of_z w64 c.in-Some-Some.r r_word ∙ b.1 ∙ f.back in
    let s_is : c.in-Some-Some.s ≡ x.denom = b.2 ∙ f.denom in
    let h = rw (p_is, r_is, a.2, s_is) at c.are_ordered.ensures in
    let is = is_over c.self.inside.p c.self.inside.q c.self.invariant.some in (
      λ t. subst (λ v. x ≤ℚ v) c.self.view_is (le_in _ _ _ _ _ _ (is_self x) is (h.0 t)),
      λ l. h.1 (le_out _ _ _ _ _ _ (is_self x) is (subst (λ v. x ≤ℚ v) (sym c.self.view_is) l)),
    )
