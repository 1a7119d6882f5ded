use Rattle.std.proofs.Common.{arith, ◌≡◌, ◌∙◌, sym, ap, ap₂, subst, get_or, slice_set, IsOk}
use Rattle.std.proofs.lemmas.List.{get_or_default, set-get_or}
use Rattle.std.specs.Prelude.{◌↔◌}
use Rattle.vipr_spec.specs.{Fraction.zero_ℚ, Fraction.◌+ℚ◌, Fraction.◌*ℚ◌, MoreEntries.TermFits}
use Rattle.vipr_linear.proofs.Marks.{also_within, covered_set}
use Rattle.vipr_linear.proofs.Collecting.{on_ok_then, on_err_then}
use Rattle.vipr_linear.proofs.places.Places.add_term.Goals as goal

pub index_mut-requires : goal.index_mut-requires
index_mut-requires c = omega (arith, also_within c.self.view_is c.requires, c.self.inside.sums.ok.0)

pub invariant_of-self : goal.invariant_of-self
invariant_of-self c =
    rw c.touch.ensures
    (covered_set c.self.inside.sums.items c.self.inside.touched c.args.entry.now.0
    c.add_product.new.self (also_within c.self.view_is c.requires) c.self.invariant)

pub returns-clause-fits : goal.returns-clause-fits
returns-clause-fits c =
    let within = also_within c.self.view_is c.requires in
    let old : get_or c.args.self.now c.args.entry.now.0 zero_ℚ ≡ c.index_mut.result.now =
    ap (λ xs. get_or xs c.args.entry.now.0 zero_ℚ) (sym c.self.view_is)
    ∙ get_or_default c.self.inside.sums.items c.args.entry.now.0 zero_ℚ c.index_mut.result.now
    within ∙ sym c.index_mut.ensures.value in
    subst (λ x. IsOk c.add_product.result ↔ TermFits x c.args.multiplier c.args.entry.now.1)
    (sym old) c.add_product.ensures.fits

pub returns-clause-sum : goal.returns-clause-sum
returns-clause-sum c =
    let within = also_within c.self.view_is c.requires in
    let old : get_or c.args.self.now c.args.entry.now.0 zero_ℚ ≡ c.index_mut.result.now =
    ap (λ xs. get_or xs c.args.entry.now.0 zero_ℚ) (sym c.self.view_is)
    ∙ get_or_default c.self.inside.sums.items c.args.entry.now.0 zero_ℚ c.index_mut.result.now
    within ∙ sym c.index_mut.ensures.value in
    on_ok_then c.add_product.result _ _
    (λ e. ap₂ (λ xs x. slice_set xs c.args.entry.now.0 x) c.self.view_is
    (e ∙ ap (λ y. y +ℚ c.args.multiplier *ℚ c.args.entry.now.1) (sym old)))
    c.add_product.ensures.sum

pub returns-clause-kept : goal.returns-clause-kept
returns-clause-kept c =
    let same = set-get_or c.self.inside.sums.items c.args.entry.now.0 c.index_mut.result.now in
    on_err_then c.add_product.result _ _
    (λ e. ap (slice_set c.self.inside.sums.items c.args.entry.now.0)
    (e ∙ c.index_mut.ensures.value) ∙ same ∙ c.self.view_is) c.add_product.ensures.kept
