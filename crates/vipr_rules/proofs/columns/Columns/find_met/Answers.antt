use Rattle.std.proofs.Common.{All, ap, sym, subst, subst₂, ◌∙◌, ◌≢◌, ◌<◌, length, get_or}
use Rattle.std.proofs.lemmas.List.{length-replicate}
use Rattle.vipr_spec.specs.{Constraint.at, Fraction.zero_ℚ}
use Rattle.vipr_rules.specs.Columns.{given_of, AreColumns, AreSums, AreFalseAtZero, AreMet}
use Rattle.vipr_rules.specs.Columns.{LiesWithin}
use Rattle.vipr_rules.proofs.ColumnLemmas.{given_same, count_same, as_many, all_met, all_within}
use Rattle.vipr_rules.proofs.ColumnLemmas.{met, sums_start, known_ok}
use Rattle.vipr_rules.proofs.columns.Columns.find_met.Goals.{then-is_ok, else-is_ok}
use Rattle.vipr_rules.proofs.columns.Columns.find_met.Goals.{then-are_nonzero, else-are_nonzero}
use Rattle.vipr_rules.proofs.columns.Columns.find_met.Goals as goal

pub add_solution-requires : goal.add_solution-requires
add_solution-requires c =
    let p = c.args.problem.now in
    let given = given_same p c.cons-cons.result.now c.cons-cons.ensures.constraints in
    let many = ap length c.requires.columns.sums ∙ length-replicate (length p.constraints) zero_ℚ in
    record {
      columns = (
        p.objective,
        subst (AreColumns p.objective _ (length c.args.self.now.sums)) (sym c.deref.ensures.value)
            (subst₂ (λ cs n. AreColumns p.objective cs n c.args.self.now.columns.items) (sym given)
            (sym many) c.requires.columns.columns),
      );
    }

pub are_nonzero-requires : goal.are_nonzero-requires
are_nonzero-requires c =
    let p = c.args.problem.now in
    let many = ap length c.requires.columns.sums ∙ length-replicate (length p.constraints) zero_ℚ in
    let now = ap length c.sums.ensures ∙ c.add_solution.ensures.constraints ∙ many in
    subst₂ (λ n xs. All (λ i. i < n) xs) (sym now) (sym c.deref-then-is_ok.ensures.value)
    (all_within _ _ _ _ c.requires.columns.false_at_zero)

pub returns-clause-met : goal.returns-clause-met
returns-clause-met c = λ t. elim c.if-are_nonzero.branch [
  | else-are_nonzero v ↦ absurd (let e = v.met-is in cc)
  | then-are_nonzero v ↦ elim c.if-is_ok.branch [
    | else-is_ok w ↦ absurd (let e = w.value-is in let f = v.if-are_nonzero.true in cc)
    | then-is_ok w ↦
        let p = c.args.problem.now in
        let o = p.objective in
        let x = at c.args.solution.now.0 in
        let cons = c.cons-cons.result.now in
        let old = c.args.self.now.sums in
        let sums = c.add_solution.new.sums in
        let indices = c.args.self.now.false_at_zero.items in
        let given = given_same p cons c.cons-cons.ensures.constraints in
        let count = count_same p cons c.cons-cons.ensures.constraints in
        let many = ap length c.requires.columns.sums ∙ length-replicate (length p.constraints) zero_ℚ in
        let columns = subst (AreColumns o _ (length old)) (sym c.deref.ensures.value)
        (subst₂ (λ cs n. AreColumns o cs n c.args.self.now.columns.items) (sym given)
        (sym many) c.requires.columns.columns) in
        let start = sums_start o (given_of cons) x old (length p.constraints) c.requires.columns.sums in
        let summed =
        known_ok c.add_solution.result
        (AreSums o (given_of cons) x (length c.deref.result.now) sums) c.is_ok.result
        c.is_ok.ensures.value w.if-is_ok.true (c.add_solution.ensures.sums o columns start) in
        let at_zero = subst₂ (λ cs n. AreFalseAtZero o cs n indices) (sym given)
        (sym (as_many cons ∙ count)) c.requires.columns.false_at_zero in
        let nonzero = subst₂ (λ xs is. All (λ i. get_or xs i zero_ℚ ≢ zero_ℚ) is) w.sums.ensures
        w.deref-then-is_ok.ensures.value
        (w.are_nonzero.ensures (sym w.value-is ∙ v.if-are_nonzero.true)) in
        let all = met o (given_of cons) (length c.deref.result.now) x sums indices
        (c.add_solution.ensures.constraints ∙ many ∙ sym (as_many cons ∙ count)) summed at_zero
        nonzero (v.all_true-met.ensures (sym v.met-is ∙ t)) in
        let variables_same = ap length c.deref.ensures.value ∙ c.requires.columns.variables in
        all_met p c.args.solution.now.0 (subst₂ (λ cs n. AreMet o cs n x) given variables_same all)
        c.requires.room c.args.self.now.bounds c.requires.columns.bounds
        (subst (LiesWithin c.args.self.now.bounds) c.requires.value
        (c.admit.ensures.0 c.if-not-admit.false))
  ]
]
