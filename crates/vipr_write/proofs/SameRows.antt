-- Rows that have the same entries
use Rattle.std.proofs.Common.{arith, ◌≡◌, ◌↔◌, Bool, true, false, ◌&&◌, nat_lt, length, refl, sym}
use Rattle.std.proofs.Common.{ap, ◌∙◌, IsTrue}
use Rattle.std.proofs.lemmas.Slice.Eq.{slice_eq-Decides}
use Rattle.std.specs.FinMap.{entries, find, get-entries, same_map, nat_cmp-IsAntisymmetric}
use Rattle.std.specs.{Cmp.nat_cmp_total, Ordering.nat_cmp}
use Rattle.vipr_spec.specs.Constraint.{Row}
use Rattle.vipr_linear.proofs.Laws.{same_entry}
use Rattle.vipr_write.specs.Forms.{are_same, is_objective}

first_true : (a b : Bool) → (a && b) ≡ true → a ≡ true
first_true a b h = grind arith

same_entries_row : (r s : Row) → entries r ≡ entries s → r ≡ s
same_entries_row r s e = same_map nat_cmp_total nat_cmp-IsAntisymmetric r s (λ q. get-entries r q
    ∙ ap (find nat_cmp q) e ∙ sym (get-entries s q))

-- what is written as OBJ is the objective's
pub objective_is : (objective row : Row) → is_objective objective row ≡ true → row ≡ objective
objective_is objective row h =
    let same = first_true (are_same (entries row) (entries objective)) (nat_lt 0 (length (entries row))) h in
    same_entries_row row objective
    ((slice_eq-Decides same_entry (entries row) (entries objective)
    (are_same (entries row) (entries objective)) refl).0 same)

-- whether two rows are one is whether their entries are
pub same_entries : (objective row : Row) (same : Bool) → (IsTrue same ↔ (row ≡ objective))
    → are_same (entries row) (entries objective) ≡ same
same_entries objective row same is = by same is
  where
    found : (are_same (entries row) (entries objective) ≡ true) ↔ (entries row ≡ entries objective)
    found = slice_eq-Decides same_entry (entries row) (entries objective)
        (are_same (entries row) (entries objective)) refl

    other : (b : Bool) → (b ≡ true → ⊥) → b ≡ false
    other b h = grind arith

    by : (same : Bool) → (IsTrue same ↔ (row ≡ objective)) → are_same (entries row) (entries objective) ≡ same
    by true is = found.1 (ap entries (is.0 refl))
    by false is = other _ (λ h. absurd (cc (is.1 (same_entries_row row objective (found.0 h)))))
