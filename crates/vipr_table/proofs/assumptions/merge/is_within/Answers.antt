use Rattle.std.proofs.Common.{◌≡◌, ℕ, ◌⊎◌, inl, inr, ◌<◌, ◌-◌, ◌^◌, List, length, get_or, nat_eq, false}
use Rattle.std.proofs.Common.{ap, arith}
use Rattle.std.proofs.lemmas.Bool.Decides.{nat_tests}
use Rattle.std.proofs.{lemmas.List.Elements.All-from_get_or, lemmas.List.Folds.list_any_none}
use Rattle.vipr_table.specs.Rising.{IsRising, has}
use Rattle.vipr_table.proofs.RisingLemmas.{no_items, rises_order}
use Rattle.vipr_table.proofs.assumptions.merge.is_within.Goals as goal
use Rattle.vipr_table.proofs.assumptions.merge.is_within.Goals.{then-is_empty-via-then-is_empty}
use Rattle.vipr_table.proofs.assumptions.merge.is_within.Goals.{then-is_empty-via-else-is_empty+then-index-xs}

differs : (x q : ℕ) → (x < q) ⊎ (q < x) → nat_eq x q ≡ false
differs x q e = grind (arith, nat_tests)

-- a rising list has no number before its first item or after its last
outside : (xs : List ℕ) (q : ℕ) → IsRising xs
    → (q < get_or xs 0 0) ⊎ (get_or xs (length xs - 1) 0 < q) → has xs q ≡ false
outside xs q rising out =
    list_any_none (λ x. nat_eq x q) xs (All-from_get_or (λ x. nat_eq x q ≡ false) xs 0 (λ k lt. by k lt out))
  where
    by : (k : ℕ) → k < length xs → (q < get_or xs 0 0) ⊎ (get_or xs (length xs - 1) 0 < q)
        → nat_eq (get_or xs k 0) q ≡ false
    by k lt (inl before) =
        let order = rises_order 0 (2 ^ 32) xs rising 0 k (omega arith) lt in
        differs (get_or xs k 0) q (inr (omega (arith, order, before)))
    by k lt (inr after) =
        let order = rises_order 0 (2 ^ 32) xs rising k (length xs - 1) (omega (arith, lt)) (omega (arith, lt)) in
        differs (get_or xs k 0) q (inl (omega (arith, order, after)))

pub returns : goal.returns
returns c = λ h.
    let after : get_or c.args.xs.now (length c.args.xs.now - 1) 0 < c.args.index = grind (arith, nat_tests) in
    outside c.args.xs.now c.args.index c.requires (inr after)

pub returns-then-is_empty : goal.returns-then-is_empty
returns-then-is_empty c = λ h. elim c.then-is_empty.branch [
  | then-is_empty-via-then-is_empty w ↦
      let e = c.is_empty.ensures in
      let t = w.if-is_empty.true in
      let none : length c.args.xs.now ≡ 0 = grind (arith, nat_tests) in
      ap (λ xs. has xs c.args.index) (no_items c.args.xs.now none)
  | then-is_empty-via-else-is_empty+then-index-xs w ↦
      let t = w.if-index-xs.true in
      let before : c.args.index < get_or c.args.xs.now 0 0 = grind (arith, nat_tests) in
      outside c.args.xs.now c.args.index c.requires (inl before)
]
