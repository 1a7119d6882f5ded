-- The state of a merge of two rising lists.
use Rattle.std.specs.Prelude.{◌≡◌, ℕ, ◌≤◌, ◌^◌, ◌||◌, List, length, drop}
use Rattle.vipr_table.specs.Rising.{RisesWithin, has}

-- `out` has what is merged of the first i items of xs and j of ys, all below `mark`, and the items
-- that are left are not
pub record Merging (xs ys : List ℕ) (i j : ℕ) (out : List ℕ) : Type 0 where
  pub i_within : i ≤ length xs
  pub j_within : j ≤ length ys
  pub mark : ℕ
  pub mark_fits : mark ≤ 2 ^ 32
  pub done : RisesWithin 0 mark out
  pub left : RisesWithin mark (2 ^ 32) (drop i xs)
  pub right : RisesWithin mark (2 ^ 32) (drop j ys)
  pub members : (q : ℕ)
      → (has out q || (has (drop i xs) q || has (drop j ys) q)) ≡ (has xs q || has ys q)
