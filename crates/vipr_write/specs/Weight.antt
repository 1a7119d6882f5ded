-- How many words and ends of lines there are
use Rattle.std.specs.{List.sum_by, Prelude.ℕ, Prelude.suc, Prelude.List, Prelude.length}

abbrev pub weight : List (List (List ℕ)) → ℕ
weight ls = sum_by (λ ws. suc (length ws)) ls
