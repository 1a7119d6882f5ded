-- Two lists of sets, joined set by set.
use Rattle.std.proofs.Common.{◌≡◌, ℕ, List, [], ◌∷◌, ◌++◌, length, length-drop, ◌-◌, take, drop, sym}
use Rattle.std.proofs.Common.{ap, ap₂, ◌∙◌, arith}
use Rattle.std.proofs.{lemmas.List.take-append-drop, Math.Seq.take-length}
use Rattle.std.specs.Ordering.{nat_cmp}
use Rattle.std.specs.FinSet.{FinSet, union}
use Rattle.vipr_table.specs.Sets.{union_of_all}
use Rattle.vipr_table.proofs.UnionsLemmas.{last_two, none_union, union_assoc}

crossed : (a b c d : FinSet nat_cmp) → union (union a b) (union c d) ≡ union (union a c) (union b d)
crossed a b c d = grind (arith, union_assoc, last_two)

sets_appended : (ss ts : List (FinSet nat_cmp)) → union_of_all (ss ++ ts) ≡ union (union_of_all ss) (union_of_all ts)
sets_appended [] ts = sym (none_union _)
sets_appended (s ∷ ss) ts = ap (union s) (sets_appended ss ts) ∙ sym (union_assoc s (union_of_all ss) (union_of_all ts))

sets_split : (i : ℕ) (ss : List (FinSet nat_cmp))
    → union (union_of_all (take i ss)) (union_of_all (drop i ss)) ≡ union_of_all ss
sets_split i ss = sym (sets_appended (take i ss) (drop i ss)) ∙ ap union_of_all (take-append-drop i ss)

-- what a slice from i to the end is
pub behind : (i : ℕ) (ss : List (FinSet nat_cmp)) → take (length ss - i) (drop i ss) ≡ drop i ss
behind i ss = ap (λ n. take n (drop i ss)) (sym (length-drop i ss)) ∙ take-length (drop i ss)

-- what is joined of the first of both gets a set of one, of the other, or of both

pub joined_left : (all s t u : FinSet nat_cmp) → all ≡ union s t → union all u ≡ union (union s u) t
joined_left all s t u is = ap (λ a. union a u) is ∙ last_two s t u

pub joined_right : (all s t u : FinSet nat_cmp) → all ≡ union s t → union all u ≡ union s (union t u)
joined_right all s t u is = ap (λ a. union a u) is ∙ union_assoc s t u

pub joined_both : (all s t u v : FinSet nat_cmp) → all ≡ union s t
    → union all (union u v) ≡ union (union s u) (union t v)
joined_both all s t u v is = ap (λ a. union a (union u v)) is ∙ crossed s t u v

-- and then what is left of each

pub joined_all : (ss ts : List (FinSet nat_cmp)) (i j : ℕ) (all one both : FinSet nat_cmp)
    → all ≡ union (union_of_all (take i ss)) (union_of_all (take j ts))
    → one ≡ union all (union_of_all (drop i ss)) → both ≡ union one (union_of_all (drop j ts))
    → both ≡ union (union_of_all ss) (union_of_all ts)
joined_all ss ts i j all one both is first second =
    second
    ∙ ap (λ s. union s (union_of_all (drop j ts)))
    (first ∙ joined_left all (union_of_all (take i ss)) (union_of_all (take j ts)) (union_of_all (drop i ss)) is)
    ∙ union_assoc (union (union_of_all (take i ss)) (union_of_all (drop i ss)))
    (union_of_all (take j ts)) (union_of_all (drop j ts))
    ∙ ap₂ union (sets_split i ss) (sets_split j ts)
