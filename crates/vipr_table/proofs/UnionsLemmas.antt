-- The union of sets that were added one after another.
use Rattle.std.proofs.Common.{◌≡◌, ℕ, ◌||◌, List, [], ◌∷◌, ◌++◌, length, arith, refl, sym, ap, ◌∙◌}
use Rattle.std.specs.FinSet.{FinSet, contains, empty, from_list, union, same_set}
use Rattle.std.specs.FinSet.{nat_cmp-IsAntisymmetric, contains-union, contains-empty}
use Rattle.std.specs.{Cmp.nat_cmp_total, Ordering.nat_cmp}
use Rattle.vipr_table.specs.Sets.{union_of_all}
use Rattle.vipr_table.proofs.SetLemmas.{union_none, longer_seen}

pub has_of : (s t : FinSet nat_cmp) (q : ℕ) → contains (union s t) q ≡ (contains s q || contains t q)
has_of s t q = contains-union nat_cmp_total s t q

pub union_assoc : (s t u : FinSet nat_cmp) → union (union s t) u ≡ union s (union t u)
union_assoc s t u = same_set nat_cmp_total nat_cmp-IsAntisymmetric _ _ (λ q. grind (arith, has_of, union))

pub none_union : (s : FinSet nat_cmp) → union empty s ≡ s
none_union s = same_set nat_cmp_total nat_cmp-IsAntisymmetric _ _ (λ q. has_of empty s q
    ∙ ap (λ b. b || contains s q) (contains-empty nat_cmp q))

pub nothing_gathered : empty {R = nat_cmp} ≡ union (union empty empty) empty
nothing_gathered = union_none empty ∙ ap (λ s. union s empty) (union_none empty)

-- which of two sets comes last doesn't matter
pub last_two : (s t u : FinSet nat_cmp) → union (union s t) u ≡ union (union s u) t
last_two s t u = same_set nat_cmp_total nat_cmp-IsAntisymmetric _ _ (λ q. grind (arith, has_of, union))

-- few more indices
pub few_put : (s : FinSet nat_cmp) (xs ys : List ℕ)
    → union s (from_list (xs ++ ys)) ≡ union (union s (from_list xs)) (from_list ys)
few_put s xs ys = ap (union s) (longer_seen [] xs ys) ∙ sym (union_assoc s (from_list xs) (from_list ys))

-- where there are none
pub no_few : (s : FinSet nat_cmp) (xs : List ℕ) → length xs ≡ 0 → s ≡ union s (from_list xs)
no_few s [] e = union_none s
no_few s (x ∷ xs) e = absurd (omega arith)

pub one_below : (ss : List (FinSet nat_cmp)) (s : FinSet nat_cmp)
    → union_of_all (ss ++ s ∷ []) ≡ union (union_of_all ss) s
one_below [] s = sym (union_none s) ∙ sym (none_union s)
one_below (r ∷ ss) s = ap (union r) (one_below ss s) ∙ sym (union_assoc r (union_of_all ss) s)

-- the last set below is joined to the last one
pub top_joined : (ss : List (FinSet nat_cmp)) (s t : FinSet nat_cmp)
    → union (union_of_all (ss ++ s ∷ [])) t ≡ union (union_of_all ss) (union s t)
top_joined ss s t = ap (λ u. union u t) (one_below ss s) ∙ union_assoc (union_of_all ss) s t

-- a set is put on the last one
pub one_put : (ss : List (FinSet nat_cmp)) (s t : FinSet nat_cmp)
    → union (union_of_all (ss ++ s ∷ [])) t ≡ union (union (union_of_all ss) s) t
one_put ss s t = ap (λ u. union u t) (one_below ss s)

pub no_sets : (ss : List (FinSet nat_cmp)) → length ss ≡ 0 → ss ≡ []
no_sets [] e = refl
no_sets (s ∷ ss) e = absurd (omega arith)
