-- Which assumptions a sum has brought so far.
use Rattle.std.proofs.Common.{arith, ◌≡◌, ℕ, ◌⊎◌, Bool, true, ◌||◌, sym, ◌∙◌, ap, subst, inl, inr}
use Rattle.std.specs.FinSet.{FinSet, contains, union, empty, same_set, contains-union}
use Rattle.std.specs.FinSet.{contains-empty, nat_cmp-IsAntisymmetric}
use Rattle.std.specs.{Cmp.nat_cmp_total, Ordering.nat_cmp, Prelude.IsTrue}
use Rattle.vipr_table.specs.Unions.{union_so_far, has_noted, NotesAtMost}
use Rattle.vipr_table.specs.declared.assumptions.union.Union.{Union}
use Rattle.vipr_rules.specs.Context.{AreJoined}
use Rattle.vipr_rules.proofs.UnionLemmas.{in_union}

both : (s t : Bool) → (t ≡ true → s ≡ true) → s ≡ (s || t)
both s t h = grind arith

-- a set to which one is added that it has
pub union_within : (s t : FinSet nat_cmp)
    → ((a : ℕ) → IsTrue (contains t a) → IsTrue (contains s a)) → s ≡ union s t
union_within s t h = same_set nat_cmp_total nat_cmp-IsAntisymmetric s (union s t)
    (λ q. both (contains s q) (contains t q) (h q) ∙ sym (contains-union nat_cmp_total s t q))

-- a set to which the empty one is added
pub none_union : (s : FinSet nat_cmp) → s ≡ union empty s
none_union s = same_set nat_cmp_total nat_cmp-IsAntisymmetric s (union empty s)
    (λ q. sym (contains-union nat_cmp_total empty s q
    ∙ ap (λ b. b || contains s q) (contains-empty nat_cmp q)))

-- with those of one more constraint, at this index
pub joined_more : (found : ℕ → FinSet nat_cmp) (i : ℕ) (u v : Union) (t : FinSet nat_cmp)
    → AreJoined found u → t ≡ found i → union_so_far v ≡ union (union_so_far u) t
    → NotesAtMost i u v → AreJoined found v
joined_more found i u v t so_far at added noted j is a has = subst (λ s. IsTrue (contains s a))
    (sym added) ((in_union (union_so_far u) t a).1 (by (noted j is)))
  where
    by : IsTrue (has_noted u j) ⊎ (j ≡ i) → IsTrue (contains (union_so_far u) a) ⊎ IsTrue (contains t a)
    by (inl before) = inl (so_far j before a has)
    by (inr same) = inr (subst (λ s. IsTrue (contains s a)) (ap found same ∙ sym at) has)
