-- A set in several lists.
use Rattle.std.proofs.Common.{◌≡◌, ℕ, zero, suc, ◌+◌, ◌-◌, ◌<◌, ◌≤◌, ◌^◌, drop, Bool, true, false}
use Rattle.std.proofs.Common.{◌||◌, ◌&&◌, not, List, [], ◌∷◌}
use Rattle.std.proofs.Common.{◌++◌, length, take, get_or, sym, ap, ap₂, ◌∙◌, refl, subst, arith}
use Rattle.std.proofs.Common.{nat_eq, slice_index_or}
use Rattle.std.proofs.lemmas.List.{take_more, length-append, length-take, take-take, take_at}
use Rattle.std.specs.Cmp.{nat_cmp_total}
use Rattle.std.specs.Ordering.{nat_cmp, eq_by_cmp}
use Rattle.std.specs.FinSet.{FinSet, contains, empty, from_list, union, remove, same_set}
use Rattle.std.specs.FinSet.{nat_cmp-IsAntisymmetric, contains-empty, contains-remove, contains-from_list_nat}
use Rattle.vipr_table.specs.{Rising.IsRising, Rising.RisesWithin, Rising.has, Sets.union_of_all}
use Rattle.vipr_table.proofs.RisingLemmas.{without_last, rises_filter, rises_from, no_items}
use Rattle.vipr_table.proofs.SetLemmas.{longer_seen, remove_seen, empty_seen}
use Rattle.vipr_table.proofs.UnionsLemmas.{has_of, union_assoc, one_below}

-- ---- a front without its last item

pub rest_rises : (xs : List ℕ) (k : ℕ) → IsRising (xs ++ k ∷ []) → IsRising xs
rest_rises xs k r = subst IsRising (sym (without_last k _ xs r refl)) (rises_filter _ 0 (2 ^ 32) _ r)

pub front_shorter : (count k : ℕ) (items rest : List ℕ) → take count items ≡ rest ++ k ∷ []
    → length rest < count
front_shorter count k items rest is = grind (arith, length-take count items, length-append rest (k ∷ []))

pub front_taken : (count k : ℕ) (items rest : List ℕ) → take count items ≡ rest ++ k ∷ []
    → take (length rest) items ≡ rest
front_taken count k items rest is =
    sym (take-take (length rest) count items (let less = front_shorter count k items rest is in omega (arith, less)))
    ∙ ap (take (length rest)) is
    ∙ take_at rest (k ∷ []) (length rest) refl

pub last_out_rises : (count k : ℕ) (items rest : List ℕ) → IsRising (take count items)
    → take count items ≡ rest ++ k ∷ [] → IsRising (take (length rest) items)
last_out_rises count k items rest r is = grind (arith, front_taken, rest_rises)

pub last_out_seen : (k : ℕ) (xs rest : List ℕ) → IsRising xs → xs ≡ rest ++ k ∷ []
    → from_list {R = nat_cmp} rest ≡ remove (from_list xs) k
last_out_seen k xs rest r is = ap from_list (without_last k xs rest r is) ∙ remove_seen xs k

-- ---- unions

pub appended : (xs ys : List ℕ) → from_list {R = nat_cmp} (xs ++ ys) ≡ union (from_list xs) (from_list ys)
appended xs ys = longer_seen [] xs ys

pub union_turned : (s t : FinSet nat_cmp) → union s t ≡ union t s
union_turned s t = grind (arith, same_set nat_cmp_total nat_cmp-IsAntisymmetric, has_of)

left_out_of_both : (e a b : Bool) → (not e && (a || b)) ≡ ((not e && a) || (not e && b))
left_out_of_both e a b = grind arith

pub remove_union : (s t : FinSet nat_cmp) (k : ℕ)
    → remove (union s t) k ≡ union (remove s k) (remove t k)
remove_union s t k = same_set nat_cmp_total nat_cmp-IsAntisymmetric _ _ (λ q.
    contains-remove nat_cmp_total (union s t) k q
    ∙ ap (λ b. not (eq_by_cmp nat_cmp q k) && b) (has_of s t q)
    ∙ left_out_of_both (eq_by_cmp nat_cmp q k) (contains s q) (contains t q)
    ∙ ap₂ (λ a b. a || b) (sym (contains-remove nat_cmp_total s k q)) (sym (contains-remove nat_cmp_total t k q))
    ∙ sym (has_of (remove s k) (remove t k) q))

-- nothing is added by indices that a set has already
pub union_with_part : (s t : FinSet nat_cmp) (ys : List ℕ) → from_list ys ≡ t
    → ((q : ℕ) → has ys q ≡ true → contains s q ≡ true) → s ≡ union s t
union_with_part s t ys is within =
    grind (arith, same_set nat_cmp_total nat_cmp-IsAntisymmetric, contains-from_list_nat, has_of)

-- ---- one of several sets

or_true : (b : Bool) → (b || true) ≡ true
or_true b = grind arith

pub within_all : (ss : List (FinSet nat_cmp)) (i q : ℕ) (s : FinSet nat_cmp) → i < length ss
    → s ≡ get_or ss i s → contains s q ≡ true → contains (union_of_all ss) q ≡ true
within_all [] i q s lt is h = absurd (omega arith)
within_all (r ∷ ss) zero q s lt is h = grind (arith, has_of)
within_all (r ∷ ss) (suc i) q s lt is h =
    has_of r (union_of_all ss) q
    ∙ ap (λ b. contains r q || b) (within_all ss i q s (omega arith) is h)
    ∙ or_true (contains r q)

pub one_of_none : (ss : List (FinSet nat_cmp)) (i : ℕ) (s : FinSet nat_cmp) → i < length ss
    → s ≡ get_or ss i s → union_of_all ss ≡ empty → s ≡ empty
one_of_none ss i s lt is none = same_set nat_cmp_total nat_cmp-IsAntisymmetric _ _ (λ q. by q (contains s q) refl)
  where
    by : (q : ℕ) (b : Bool) → contains s q ≡ b → contains s q ≡ contains (empty {R = nat_cmp}) q
    by q false e = e ∙ sym (contains-empty nat_cmp q)
    by q true e = absurd (
        let here = within_all ss i q s lt is e in
        let gone = ap (λ t. contains t q) none in
        let nothing = contains-empty nat_cmp q in
        cc (here, gone, nothing))

-- ---- one set more

pub more_united : (ss : List (FinSet nat_cmp)) (i : ℕ) (s : FinSet nat_cmp) → i < length ss
    → s ≡ get_or ss i s → union_of_all (take (i + 1) ss) ≡ union (union_of_all (take i ss)) s
more_united ss i s lt is = grind (arith, take_more ss i s lt, one_below (take i ss) (get_or ss i s))

pub more_added : (old now next : FinSet nat_cmp) (ss : List (FinSet nat_cmp)) (i : ℕ) (s : FinSet nat_cmp)
    → i < length ss → s ≡ get_or ss i s → now ≡ union old (union_of_all (take i ss))
    → next ≡ union now s → next ≡ union old (union_of_all (take (i + 1) ss))
more_added old now next ss i s lt is so_far step = grind (arith, union_assoc, more_united)

-- ---- lists, and the sets that they are

pub only_item : (xs : List ℕ) → length xs ≡ 1 → slice_index_or xs 0 0 ∷ [] ≡ xs
only_item [] e = absurd (omega arith)
only_item (x ∷ []) e = refl
only_item (x ∷ y ∷ ys) e = absurd (omega arith)

pub listed_empty : (s : FinSet nat_cmp) (xs : List ℕ) (b : Bool) → from_list xs ≡ s
    → b ≡ nat_eq (length xs) 0 → (b ≡ true → s ≡ empty) × (s ≡ empty → b ≡ true)
listed_empty s xs b is e = (λ h. sym is ∙ (empty_seen xs b e).0 h, λ h. (empty_seen xs b e).1 (is ∙ h))

pub none_listed : (s : FinSet nat_cmp) (xs : List ℕ) → from_list xs ≡ s → length xs ≡ 0 → s ≡ empty
none_listed s xs is e = sym is ∙ ap from_list (no_items xs e)

-- ---- parts of a list, and of lists of sets

rises_drop : (i low high : ℕ) (xs : List ℕ) → RisesWithin low high xs → RisesWithin low high (drop i xs)
rises_drop zero low high xs r = r
rises_drop (suc i) low high [] r = tt
rises_drop (suc i) low high (x ∷ xs) r =
    rises_from (x + 1) low high (drop i xs) (let le : low ≤ x = r.0 in omega (arith, le))
    (rises_drop i (x + 1) high xs r.2)

rises_take : (i low high : ℕ) (xs : List ℕ) → RisesWithin low high xs → RisesWithin low high (take i xs)
rises_take zero low high xs r = tt
rises_take (suc i) low high [] r = tt
rises_take (suc i) low high (x ∷ xs) r = (r.0, r.1, rises_take i (x + 1) high xs r.2)

pub slice_rises : (n i : ℕ) (xs : List ℕ) → IsRising xs → IsRising (take n (drop i xs))
slice_rises n i xs r = rises_take n 0 (2 ^ 32) (drop i xs) (rises_drop i 0 (2 ^ 32) xs r)

none_taken : (n : ℕ) → ◌≡◌ {A = List ℕ} (take n []) []
none_taken zero = refl
none_taken (suc n) = refl

parts_taken : (start n end : ℕ) (xs : List ℕ) → start + n ≡ end → take start xs ++ take n (drop start xs) ≡ take end xs
parts_taken zero n end xs e = ap (λ k. take k xs) (omega (arith, e))
parts_taken (suc start) n end [] e = none_taken n ∙ sym (none_taken end)
parts_taken (suc start) n zero (x ∷ xs) e = absurd (omega (arith, e))
parts_taken (suc start) n (suc end) (x ∷ xs) e = ap (λ l. x ∷ l) (parts_taken start n end xs (omega (arith, e)))

pub more_listed : (all part : FinSet nat_cmp) (start end : ℕ) (xs : List ℕ) → start ≤ end
    → all ≡ from_list (take start xs) → part ≡ from_list (take (end - start) (drop start xs))
    → union all part ≡ from_list (take end xs)
more_listed all part start end xs le so_far is =
    ap₂ union so_far is
    ∙ sym (appended (take start xs) (take (end - start) (drop start xs)))
    ∙ ap from_list (parts_taken start (end - start) end xs (omega (arith, le)))
