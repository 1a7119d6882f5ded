-- What is known of a constraint by its index.
use Rattle.std.proofs.Common.{◌≡◌, ℕ, zero, suc, ◌<◌, ◌≤◌, true, ◌&&◌, nat_lt, nat_le, List}
use Rattle.std.proofs.Common.{[], ◌∷◌, ◌++◌, length, map, get_or, slice_index_or, Option, Some}
use Rattle.std.proofs.Common.{None, is_some, Bor, refl, sym, ap, ◌∙◌, arith, rules}
use Rattle.std.proofs.{lemmas.Bool.Decides.nat_tests, lemmas.List.length-map, lemmas.Simd.map-map}
use Rattle.std.specs.{Ordering.nat_cmp, Prelude.IsTrue}
use Rattle.std.specs.FinSet as set
use Rattle.vipr_spec.specs.Constraint.{Profile, condition}
use Rattle.vipr_spec.specs.Steps.{earlier, live, index}
use Rattle.vipr_spec.specs.Certificate.{Certificate, Derivation, last_at, is_live, count}
use Rattle.vipr_spec.proofs.Laws.{reason_given, constraints_listed, lasts_listed, rests_given}
use Rattle.vipr_linear.specs.Constraint.{constraint_of, condition_of}
use Rattle.vipr_linear.specs.declared.constraint.Constraint.{Constraint}
use Rattle.vipr_cert.specs.{Items.named_of, declared.items.Named.Named}
use Rattle.vipr_table.specs.History.{is_derived, IsTableOf}
use Rattle.vipr_table.specs.{Table.Table, Table.entry_at, declared.rows.Entry.Entry}
use Rattle.vipr_rules.specs.declared.context.Known.TheVariants.{Given, Derived}
use Rattle.vipr_rules.specs.declared.error.RuleError.TheVariants.{NotEarlier, Dropped}
use Rattle.vipr_rules.specs.Context.{IsKnownAs}
use Rattle.vipr_rules.specs.Apply.{index_tests, PassesTestsIn, StopsIn}
use Rattle.vipr_rules.proofs.StepLemmas.{stops_second, passes_both, passes_one, stops_one}
use Rattle.vipr_table.proofs.Laws.{IsTableOf-answers}

-- ---- the constraints of the problem
none_front : {X Y : Type 0} (xs : List X) (ys : List (Option Y)) (i : ℕ) → i < length xs
    → slice_index_or (map (λ a. None) xs ++ ys) i None ≡ None
none_front [] ys i h = absurd (omega arith)
none_front (x ∷ xs) ys zero h = refl
none_front (x ∷ xs) ys (suc i) h = none_front xs ys i (omega arith)

last_given : (c : Certificate) (i : ℕ) → i < length c.problem.constraints → last_at c i ≡ None
last_given c i h = lasts_listed c i ∙ none_front c.problem.constraints (map (λ d. d.last) c.derivations) i h

before : (i n : ℕ) → i < n → (nat_lt i n && true) ≡ true
before i n h = grind (arith, nat_tests)

pub live_given : (c : Certificate) (i : ℕ) → i < length c.problem.constraints
    → is_live c (count c) i ≡ true
live_given c i h = search (rules, nat_lt, reason_given, last_given, before)

in_front : {B C : Type 0} (g : B → C) (rest : List C) (d : C) (b : B) (bs : List B) (i : ℕ)
    → i < length bs → b ≡ get_or bs i b → slice_index_or (map g bs ++ rest) i d ≡ g b
in_front g rest d b [] i lt at = absurd (omega arith)
in_front g rest d b (x ∷ bs) zero lt at = ap g (sym at)
in_front g rest d b (x ∷ bs) (suc i) lt at = in_front g rest d b bs i (omega arith) at

front : {A B C : Type 0} (f : A → C) (g : B → C) (xs : List A) (bs : List B) (rest : List C) (i : ℕ)
    (d : C) (b : B)
    → map f xs ≡ map g bs → i < length bs → b ≡ get_or bs i b
    → slice_index_or (map f xs ++ rest) i d ≡ g b
front f g xs bs rest i d b same lt at = ap (λ l. slice_index_or (l ++ rest) i d) same ∙ in_front g rest d b bs i lt at

-- ---- the tests of one index
module _ (P : Profile) (c : Certificate) (d : Derivation) (i : ℕ) where
  pub earlier_stops : (n : ℕ) → n ≡ count c → n ≤ i → StopsIn P c d (earlier i ∷ []) (NotEarlier i)
  earlier_stops n is h = stops_one P c d (earlier i) (NotEarlier i) (λ lt. omega (arith, is, h, lt))
      (index i, refl, refl)

  pub live_passes : PassesTestsIn P c d (earlier i ∷ []) → IsTrue (is_live c (count c) i)
      → PassesTestsIn P c d (index_tests i)
  live_passes p h = passes_both P c d (earlier i ∷ []) (live i ∷ []) p (passes_one P c d (live i) h)

  pub live_stops : PassesTestsIn P c d (earlier i ∷ []) → ¬ IsTrue (is_live c (count c) i)
      → StopsIn P c d (index_tests i) (Dropped i)
  live_stops p bad = stops_second P c d (earlier i ∷ []) (live i ∷ []) (Dropped i) p
      (stops_one P c d (live i) (Dropped i) bad (index i, refl, refl))

-- the constraints of the problem, and the table of the derived ones
module _ (c : Certificate) (cons : List (Named Constraint)) (t : Table)
    (same : map (named_of constraint_of) cons ≡ c.problem.constraints) (table : IsTableOf c t) where
  as_many : length c.problem.constraints ≡ length cons
  as_many = sym (simp length-map at (ap length same))

  items : map (λ n. n.item) c.problem.constraints ≡ map (λ n. constraint_of n.item) cons
  items = ap (map (λ n. n.item)) (sym same) ∙ map-map (λ n. n.item) (named_of constraint_of) cons

  conditions : map (λ n. condition n.item) c.problem.constraints ≡ map (λ n. condition_of n.item) cons
  conditions = sym (map-map condition (λ n. n.item) c.problem.constraints)
      ∙ ap (map condition) items ∙ map-map condition (λ n. constraint_of n.item) cons

  derived : (i : ℕ) → length cons ≤ i → is_derived c i ≡ true
  derived i h = at_least (length c.problem.constraints) i (let e = as_many in omega (arith, e))
    where
      at_least : (m i : ℕ) → m ≤ i → nat_le m i ≡ true
      at_least m i h = grind (arith, nat_tests)

  derived_live : (i : ℕ) → length cons ≤ i → is_some (entry_at t i) ≡ is_live c (count c) i
  derived_live i h = (IsTableOf-answers c t table i).live ∙ ap (λ b. b && is_live c (count c) i) (derived i h)

  none_in_empty : (a : ℕ) → ¬ IsTrue (set.contains {R = nat_cmp} set.empty a)
  none_in_empty a t = let e = set.contains-empty nat_cmp a in cc

  -- ---- what is found, and whether it is live
  pub given_is_live : (i : ℕ) → i < length cons → IsTrue (is_live c (count c) i)
  given_is_live i h = live_given c i (let e = as_many in omega (arith, e))

  pub given_is_known : (i : ℕ) (n : Named Constraint) (x : Bor Constraint) → i < length cons
      → n ≡ get_or cons i n → x.now ≡ n.item → IsKnownAs c i (Given x)
  given_is_known i n x h at is =
      search (
        rules,
        as_many,
        constraints_listed,
        front,
        conditions,
        none_in_empty,
        rests_given,
        reason_given,
      )

  pub derived_is_live : (i : ℕ) (e : Entry) → length cons ≤ i → Some e ≡ entry_at t i → IsTrue (is_live c (count c) i)
  derived_is_live i e h at = sym (derived_live i h) ∙ sym (ap is_some at)

  pub derived_is_known : (i : ℕ) (e : Bor Entry) → Some e.now ≡ entry_at t i → IsKnownAs c i (Derived e)
  derived_is_known i e at = let is = (IsTableOf-answers c t table i).entry e.now (sym at) in record {
    says = sym is.says;
    rests = is.rests;
    is_assumption = is.is_assumed;
  }

  pub dropped_is_not : (i : ℕ) → length cons ≤ i → None ≡ entry_at t i → ¬ IsTrue (is_live c (count c) i)
  dropped_is_not i h at l = let d = ap is_some at ∙ derived_live i h ∙ l in cc
