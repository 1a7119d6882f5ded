-- The derived constraints that are held, counted by where each is dropped
use Rattle.std.proofs.Common.{◌≡◌, ℕ, zero, suc, ◌+◌, ◌-◌, ◌<◌, ◌≤◌, max, cond, Bool, true, nat_eq}
use Rattle.std.proofs.Common.{List, [], ◌∷◌, ◌++◌, map, length, slice_index_or, Option, Some, None}
use Rattle.std.proofs.Common.{arith, refl, sym, ◌∙◌, ap, ap₂, replicate}
use Rattle.std.proofs.lemmas.List.Sums.{fold-append, count_by-le-length}
use Rattle.std.proofs.lemmas.List.FromFn.{map-range_with_len_more, length-range_with_len}
use Rattle.std.proofs.lemmas.List.{get_or-append-add, get_or-map, length-map, length-replicate}
use Rattle.std.specs.List.{range_with_len, count_by, fold}
use Rattle.std.specs.{FinMap.empty, Prelude.option_map}
use Rattle.std.specs.FinSet as set
use Rattle.vipr_spec.specs.Certificate.{Named, Derivation, Certificate, reason_at, last_at, minimum}
use Rattle.vipr_spec.specs.Certificate.{infeasible, count_held, peak}
use Rattle.vipr_spec.specs.{Constraint.Constraint, Constraint.equal, Fraction.zero_ℚ}
use Rattle.vipr_spec.proofs.Laws.{reason_placed, lasts_listed, count_cons, count_from}
use Rattle.vipr_write.specs.{StepReasons.kept_reason_of, Steps.step_of}
use Rattle.vipr_write.specs.{declared.statements.Statement.Statement, declared.statements.Step.Step}
use Rattle.vipr_tighten.specs.Passes.{AreDerivationsOf}
use Rattle.vipr_tighten.specs.Dropping.{dropped_after, is_held_after, is_held_until}
use Rattle.vipr_tighten.specs.Dropping.{is_dropped_after}
use Rattle.vipr_tighten.proofs.Alike.{map_alike, peak_alike}

abbrev pub drop_at : Certificate → ℕ → Option ℕ
drop_at c i = dropped_after i (reason_at c i) (last_at c i)

-- ---- counts over ranges

pub count_more : (p : ℕ → Bool) (a n : ℕ)
    → count_by p (range_with_len a (n + 1)) ≡ count_by p (range_with_len a n) + cond (p (a + n)) 1 0
count_more p a n =
    let same : n + 1 ≡ suc n = omega arith in
    ap (λ k. count_by p (range_with_len a k)) same ∙ count_from p a n (a + n) refl

count_alike : (p q : ℕ → Bool) (a n : ℕ) → ((i : ℕ) → a ≤ i → i < a + n → p i ≡ q i)
    → count_by p (range_with_len a n) ≡ count_by q (range_with_len a n)
count_alike p q a zero same = refl
count_alike p q a (suc n) same =
    let rest = count_alike p q (a + 1) n (λ i low up. same i (omega arith) (omega arith)) in
    let here : cond {A = ℕ} (p a) 1 0 ≡ cond {A = ℕ} (q a) 1 0 =
    ap (λ (b : Bool). cond {A = ℕ} b 1 0) (same a (omega arith) (omega arith)) in
    let left = count_cons p a (range_with_len (a + 1) n) in
    let right = count_cons q a (range_with_len (a + 1) n) in
    omega arith

-- ---- one constraint

parts_one : (k : ℕ) (o : Option ℕ)
    → cond (is_held_until k o) 1 0 ≡ cond (is_held_after k o) 1 0 + cond (is_dropped_after k o) 1 0
parts_one k o = grind arith

-- a constraint is held until the next derivation at least
last_one : (i : ℕ) (b : Bool) (o : Option ℕ)
    → is_held_until (i + 1) (cond b None (option_map (λ l. max l (i + 1)) o)) ≡ true
last_one i b o = grind arith

-- ---- all of them

parts_all : (f : ℕ → Option ℕ) (k : ℕ) (xs : List ℕ) → count_by (λ i. is_held_until k (f i)) xs
    ≡ count_by (λ i. is_held_after k (f i)) xs + count_by (λ i. is_dropped_after k (f i)) xs
parts_all f k [] = refl
parts_all f k (x ∷ xs) = omega (arith, parts_all f k xs, parts_one k (f x), count_cons)

module _ (c : Certificate) (m : ℕ) (is_first : length c.problem.constraints ≡ m) (p : ℕ) where
  abbrev until_now : ℕ
  until_now = count_by (λ i. is_held_until (m + p) (drop_at c i)) (range_with_len m p)

  abbrev dropped_now : ℕ
  dropped_now = count_by (λ i. is_dropped_after (m + p) (drop_at c i)) (range_with_len m p)

  abbrev after_now : ℕ
  after_now = count_by (λ i. is_held_after (m + p) (drop_at c i)) (range_with_len m p)

  pub few_held : until_now ≤ p
  few_held = grind (arith, count_by-le-length, length-range_with_len)

  held_is : count_held c (m + p) ≡ 1 + after_now
  held_is = grind (arith, count_alike)

  pub fewer_dropped : dropped_now ≤ until_now
  fewer_dropped = let e = parts_all (drop_at c) (m + p) (range_with_len m p) in omega arith

  pub held_now : (h d : ℕ) → h ≡ until_now → d ≡ dropped_now → h + 1 - d ≡ count_held c (m + p)
  held_now h d a b = let e = parts_all (drop_at c) (m + p) (range_with_len m p) in let is = held_is in omega arith

  pub until_then : count_held c (m + p) ≡ count_by (λ i. is_held_until (m + (p + 1)) (drop_at c i))
      (range_with_len m (p + 1))
  until_then = grind (arith, count_more, count_alike)

  pub most_then : max (count_held c (m + p)) (fold max 0 (map (count_held c) (range_with_len m p)))
      ≡ fold max 0 (map (count_held c) (range_with_len m (p + 1)))
  most_then =
      let before = fold max 0 (map (count_held c) (range_with_len m p)) in
      let turned : max (count_held c (m + p)) before ≡ max before (count_held c (m + p)) = omega arith in
      turned ∙ sym (ap (fold max 0) (map-range_with_len_more (count_held c) m p (m + p) refl)
      ∙ fold-append max 0 (map (count_held c) (range_with_len m p)) (count_held c (m + p) ∷ []))

  -- where the derivation at this place is dropped
  pub drop_here : (view : Statement → Named Constraint) (ss : List Step)
      → map (step_of view) ss ≡ c.derivations → p < length ss → (s : Step)
      → s ≡ slice_index_or ss p s → drop_at c (m + p) ≡ dropped_after (m + p)
      (Some (kept_reason_of s.reason)) s.last
  drop_here view ss same h s is = ap₂ (dropped_after (m + p)) reason last
    where
      there : step_of view s ≡ slice_index_or c.derivations p (step_of view s)
      there = ap (step_of view) is ∙ sym (get_or-map (step_of view) ss p s (step_of view s) h)
          ∙ ap (λ l. slice_index_or l p (step_of view s)) same

      inside : p < length c.derivations
      inside = let e = length-map ss (step_of view) in let f = ap length same in omega arith

      reason : reason_at c (m + p) ≡ Some (kept_reason_of s.reason)
      reason = ap (λ n. reason_at c (n + p)) (sym is_first) ∙ reason_placed c p
          ∙ get_or-map (λ (x : Derivation). Some x.reason) c.derivations p (step_of view s) None
          inside ∙ ap (λ (x : Derivation). Some x.reason) (sym there)

      last : last_at c (m + p) ≡ s.last
      last =
          let no_last : Named Constraint → Option ℕ = λ _. None in
          let given = map no_last c.problem.constraints in
          let derived = map (λ (x : Derivation). x.last) c.derivations in
          let size : length given ≡ m = length-map c.problem.constraints no_last ∙ is_first in
          lasts_listed c (m + p)
          ∙ ap (λ n. slice_index_or (given ++ derived) (n + p) None) (sym size)
          ∙ get_or-append-add given derived p None
          ∙ get_or-map (λ (x : Derivation). x.last) c.derivations p (step_of view s) None inside
          ∙ ap (λ (x : Derivation). x.last) (sym there)

  -- the counts of what is dropped, with the derivation at this place
  pub dropped_then : (k n : ℕ) → n ≡ count_by (λ i. is_dropped_after (m + k) (drop_at c i)) (range_with_len m p)
      → n + cond (is_dropped_after (m + k) (drop_at c (m + p))) 1 0 ≡ count_by
      (λ i. is_dropped_after (m + k) (drop_at c i)) (range_with_len m (p + 1))
  dropped_then k n e = let more = count_more (λ i. is_dropped_after (m + k) (drop_at c i)) m p in omega arith

  pub few_at : (k : ℕ) → count_by (λ i. is_dropped_after (m + k) (drop_at c i)) (range_with_len m p) ≤ p
  few_at k = grind (arith, count_by-le-length, length-range_with_len)

  pub each_some : (k at n new : ℕ) → n ≡ count_by (λ i. is_dropped_after (m + k) (drop_at c i))
      (range_with_len m p) → drop_at c (m + p) ≡ Some at → new ≡ n + cond (nat_eq at (m + k)) 1 0
      → new ≡ count_by (λ i. is_dropped_after (m + k) (drop_at c i)) (range_with_len m (p + 1))
  each_some k at n new e is w = w
      ∙ sym (ap (λ (o : Option ℕ). n + cond {A = ℕ} (is_dropped_after (m + k) o) 1 0) is)
      ∙ dropped_then k n e

  pub each_none : (k n : ℕ) → n ≡ count_by (λ i. is_dropped_after (m + k) (drop_at c i))
      (range_with_len m p) → drop_at c (m + p) ≡ None
      → n ≡ count_by (λ i. is_dropped_after (m + k) (drop_at c i)) (range_with_len m (p + 1))
  each_none k n e is = grind (arith, dropped_then k n e)

pub peak_whole : (c : Certificate) (m n : ℕ) → length c.problem.constraints ≡ m
    → length c.derivations ≡ n → fold max 0 (map (count_held c) (range_with_len m n)) ≡ peak c
peak_whole c m n a b = sym (ap₂ (λ i j. fold max 0 (map (count_held c) (range_with_len i j))) a b)

-- ---- of steps

-- a reading that says nothing
abbrev pub no_statement : Statement → Named Constraint
no_statement s = record { name = []; item = record { row = empty; sense = equal; bound = zero_ℚ } }

-- a certificate of which nothing is known but its steps, and how many constraints precede them
abbrev pub certificate_of : ℕ → List Step → Certificate
certificate_of first steps = record {
  problem = record {
    names = [];
    integers = set.empty;
    direction = minimum;
    objective = empty;
    constraints = replicate first (record { name = []; item = record { row = empty; sense = equal; bound = zero_ℚ } });
    bound_count = 0;
    claim = infeasible;
  };
  solutions = [];
  derivations = map (step_of no_statement) steps;
}

module _ (first : ℕ) (steps : List Step) where
  pub first_of : length (certificate_of first steps).problem.constraints ≡ first
  first_of = length-replicate first (record { name = []; item = record { row = empty; sense = equal; bound = zero_ℚ } })

  pub peak_of : (view : Statement → Named Constraint) (c : Certificate)
      → AreDerivationsOf c first (map (step_of view) steps)
      → peak (certificate_of first steps) ≡ peak c
  peak_of view c stand = peak_alike (certificate_of first steps) c (record {
    given = first_of ∙ sym stand.first_is;
    reasons = map_alike (step_of no_statement) (step_of view) (λ (x : Derivation). Some x.reason)
        (λ s. refl) steps ∙ ap (map (λ (x : Derivation). Some x.reason)) stand.those;
    lasts = map_alike (step_of no_statement) (step_of view) (λ (x : Derivation). x.last)
        (λ s. refl) steps ∙ ap (map (λ (x : Derivation). x.last)) stand.those;
  })
