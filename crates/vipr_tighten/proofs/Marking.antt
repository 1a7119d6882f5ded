-- Marks, from the end to the front
use Rattle.std.proofs.Common.{◌≡◌, ℕ, ◌+◌, ◌-◌, ◌<◌, ◌≤◌, Bool, true, false, ◌&&◌, ◌||◌, nat_eq, List, []}
use Rattle.std.proofs.Common.{take, drop, map, replicate, length, slice_index_or, get_or, Option}
use Rattle.std.proofs.Common.{None, arith, refl, sym, ◌∙◌, ap, subst}
use Rattle.std.specs.{FinMap.empty, List.list_any}
use Rattle.std.proofs.Math.Bool.{and-false, and-true, or-false}
use Rattle.std.proofs.lemmas.List.{get_or-map, get_or-replicate, get_or_read_under}
use Rattle.std.proofs.lemmas.List.{length-map, length-replicate}
use Rattle.std.proofs.lemmas.List.Folds.{list_any_more}
use Rattle.vipr_spec.specs.Certificate.{asm, Derivation}
use Rattle.vipr_spec.specs.Tightened.{refers_to, is_marked}
use Rattle.vipr_spec.specs.{Constraint.equal, Fraction.ℚ, Fraction.zero_ℚ, Reading.is_nonzero}
use Rattle.vipr_spec.proofs.Laws.{marked_down}
use Rattle.vipr_tighten.specs.Passes.{has_mark, MarksAlso}

-- ---- tests, one after the other

also_alike : (first : ℕ) (p q : ℕ → Bool) (old new : List Bool) → ((i : ℕ) → p i ≡ q i)
    → MarksAlso first p old new → MarksAlso first q old new
also_alike first p q old new same a k h = a k h ∙ ap (λ b. has_mark old k || b) (same (first + k))

-- a test that nothing passes
pub also_none : (first : ℕ) (p : ℕ → Bool) (marks : List Bool) → ((i : ℕ) → p i ≡ false)
    → MarksAlso first p marks marks
also_none first p marks none k h = sym (or-false (has_mark marks k))
    ∙ ap (λ b. has_mark marks k || b) (sym (none (first + k)))

module _ {A : Type 0} (first : ℕ) (p : ℕ → A → Bool) (es : List A) (n : ℕ) (e : A)
    (h : n < length es) (old mid new : List Bool) (size : length mid ≡ length old) where
  -- one more element
  pub also_more : MarksAlso first (λ i. list_any (p i) (take n es)) old mid
      → MarksAlso first (λ i. p i (get_or es n e)) mid new
      → MarksAlso first (λ i. list_any (p i) (take (n + 1) es)) old new
  also_more a b = grind (arith, list_any_more)

module _ (first : ℕ) (es : List (ℕ × ℚ)) (n : ℕ) (e : ℕ × ℚ) (h : n < length es)
    (is : e ≡ get_or es n e) (old mid : List Bool) (size : length mid ≡ length old) where
  abbrev names : ℕ → ℕ × ℚ → Bool
  names i e = nat_eq i e.0 && is_nonzero e

  pub entry_marked : (new : List Bool) → is_nonzero e ≡ true
      → MarksAlso first (λ i. list_any (names i) (take n es)) old mid
      → MarksAlso first (λ i. nat_eq i e.0) mid new
      → MarksAlso first (λ i. list_any (names i) (take (n + 1) es)) old new
  entry_marked new t a b =
      also_more first names es n e h old mid new size a
      (also_alike first (λ i. nat_eq i e.0) (λ i. names i (get_or es n e)) mid new
      (λ i. sym (and-true (nat_eq i e.0)) ∙ ap (λ u. nat_eq i e.0 && u) (sym t)
      ∙ ap (names i) is) b)

  pub entry_passed : is_nonzero e ≡ false
      → MarksAlso first (λ i. list_any (names i) (take n es)) old mid
      → MarksAlso first (λ i. list_any (names i) (take (n + 1) es)) old mid
  entry_passed t a =
      also_more first names es n e h old mid mid size a
      (also_none first (λ i. names i (get_or es n e)) mid (λ i. ap (names i) (sym is)
      ∙ ap (λ u. nat_eq i e.0 && u) t ∙ and-false (nat_eq i e.0)))

-- ---- derivation by derivation

-- what the derivations from j on mark
pub record AreMarksFrom (goal : Option ℕ) (first : ℕ) (ds : List Derivation) (j : ℕ) (marks : List Bool) : Type 0 where
  pub size : length marks ≡ length ds
  pub each : (k : ℕ) → k < length ds → has_mark marks k ≡ is_marked goal (first + j) (drop j ds) (first + k)

module _ (goal : Option ℕ) (first : ℕ) (ds : List Derivation) where
  -- j is the next one towards the front
  module _ (j : ℕ) (d : Derivation) (h : j < length ds) (marks : List Bool)
      (so_far : AreMarksFrom goal first ds (j + 1) marks) where
    step : (new : List Bool) → length new ≡ length marks
        → ((k : ℕ) → k < length ds
        → has_mark new
        k ≡ (has_mark marks k ||
        (has_mark marks j && refers_to (slice_index_or ds j d).reason (first + k))))
        → AreMarksFrom goal first ds j new
    step new size marked = grind (arith, marked_down)

    pub marks_more : (new : List Bool) → length new ≡ length marks → has_mark marks j ≡ true
        → MarksAlso first (refers_to (slice_index_or ds j d).reason) marks new
        → AreMarksFrom goal first ds j new
    marks_more new size marked also = grind (arith, step)

    pub marks_stay : has_mark marks j ≡ false → AreMarksFrom goal first ds j marks
    marks_stay unmarked = step marks refl (λ k l. sym (or-false (has_mark marks k))
        ∙ ap (λ b. has_mark marks k || (b && refers_to (slice_index_or ds j d).reason (first + k)))
        (sym unmarked))

-- ---- as they are read

-- at the start, with no mark but the goal's
module _ {D : Type 0} (derived : D → Derivation) (goal : Option ℕ) (first : ℕ) (xs : List D)
    (clear : List Bool) (is : clear ≡ replicate (length xs) false) where
  count : length (map derived xs) ≡ length xs
  count = length-map xs derived

  size : length clear ≡ length xs
  size = ap length is ∙ length-replicate (length xs) false

  unmarked : (k : ℕ) → k < length xs → has_mark clear k ≡ false
  unmarked k h = ap (λ l. has_mark l k) is ∙ get_or-replicate (length xs) k false false h

module _ {D : Type 0} (derived : D → Derivation) (goal : Option ℕ) (first : ℕ) (xs : List D) (j : ℕ)
    (h : j < length xs) (marks : List Bool)
    (so_far : AreMarksFrom goal first (map derived xs) (j + 1) marks) where
  inside : j < length (map derived xs)
  inside = let s = length-map xs derived in omega arith

  pub next_marked : (x : D) → x ≡ get_or xs j x → (new : List Bool) → length new ≡ length marks
      → has_mark marks j ≡ true → MarksAlso first (refers_to (derived x).reason) marks new
      → AreMarksFrom goal first (map derived xs) j new
  next_marked x is new size marked also =
      marks_more goal first (map derived xs) j (derived x) inside marks so_far new size marked
      (subst (λ (d : Derivation). MarksAlso first (refers_to d.reason) marks new)
      (sym (get_or-map derived xs j x (derived x) h ∙ ap derived (sym is))) also)

  pub next_unmarked : has_mark marks j ≡ false → AreMarksFrom goal first (map derived xs) j marks
  next_unmarked unmarked = marks_stay goal first (map derived xs) j none inside marks so_far unmarked
    where
      none : Derivation
      none = record {
        name = [];
        stated = record { row = empty; sense = equal; bound = zero_ℚ };
        reason = asm;
        last = None;
      }

-- the marks so far, as those behind the place before i
pub record Turn {D : Type 0} (derived : D → Derivation) (goal : Option ℕ) (first : ℕ)
    (xs : List D) (i : ℕ) (marks : List Bool) : Type 0 where
  pub within : i - 1 < length xs
  pub marked : i - 1 < length marks
  pub so_far : AreMarksFrom goal first (map derived xs) ((i - 1) + 1) marks

pub this_turn : {D : Type 0} (derived : D → Derivation) (goal : Option ℕ) (first : ℕ)
    (xs : List D) (i : ℕ) (marks : List Bool) → i ≤ length xs → 0 < i
    → AreMarksFrom goal first (map derived xs) i marks → Turn derived goal first xs i marks
this_turn derived goal first xs i marks a b m =
    let t : length (map derived xs) ≡ length xs = length-map xs derived in
    let size : length marks ≡ length (map derived xs) = m.size in
    let step : i ≡ (i - 1) + 1 = omega arith in
    record {
      within = omega arith;
      marked = omega arith;
      so_far = subst (λ n. AreMarksFrom goal first (map derived xs) n marks) step m;
    }

-- what was read there
pub mark_read : (marks : List Bool) (j : ℕ) (read b : Bool) → j < length marks
    → read ≡ get_or marks j read → read ≡ b → has_mark marks j ≡ b
mark_read marks j read b h is e = sym (get_or_read_under marks j (length marks) read false is h refl) ∙ e
