-- What is so of each derivation whatever its last reference is, and under smaller indices, is so of
-- each in the tightened certificate
use Rattle.std.proofs.Common.{◌≡◌, ℕ, suc, ◌+◌, ◌<◌, ◌≤◌, Bool, List, [], ◌∷◌, map, length, Option}
use Rattle.std.proofs.Common.{Some, None, IfSome, All, filter, le_trans, le_of_lt, le_of_eq, cond}
use Rattle.std.proofs.Common.{true, false, arith, refl}
use Rattle.std.proofs.lemmas.List.Elements.{All-head, All-tail, All-cons, All-nil, All-map}
use Rattle.std.proofs.lemmas.List.Elements.{All-weaker, All-filter}
use Rattle.std.proofs.lemmas.List.Sums.{length-filter, count_by-le-length}
use Rattle.std.proofs.{lemmas.Bool.cond_both, lemmas.List.length-map}
use Rattle.vipr_spec.specs.{ℚ, is_nonzero, ReasonShape, DerivationShape, EntryFits, ReasonFits}
use Rattle.vipr_spec.specs.{DerivationFits, CanWrite, variables, Reason, asm, lin, rnd, uns, sol}
use Rattle.vipr_spec.specs.{Derivation, count, is_kept, kept_of, new_index, renumbered_entries}
use Rattle.vipr_spec.specs.{refers_to, or_else, renumbered_reason, with_new_indices, last_reference}
use Rattle.vipr_spec.specs.{with_last_references, tightened_certificate, Certificate.Certificate}
use Rattle.vipr_spec.proofs.Marked.{kept_given}
use Rattle.vipr_spec.proofs.Kept.{index_le, index_same, length_kept, length_kept_derivations}

All-kept : {A : Type 0} (P : A → Type 0) (keep : ℕ → Bool) (k : ℕ) (xs : List A) → All P xs
    → All P (kept_of keep k xs)
All-kept P keep k [] a = a
All-kept P keep k (x ∷ xs) a =
    let rest = All-kept P keep (suc k) xs (All-tail P x xs a) in
    cond_both (keep k) (x ∷ kept_of keep (suc k) xs) (kept_of keep (suc k) xs) (All P)
    (λ e. All-cons P x (kept_of keep (suc k) xs) (All-head P x xs a) rest) (λ e. rest)

below_end : (k : ℕ) (ds : List Derivation) (i n : ℕ) → k + length ds ≤ n → (o : Option ℕ)
    → last_reference k ds i ≡ o → IfSome o (λ l. l < n)
below_end k [] i n h None e = tt
below_end k [] i n h (Some l) e = absurd (cc)
below_end k (d ∷ ds) i n h o e =
    by (last_reference (suc k) ds i)
    (below_end (suc k) ds i n (omega arith) (last_reference (suc k) ds i) refl)
    (refers_to d.reason i) o e
  where
    by : (p : Option ℕ) → IfSome p (λ l. l < n) → (b : Bool) → (o : Option ℕ)
        → or_else p (cond b (Some k) None) ≡ o → IfSome o (λ l. l < n)
    by p q b None f = tt
    by (Some m) q b (Some l) f = let same : m ≡ l = cc in omega arith
    by None q true (Some l) f = let same : k ≡ l = cc in omega arith
    by None q false (Some l) f = absurd (cc)

All-with : (P : Derivation → Type 0) (n k : ℕ) (ds : List Derivation) → k + length ds ≤ n
    → All (λ d. (l : Option ℕ) → IfSome l (λ i. i < n) → P (record d { last = l })) ds
    → All P (with_last_references k ds)
All-with P n k [] h a = All-nil P
All-with P n k (d ∷ ds) h a =
    let Q : Derivation → Type 0 = λ d. (l : Option ℕ) → IfSome l (λ i. i < n)
    → P (record d { last = l }) in
    let l = last_reference (suc k) ds k in
    All-cons P (record d { last = l }) (with_last_references (suc k) ds)
    (All-head Q d ds a l (below_end (suc k) ds k n (omega arith) l refl))
    (All-with P n (suc k) ds (omega arith) (All-tail Q d ds a))

count_kept : (c : Certificate) (goal : Option ℕ)
    → count (tightened_certificate c goal) ≡ new_index (is_kept c goal) (count c)
count_kept c goal = grind (arith, length_kept_derivations, index_same, kept_given)

limits_stay : (c : Certificate) (goal : Option ℕ) (P : Derivation → Type 0)
    → ((d : Derivation) (new : ℕ → ℕ) (l : Option ℕ) → ((i : ℕ) → new i ≤ i)
    → IfSome l (λ i. i < count c) → P d
    → P (record d { reason = renumbered_reason new d.reason; last = l }))
    → All P c.derivations → All P (tightened_certificate c goal).derivations
limits_stay c goal P stays a =
    let m = length c.problem.constraints in
    let keep = is_kept c goal in
    let new = new_index keep in
    let kept = kept_of keep m c.derivations in
    let Q : Derivation → Type 0 = λ d. (l : Option ℕ) → IfSome l (λ i. i < count c)
    → P (record d { last = l }) in
    let size : length (map (with_new_indices new) kept) ≡ length kept =
    length-map kept (with_new_indices new) in
    let few : length kept + new m ≡ new (count c) = length_kept keep m c.derivations in
    let first : new m ≡ m = index_same keep m (kept_given c goal) m (omega arith) in
    let most = index_le keep (count c) in
    All-with P (count c) m (map (with_new_indices new) kept) (omega arith)
    (All-map Q (with_new_indices new) kept (All-weaker P (λ d. Q (with_new_indices new d))
    (λ d p l b. stays d new l (index_le keep) b p) kept (All-kept P keep m c.derivations a)))

-- ---- the limits of the format

fewer : (new : ℕ → ℕ) (es : List (ℕ × ℚ)) → length (renumbered_entries new es) ≤ length es
fewer new es = grind (arith, length-map, length-filter, count_by-le-length)

shape_stays : (new : ℕ → ℕ) (r : Reason) → ReasonShape r → ReasonShape (renumbered_reason new r)
shape_stays new r h = grind (arith, le_trans, fewer)

entries_fit : (new : ℕ → ℕ) → ((i : ℕ) → new i ≤ i) → (es : List (ℕ × ℚ)) → All EntryFits es
    → All EntryFits (renumbered_entries new es)
entries_fit new low es a =
    All-map EntryFits (λ (e : ℕ × ℚ). (new e.0, e.1)) (filter is_nonzero es)
    (All-weaker EntryFits (λ e. EntryFits (new e.0, e.1)) (λ e f. (le_trans (low e.0) f.0, f.1))
    (filter is_nonzero es) (All-filter is_nonzero EntryFits es a))

reason_fits : (new : ℕ → ℕ) → ((i : ℕ) → new i ≤ i) → (r : Reason) → ReasonFits r
    → ReasonFits (renumbered_reason new r)
reason_fits new low asm h = tt
reason_fits new low (lin es) h = entries_fit new low es h
reason_fits new low (rnd es) h = entries_fit new low es h
reason_fits new low (uns i1 l1 i2 l2) h = grind (arith, le_trans)
reason_fits new low sol h = tt

pub can_write : (c : Certificate) (goal : Option ℕ) → CanWrite c
    → CanWrite (tightened_certificate c goal)
can_write c goal w =
    let n = variables c.problem in
    let size = count_kept c goal in
    let most = index_le (is_kept c goal) (count c) in
    record {
      shape = record {
        problem = w.shape.problem;
        few_solutions = w.shape.few_solutions;
        solutions = w.shape.solutions;
        few_derivations = le_trans (le_trans (le_of_eq size) most) w.shape.few_derivations;
        derivations =
            limits_stay c goal (DerivationShape n) (λ d new l low b s. record {
              name = s.name;
              row = s.row;
              reason = shape_stays new d.reason s.reason;
            }) w.shape.derivations;
      };
      fits = record {
        problem = w.fits.problem;
        solutions = w.fits.solutions;
        derivations =
            limits_stay c goal DerivationFits
            (λ d new l low b s. grind (arith, reason_fits, count, le_trans, le_of_lt))
            w.fits.derivations;
      };
    }
