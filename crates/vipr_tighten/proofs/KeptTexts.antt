-- A certificate, of whose derivations the words up to their reasons are kept
use Rattle.std.proofs.Common.{arith, ◌≡◌, ℕ, suc, ◌+◌, Bool, true, false, cond, ◌&&◌, ◌||◌, List}
use Rattle.std.proofs.Common.{[], ◌∷◌, map, length, Option, Some, None, refl, sym, ap, ap₂, ◌∙◌}
use Rattle.std.proofs.lemmas.List.{length-map}
use Rattle.vipr_spec.specs.Certificate.{Derivation, Certificate, count, peak}
use Rattle.vipr_spec.specs.Tightened.{refers_to, is_marked, is_kept, kept_of, or_else}
use Rattle.vipr_spec.specs.Tightened.{with_new_indices, last_reference, with_last_references}
use Rattle.vipr_spec.specs.Tightened.{kept_derivations, tightened_certificate}
use Rattle.vipr_spec.specs.{Constraint.Row, Steps.RefersBack}
use Rattle.vipr_write.specs.{Steps.as_text, declared.form.Form.Form}
use Rattle.vipr_tighten.proofs.Alike.{AreAlike, map_kept, back_alike, peak_alike}

abbrev pub with_texts : Form → Row → Certificate → Certificate
with_texts form objective c =
    record c { derivations = map (as_text form objective) c.derivations }

texts_alike : (form : Form) (objective : Row) (c d : Certificate)
    → length d.problem.constraints ≡ length c.problem.constraints
    → d.derivations ≡ map (as_text form objective) c.derivations → AreAlike d c
texts_alike form objective c d given are = grind (arith, map_kept)

module _ (form : Form) (objective : Row) where
  abbrev text : Derivation → Derivation
  text = as_text form objective

  -- ---- derivation by derivation

  marked_texts : (goal : Option ℕ) (k : ℕ) (ds : List Derivation) (i : ℕ)
      → is_marked goal k (map text ds) i ≡ is_marked goal k ds i
  marked_texts goal k [] i = refl
  marked_texts goal k (d ∷ ds) i = ap₂ (λ a b. a || (b && refers_to d.reason i))
      (marked_texts goal (suc k) ds i) (marked_texts goal (suc k) ds k)

  kept_of_texts : (keep : ℕ → Bool) (k : ℕ) (ds : List Derivation)
      → kept_of keep k (map text ds) ≡ map text (kept_of keep k ds)
  kept_of_texts keep k [] = refl
  kept_of_texts keep k (d ∷ ds) = by (keep k) (kept_of_texts keep (suc k) ds)
    where
      by : (b : Bool) → kept_of keep (suc k) (map text ds) ≡ map text (kept_of keep (suc k) ds)
          → cond b (text d ∷ kept_of keep (suc k) (map text ds))
          (kept_of keep (suc k) (map text ds)) ≡ map text
          (cond b (d ∷ kept_of keep (suc k) ds) (kept_of keep (suc k) ds))
      by true rest = ap (λ l. text d ∷ l) rest
      by false rest = rest

  new_texts : (new : ℕ → ℕ) (ds : List Derivation)
      → map (with_new_indices new) (map text ds) ≡ map text (map (with_new_indices new) ds)
  new_texts new [] = refl
  new_texts new (d ∷ ds) = ap (λ l. text (with_new_indices new d) ∷ l) (new_texts new ds)

  last_texts : (k : ℕ) (ds : List Derivation) (i : ℕ) → last_reference k (map text ds) i ≡ last_reference k ds i
  last_texts k [] i = refl
  last_texts k (d ∷ ds) i = ap (λ o. or_else o (cond (refers_to d.reason i) (Some k) None)) (last_texts (suc k) ds i)

  lasts_texts : (k : ℕ) (ds : List Derivation) → with_last_references k (map text ds) ≡ map text
      (with_last_references k ds)
  lasts_texts k [] = refl
  lasts_texts k (d ∷ ds) = ap₂ (λ o l. record (text d) { last = o } ∷ l) (last_texts (suc k) ds k)
      (lasts_texts (suc k) ds)

  kept_texts : (keep : ℕ → Bool) (m : ℕ) (ds : List Derivation)
      → kept_derivations keep m (map text ds) ≡ map text (kept_derivations keep m ds)
  kept_texts keep m ds = grind (arith, kept_of_texts, new_texts, lasts_texts)

  -- ---- the whole

  module _ (c : Certificate) where
    pub texts_back : RefersBack c → RefersBack (with_texts form objective c)
    texts_back = back_alike c (with_texts form objective c) (record {
      given = refl;
      reasons = sym_kept (λ (x : Derivation). Some x.reason) (λ x. refl);
      lasts = sym_kept (λ (x : Derivation). x.last) (λ x. refl);
    })
      where
        sym_kept : {X : Type 0} (h : Derivation → X) → ((x : Derivation) → h (text x) ≡ h x)
            → map h c.derivations ≡ map h (map text c.derivations)
        sym_kept h same = sym (map_kept text h same c.derivations)

    pub texts_count : count (with_texts form objective c) ≡ count c
    texts_count = ap (λ n. length c.problem.constraints + n) (length-map c.derivations text)

    pub texts_tightened : (goal : Option ℕ)
        → (tightened_certificate (with_texts form objective c) goal).derivations ≡ map
        (as_text form objective) (tightened_certificate c goal).derivations
    texts_tightened goal =
        let m = length c.problem.constraints in
        let same : is_kept (with_texts form objective c) goal ≡ is_kept c goal = grind (arith, marked_texts) in
        ap (λ keep. kept_derivations keep m (map text c.derivations)) same ∙ kept_texts (is_kept c goal) m c.derivations

    pub texts_tightened_count : (goal : Option ℕ)
        → count (tightened_certificate (with_texts form objective c) goal) ≡ count
        (tightened_certificate c goal)
    texts_tightened_count goal =
        ap (λ n. length c.problem.constraints + n)
        (ap length (texts_tightened goal) ∙ length-map (tightened_certificate c goal).derivations text)

    pub texts_peak : (goal : Option ℕ)
        → peak (tightened_certificate (with_texts form objective c) goal) ≡ peak
        (tightened_certificate c goal)
    texts_peak goal =
        peak_alike (tightened_certificate (with_texts form objective c) goal) (tightened_certificate c goal)
        (texts_alike form objective (tightened_certificate c goal)
        (tightened_certificate (with_texts form objective c) goal) refl (texts_tightened goal))
