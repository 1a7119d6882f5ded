-- The last references of the tightened certificate
use Rattle.std.proofs.Common.{rules, ◌≡◌, ◌↔◌, ℕ, ◌<◌, ◌≤◌, Option, Some, None, length, arith, refl}
use Rattle.std.proofs.Common.{sym, ap, ⊎_elim}
use Rattle.vipr_spec.specs.{reason_at, last_at, RefersTo, count, IsNeeded, RefersBack, is_kept}
use Rattle.vipr_spec.specs.{tightened_certificate, new_goal, IsNeededFor, Certificate.Certificate}
use Rattle.vipr_spec.proofs.Marked.{back_at, needed_cases, needed_below, kept_given}
use Rattle.vipr_spec.proofs.Places.{last_then_new, last_is_new}
use Rattle.vipr_spec.proofs.Tight.{tight_back, tight_needed}

pub last_one : (c : Certificate) (goal : Option ℕ) (i l : ℕ) → length c.problem.constraints ≤ i
    → last_at (tightened_certificate c goal) i ≡ Some l → (i < l)
    × (l < count (tightened_certificate c goal))
    × RefersTo (reason_at (tightened_certificate c goal) l) i
last_one c goal i l h e = last_is_new c (is_kept c goal) (kept_given c goal) i l h e

pub last_latest : (c : Certificate) (goal : Option ℕ) (k i : ℕ) → RefersBack c
    → length c.problem.constraints ≤ i → RefersTo (reason_at (tightened_certificate c goal) k) i
    → (l : ℕ) × (last_at (tightened_certificate c goal) i ≡ Some l) × (k ≤ l)
last_latest c goal k i back h r = last_then_new c (is_kept c goal) (kept_given c goal) k i h
    (back_at (tightened_certificate c goal) (tight_back c goal back) k i r) r

module _ (c : Certificate) (goal : Option ℕ) (back : RefersBack c) where
  to_goal : (o : Option ℕ) → (i : ℕ) → length c.problem.constraints ≤ i
      → IsNeededFor (tightened_certificate c goal) o i
      → last_at (tightened_certificate c goal) i ≡ None → o ≡ Some i
  to_goal None i h n e = absurd n
  to_goal (Some g) i h n e = ⊎_elim
      (λ (same : i ≡ g). ap Some (sym same))
      (λ (r : (j : ℕ) × IsNeeded (tightened_certificate c goal) g j
      × RefersTo (reason_at (tightened_certificate c goal) j) i).
      grind (arith, last_latest c goal r.0 i back h r.2))
      (needed_cases (tightened_certificate c goal) g i n)

  from_goal : (o : Option ℕ)
      → ((p : ℕ) → length c.problem.constraints ≤ p → p < count (tightened_certificate c goal)
      → IsNeededFor (tightened_certificate c goal) o p)
      → (i : ℕ) → length c.problem.constraints ≤ i → o ≡ Some i → (l : Option ℕ)
      → last_at (tightened_certificate c goal) i ≡ l → l ≡ None
  from_goal o needed i h e None f = refl
  from_goal None needed i h e (Some l) f = absurd (cc)
  from_goal (Some g) needed i h e (Some l) f =
      let found = last_one c goal i l h f in
      let same : g ≡ i = cc in
      let low : length c.problem.constraints ≤ l = (let a = found.0 in omega arith) in
      let below = needed_below (tightened_certificate c goal) g l (tight_back c goal back) (needed l low found.1) in
      absurd (let a = found.0 in omega arith)

  pub last_of_goal : (i : ℕ) → length c.problem.constraints ≤ i
      → i < count (tightened_certificate c goal) → (last_at (tightened_certificate c goal) i ≡ None)
      ↔ (new_goal c goal ≡ Some i)
  last_of_goal i h l = search (rules, to_goal, tight_needed, from_goal, last_at)
