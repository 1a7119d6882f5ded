-- Certificates with the same reasons and last references
use Rattle.std.proofs.Common.{◌≡◌, ℕ, ◌-◌, List, [], ◌∷◌, map, length, Option, Some, None, arith}
use Rattle.std.proofs.Common.{refl, sym, ◌∙◌, ap, ap₂, subst}
use Rattle.std.proofs.lemmas.List.{length-map}
use Rattle.vipr_spec.specs.Certificate.{Derivation, Certificate, NamesEarlier, reason_at, peak}
use Rattle.vipr_spec.specs.Steps.{RefersBack}
use Rattle.vipr_spec.proofs.Laws.{reasons_listed, lasts_listed}

-- ---- lists

pub map_alike : {A B X : Type 0} (f g : A → B) (h : B → X) → ((x : A) → h (f x) ≡ h (g x))
    → (xs : List A) → map h (map f xs) ≡ map h (map g xs)
map_alike f g h same [] = refl
map_alike f g h same (x ∷ xs) = ap₂ (λ y l. y ∷ l) (same x) (map_alike f g h same xs)

pub map_kept : {A X : Type 0} (f : A → A) (h : A → X) → ((x : A) → h (f x) ≡ h x) → (xs : List A)
    → map h (map f xs) ≡ map h xs
map_kept f h same [] = refl
map_kept f h same (x ∷ xs) = ap₂ (λ y l. y ∷ l) (same x) (map_kept f h same xs)

nones : {A X : Type 0} (xs ys : List A) → length xs ≡ length ys
    → map {B = Option X} (λ _. None) xs ≡ map (λ _. None) ys
nones [] [] e = refl
nones [] (y ∷ ys) e = absurd (omega arith)
nones (x ∷ xs) [] e = absurd (omega arith)
nones {A} {X} (x ∷ xs) (y ∷ ys) e = ap (λ (l : List (Option X)). None ∷ l) (nones xs ys (omega arith))

-- ---- certificates

-- as many constraints of the problem, and derivations of the same reasons and last references
pub record AreAlike (c d : Certificate) : Type 0 where
  pub given : length c.problem.constraints ≡ length d.problem.constraints
  pub reasons : map (λ (x : Derivation). Some x.reason) c.derivations ≡ map
      (λ (x : Derivation). Some x.reason) d.derivations
  pub lasts : map (λ (x : Derivation). x.last) c.derivations ≡ map (λ (x : Derivation). x.last) d.derivations

module _ (c d : Certificate) (alike : AreAlike c d) where
  reason_alike : (i : ℕ) → reason_at c i ≡ reason_at d i
  reason_alike i = grind (arith, reasons_listed, nones)

  pub back_alike : RefersBack c → RefersBack d
  back_alike back k = subst (NamesEarlier k) (reason_alike k) (back k)

  pub count_alike : length c.derivations ≡ length d.derivations
  count_alike =
      sym (length-map c.derivations (λ (x : Derivation). x.last)) ∙ ap length alike.lasts
      ∙ length-map d.derivations (λ (x : Derivation). x.last)

  pub peak_alike : peak c ≡ peak d
  peak_alike = grind (arith, reason_alike, count_alike, lasts_listed, nones)
