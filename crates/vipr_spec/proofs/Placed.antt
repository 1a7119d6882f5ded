-- Derivations by their index
use Rattle.std.proofs.Common.{◌≡◌, ℕ, zero, suc, ◌+◌, List, [], ◌∷◌, ◌++◌, map, length, arith}
use Rattle.std.proofs.Common.{slice_index_or, Some, None, refl}
use Rattle.std.proofs.lemmas.List.{get_or-append-add, length-map}
use Rattle.vipr_spec.specs.{Derivation, derived_constraint, no_constraint}
use Rattle.vipr_spec.specs.{reason_at, Certificate.Certificate}

pub at_place : {A X : Type 0} (f : A → X) (cs : List A) (ys : List X) (j : ℕ) (d : X)
    → slice_index_or (map f cs ++ ys) (length cs + j) d ≡ slice_index_or ys j d
at_place f cs ys j d = grind (arith, length-map, get_or-append-add)

reasons : (ds : List Derivation) (j : ℕ)
    → (slice_index_or (map derived_constraint ds) j no_constraint).reason
    ≡ slice_index_or (map (λ d. Some d.reason) ds) j None
reasons [] j = refl
reasons (d ∷ ds) zero = refl
reasons (d ∷ ds) (suc j) = reasons ds j

pub reason_placed : (c : Certificate) (j : ℕ) → reason_at c (length c.problem.constraints + j)
    ≡ slice_index_or (map (λ d. Some d.reason) c.derivations) j None
reason_placed c j = grind (arith, at_place, reasons)
