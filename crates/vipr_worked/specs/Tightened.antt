-- Certificates and what they become, tightened. Rows, solutions and the problem are any.
use Rattle.std.specs.Prelude.{ℕ, List, [], ◌∷◌, Option, Some, None, pos, negsuc}
use Rattle.vipr_spec.specs.Fraction.{over, whole, zero_ℚ}
use Rattle.vipr_spec.specs.Constraint.{Row, Constraint}
use Rattle.vipr_spec.specs.Certificate.{Named, Problem, Reason, asm, lin, rnd, uns, sol}
use Rattle.vipr_spec.specs.Certificate.{Derivation, Certificate}

abbrev pub nameless : Constraint → Named Constraint
nameless x = record { name = []; item = x }

abbrev pub derived : Constraint → Reason → Option ℕ → Derivation
derived x r l = record { name = []; stated = x; reason = r; last = l }

-- a cutoff that an entry with multiplier 0 names, and the goal
abbrev pub with_cutoff : Problem → List (Named Row) → (a x y : Constraint) → Certificate
with_cutoff p ss a x y = record {
  problem = record p { constraints = nameless a ∷ [] };
  solutions = ss;
  derivations =
      derived x sol None ∷ derived y (rnd ((0, over (pos 1) 2) ∷ (1, zero_ℚ) ∷ [])) None ∷ [];
}

abbrev pub without_cutoff : Problem → List (Named Row) → (a y : Constraint) → Certificate
without_cutoff p ss a y = record {
  problem = record p { constraints = nameless a ∷ [] };
  solutions = ss;
  derivations = derived y (rnd ((0, over (pos 1) 2) ∷ [])) None ∷ [];
}

-- both branches of a split, with an assumption in front that nothing uses
abbrev pub with_unused : Problem → (a b z x1 x2 x3 x4 x5 : Constraint) → Certificate
with_unused p a b z x1 x2 x3 x4 x5 = record {
  problem = record p { constraints = nameless a ∷ nameless b ∷ [] };
  solutions = [];
  derivations =
      derived z asm None ∷ derived x1 asm None ∷ derived x2 asm None
      ∷ derived x3 (lin ((0, whole (pos 1)) ∷ (3, whole (negsuc 1)) ∷ [])) None
      ∷ derived x4 (lin ((4, whole (pos 2)) ∷ (1, whole (negsuc 0)) ∷ [])) None
      ∷ derived x5 (uns 5 3 6 4) None ∷ [];
}

-- the split alone
abbrev pub without_unused : Problem → (a b x1 x2 x3 x4 x5 : Constraint) → Certificate
without_unused p a b x1 x2 x3 x4 x5 = record {
  problem = record p { constraints = nameless a ∷ nameless b ∷ [] };
  solutions = [];
  derivations =
      derived x1 asm (Some 6) ∷ derived x2 asm (Some 6)
      ∷ derived x3 (lin ((0, whole (pos 1)) ∷ (2, whole (negsuc 1)) ∷ [])) (Some 6)
      ∷ derived x4 (lin ((3, whole (pos 2)) ∷ (1, whole (negsuc 0)) ∷ [])) (Some 6)
      ∷ derived x5 (uns 4 2 5 3) None ∷ [];
}

-- the first branch alone, if that is the goal: one assumption is needed through an entry
abbrev pub with_branch : Problem → (a b x1 x3 : Constraint) → Certificate
with_branch p a b x1 x3 = record {
  problem = record p { constraints = nameless a ∷ nameless b ∷ [] };
  solutions = [];
  derivations =
      derived x1 asm (Some 3)
      ∷ derived x3 (lin ((0, whole (pos 1)) ∷ (2, whole (negsuc 1)) ∷ [])) None ∷ [];
}

-- two assumptions that the split alone names, with this last reference
abbrev pub with_split : Problem → (a x1 x2 x3 : Constraint) → Option ℕ → Certificate
with_split p a x1 x2 x3 l = record {
  problem = record p { constraints = nameless a ∷ [] };
  solutions = [];
  derivations = derived x1 asm l ∷ derived x2 asm l ∷ derived x3 (uns 0 1 0 2) None ∷ [];
}

abbrev pub underived : Certificate → Certificate
underived c = record c { derivations = [] }
