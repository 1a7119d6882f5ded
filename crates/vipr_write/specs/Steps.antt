-- Steps: derivations whose names and constraints are kept as text
use Rattle.std.specs.Prelude.{◌≡◌, ℕ, ◌+◌, Bool, true, ◌&&◌, nat_lt, nat_le, cond, List, [], ◌++◌}
use Rattle.std.specs.Prelude.{◌∷◌, map, length, slice_index, slice_range, All, codes}
use Rattle.std.specs.List.{flat_map}
use Rattle.vipr_spec.specs.Constraint.{Row, Constraint, equal}
use Rattle.vipr_spec.specs.Certificate.{Named, Problem, Derivation, Certificate}
use Rattle.vipr_spec.specs.{Fraction.zero_ℚ, Shape.CanWrite}
use Rattle.vipr_write.specs.Canonical.{reason_words, last_word, words_after_spaces, heading}
use Rattle.vipr_write.specs.Canonical.{line_text, lines_text, solutions_lines}
use Rattle.vipr_write.specs.Forms.{row_words, constraint_words_in}
use Rattle.vipr_write.specs.declared.statements.Statements.{Statements}
use Rattle.vipr_write.specs.{Lines.words_text, StepReasons.kept_reason_of, declared.form.Form.Form}
use Rattle.vipr_write.specs.{declared.statements.Statement.Statement, declared.statements.Step.Step}

-- a step as a derivation, if this is the name and the constraint of what is kept of them
abbrev pub step_of : (Statement → Named Constraint) → Step → Derivation
step_of view s = record {
  name = (view s.stated).name;
  stated = (view s.stated).item;
  reason = kept_reason_of s.reason;
  last = s.last;
}

-- a text in place of a name, with a constraint that says nothing
abbrev pub with_text : Row → List ℕ → Named Constraint
with_text objective text = record {
  name = text;
  item = record { row = objective; sense = equal; bound = zero_ℚ };
}

-- the words of a derivation up to its reason, in place of its name and its constraint
abbrev pub as_text : Form → Row → Derivation → Derivation
as_text form objective d = record d {
  name = words_text (constraint_words_in form objective d.name d.stated);
  stated = record { row = objective; sense = equal; bound = zero_ℚ };
}

-- ---- where they lie

-- Each statement begins at the end of the one before it.
abbrev pub own_start : List ℕ → Statement → ℕ
own_start ends s = slice_index (0 ∷ ends) s.index

abbrev pub own_end : List ℕ → Statement → ℕ
own_end ends s = slice_index ends s.index

abbrev pub is_within : List ℕ → List ℕ → Statement → Bool
is_within ends text s = nat_lt s.index (length ends)
    && (nat_le (own_start ends s) (own_end ends s) && nat_le (own_end ends s) (length text))

-- the part of the text that is a statement's own
abbrev pub own_bytes : Statements → Statement → List ℕ
own_bytes t s = cond (is_within t.ends t.text.bytes.items s)
    (slice_range t.text.bytes.items (own_start t.ends s) (own_end t.ends s)) []

-- the words of the objective's row, if the statement ends before them
abbrev pub row_bytes : List ℕ → Statement → List ℕ
row_bytes spelled s = cond s.is_cut spelled []

abbrev pub statement_in : Statements → Statement → Named Constraint
statement_in t s = with_text t.objective (own_bytes t s ++ row_bytes t.spelled.items s)

abbrev pub SpellsRow : Statements → Type 0
SpellsRow t = t.spelled.items ≡ words_after_spaces (row_words t.form t.objective t.objective)

-- these steps are kept of these derivations
pub record AreKept (t : Statements) (steps : List Step) (ds : List Derivation)
    : Type 0 where
  pub row : SpellsRow t
  pub last : slice_index (0 ∷ t.ends) (length t.ends) ≡ length t.text.bytes.items
  pub within : All
      (λ (s : Step). is_within t.ends t.text.bytes.items s.stated ≡ true)
      steps
  pub those : map (step_of (statement_in t)) steps ≡ map (as_text t.form t.objective) ds

-- a certificate of this problem, of which these lines of the solutions and these steps are kept
pub record AreStepsOf (c : Certificate) (p : Problem) (lines : List ℕ) (t : Statements)
    (steps : List Step) : Type 0 where
  pub writes : CanWrite c
  pub problem : c.problem ≡ p
  pub solutions : lines ≡ lines_text (solutions_lines c.solutions)
  pub row : SpellsRow t
  pub objective : t.objective ≡ c.problem.objective
  pub those : map (step_of (statement_in t)) steps ≡ map (as_text t.form t.objective) c.derivations

-- ---- their lines

abbrev pub step_line : Statements → Step → List ℕ
step_line t s = (own_bytes t s.stated ++ row_bytes t.spelled.items s.stated)
    ++ (codes " {" ++ (words_after_spaces (reason_words (kept_reason_of s.reason))
    ++ (codes " }" ++ (32 ∷ last_word s.last ++ codes "\n"))))

abbrev pub steps_section : Statements → List Step → List ℕ
steps_section t ss = line_text (heading (codes "DER") (length ss)) ++ flat_map (step_line t) ss

-- no more than so many pieces of 65,536 bytes
abbrev pub step_weight : Statements → Step → ℕ
step_weight t s = length (own_bytes t s.stated)
    + length (row_bytes t.spelled.items s.stated) + 8
    + length (reason_words (kept_reason_of s.reason))
