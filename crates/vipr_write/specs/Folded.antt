-- A text in which the words of the objective's row are there once, with marks in place of their
-- copies
use Rattle.std.specs.Prelude.{◌≡◌, ℕ, ◌≤◌, false, List, [], ◌∷◌, ◌++◌, length, take, drop, sum}
use Rattle.std.specs.Prelude.{Result, OnOk, OnErr}
use Rattle.vipr_spec.specs.Constraint.{Row, Constraint}
use Rattle.vipr_spec.specs.{Certificate.Name, Number.number_text}
use Rattle.vipr_write.specs.{Canonical.sense_word, Canonical.words_after_spaces, Forms.row_words}
use Rattle.vipr_write.specs.{declared.folded.Folded.Folded, declared.form.Form.Form}

-- The text with the part at each mark. A mark follows so many bytes of the text after the one
-- before it.
abbrev pub expanded : List ℕ → List ℕ → List ℕ → List ℕ
expanded part [] text = text
expanded part (n ∷ ns) text = take n text ++ (part ++ expanded part ns (drop n text))

abbrev pub full : Folded → List ℕ
full f = expanded f.spelled.items f.gaps.items f.text.bytes.items

-- the marks are within the text, and mean what is written for the objective's row
pub record IsFolded (f : Folded) : Type 0 where
  pub marks : sum f.gaps.items ≡ f.marked
  pub within : f.marked ≤ length f.text.bytes.items
  pub row : f.spelled.items ≡ words_after_spaces (row_words f.form f.objective f.objective)

-- no growth was refused
abbrev pub IsIntact : Folded → Type 0
IsIntact f = IsFolded f × (f.text.failed ≡ false)

abbrev pub IsEmpty : Folded → Type 0
IsEmpty f = (f.text.bytes.items ≡ []) × (f.text.failed ≡ false) × (f.gaps.items ≡ [])
    × (f.marked ≡ 0)

-- nothing is done unless a growth was refused; then it is emptied
pub record KeepsOrEmpties {A E : Type 0} (old new : Folded) (result : Result A E) : Type 0 where
  pub form : new.form ≡ old.form
  pub objective : new.objective ≡ old.objective
  pub spelled : new.spelled ≡ old.spelled
  pub ok : OnOk result ((old.text.failed ≡ false) × (new ≡ old))
  pub err : OnErr result (IsEmpty new)

-- it was extended by these bytes, unless a growth was refused
pub record FoldsBy (first : Folded) (text : List ℕ) (now : Folded) : Type 0 where
  pub form : now.form ≡ first.form
  pub objective : now.objective ≡ first.objective
  pub spelled : now.spelled ≡ first.spelled
  pub bytes : now.text.failed ≡ false → (first.text.failed ≡ false)
      × (IsFolded first → IsFolded now × (full now ≡ full first ++ text))

-- the beginning of a text in a form, over this objective
pub record Begun : Type 0 where
  pub form : Form
  pub objective : Row
  pub bytes : List ℕ

abbrev pub begun : Folded → Begun
begun f = record { form = f.form; objective = f.objective; bytes = full f }

-- with these bytes more
abbrev pub with_more_bytes : Begun → List ℕ → Begun
with_more_bytes b more = record b { bytes = b.bytes ++ more }

abbrev pub with_no_bytes : Begun → Begun
with_no_bytes b = record b { bytes = [] }

-- the words of a constraint up to its row
abbrev pub stated_words : Name → Constraint → List (List ℕ)
stated_words name c = name ∷ sense_word c.sense ∷ number_text c.bound ∷ []
