-- Steps whose names and constraints are kept in a text that grows
use Rattle.std.proofs.Common.{◌≡◌, ℕ, zero, suc, get_or, codes, IsTrue, ◌-◌, ◌<◌, ◌≤◌, Bool, true}
use Rattle.std.proofs.Common.{false, ◌&&◌, nat_lt, nat_le, cond, List, [], ◌∷◌, ◌++◌, length, map}
use Rattle.std.proofs.Common.{drop, slice_index, slice_range, All, refl, sym, ap, ap₂, ◌∙◌}
use Rattle.std.proofs.Common.{append_assoc, length-append, lt-ltb, arith, rules}
use Rattle.std.proofs.lemmas.Grind.{common_steps}
use Rattle.std.proofs.lemmas.List.{append-nil, take-append-le, drop-append-le, length-drop}
use Rattle.std.proofs.lemmas.List.{get_or_push, map_push}
use Rattle.std.proofs.lemmas.List.Elements.{All-push, All-head, All-tail, All-nil, All-cons}
use Rattle.std.proofs.{Math.Seq.take-length, Math.Seq.drop-length, lemmas.Bool.Decides.nat_tests}
use Rattle.std.specs.List.{flat_map}
use Rattle.vipr_spec.specs.Constraint.{Row, Constraint, equal}
use Rattle.vipr_spec.specs.Certificate.{Problem, Derivation, Certificate}
use Rattle.vipr_spec.specs.{Fraction.zero_ℚ}
use Rattle.vipr_write.specs.Canonical.{words_after_spaces, line_text, lines_text}
use Rattle.vipr_write.specs.Forms.{row_words, constraint_words_in, derivation_words_in}
use Rattle.vipr_write.specs.Forms.{problem_lines_in, text_in}
use Rattle.vipr_write.specs.declared.statements.Statement.{Statement}
use Rattle.vipr_write.specs.declared.statements.Statements.{Statements}
use Rattle.vipr_write.specs.Steps.{step_of, as_text, own_start, own_end, is_within, own_bytes}
use Rattle.vipr_write.specs.Steps.{row_bytes, statement_in, SpellsRow, AreKept, AreStepsOf}
use Rattle.vipr_write.specs.Steps.{step_line, steps_section}
use Rattle.vipr_write.specs.{Folded.stated_words, Lines.words_text, StepReasons.kept_reason_of}
use Rattle.vipr_write.specs.{declared.form.Form.Form, declared.statements.Step.Step}
use Rattle.vipr_write.proofs.Parts.{certificate_parts, derivation_parts_in}

both_true : (a b : Bool) → (a && b) ≡ true → (a ≡ true) × (b ≡ true)
both_true a b h = grind arith

at_most : (m n : ℕ) → nat_le m n ≡ true → m ≤ n
at_most m n e = grind (arith, nat_tests)

tests_true : (m n : ℕ) → m ≤ n → nat_le m n ≡ true
tests_true m n h = grind (arith, nat_tests)

-- a number of the ends, of which there is one more
end_same : (xs : List ℕ) (y i : ℕ) → i < length xs → get_or (xs ++ y ∷ []) i 0 ≡ get_or xs i 0
end_same [] y i h = absurd (omega arith)
end_same (x ∷ xs) y zero h = refl
end_same (x ∷ xs) y (suc i) h = end_same xs y i (omega arith)

within_parts : (ends text : List ℕ) (s : Statement) → is_within ends text s ≡ true
    → (s.index < length ends) × (own_start ends s ≤ own_end ends s) × (own_end ends s ≤ length text)
within_parts ends text s h =
    let a = both_true (nat_lt s.index (length ends))
    (nat_le (own_start ends s) (own_end ends s) && nat_le (own_end ends s) (length text)) h in
    let b = both_true (nat_le (own_start ends s) (own_end ends s)) (nat_le (own_end ends s) (length text)) a.1 in (
      below s.index (length ends) a.0,
      at_most (own_start ends s) (own_end ends s) b.0,
      at_most (own_end ends s) (length text) b.1,
    )
  where
    below : (m n : ℕ) → nat_lt m n ≡ true → m < n
    below m n e = grind (arith, nat_tests)

within_by : (ends text : List ℕ) (s : Statement) → s.index < length ends
    → own_start ends s ≤ own_end ends s → own_end ends s ≤ length text → is_within ends text s ≡ true
within_by ends text s a b d = ap₂ (λ x y. x && y) (lt-ltb s.index (length ends) a)
    (ap₂ (λ x y. x && y) (tests_true (own_start ends s) (own_end ends s) b)
    (tests_true (own_end ends s) (length text) d))

-- one more statement is behind the others
module _ (t u : Statements) (more : List ℕ) (ends : u.ends ≡ t.ends ++ length u.text.bytes.items
    ∷ []) (e : u.text.bytes.items ≡ t.text.bytes.items ++ more) where
  module _ (s : Statement) (here : is_within t.ends t.text.bytes.items s ≡ true) where
    parts : (s.index < length t.ends) × (own_start t.ends s ≤ own_end t.ends s)
        × (own_end t.ends s ≤ length t.text.bytes.items)
    parts = within_parts t.ends t.text.bytes.items s here

    same_start : own_start u.ends s ≡ own_start t.ends s
    same_start = ap (λ l. own_start l s) ends
        ∙ end_same (0 ∷ t.ends) (length u.text.bytes.items) s.index (omega (arith, parts.0))

    same_end : own_end u.ends s ≡ own_end t.ends s
    same_end = ap (λ l. own_end l s) ends ∙ end_same t.ends (length u.text.bytes.items) s.index parts.0

    within_more : is_within u.ends u.text.bytes.items s ≡ true
    within_more = search (rules, length-append, parts, same_start, same_end, within_by)

    own_same : own_bytes u s ≡ own_bytes t s
    own_same = search (
      rules,
      cond,
      slice_range,
      within_more,
      same_start,
      same_end,
      parts,
      length-drop,
      drop-append-le,
      take-append-le,
    )

  -- the last one
  module _ (s : Statement) (index : s.index ≡ length t.ends)
      (last : slice_index (0 ∷ t.ends) (length t.ends) ≡ length t.text.bytes.items) where
    last_start : own_start u.ends s ≡ length t.text.bytes.items
    last_start = ap (λ l. own_start l s) ends
        ∙ ap (λ i. slice_index (0 ∷ (t.ends ++ length u.text.bytes.items ∷ [])) i) index
        ∙ end_same (0 ∷ t.ends) (length u.text.bytes.items) (length t.ends) (omega arith) ∙ last

    last_end : own_end u.ends s ≡ length u.text.bytes.items
    last_end = ap (λ l. own_end l s) ends ∙ get_or_push t.ends (length u.text.bytes.items) 0 s.index (sym index)

    last_within : is_within u.ends u.text.bytes.items s ≡ true
    last_within = search (rules, length-append, last_start, last_end, within_by)

    last_own : own_bytes u s ≡ more
    last_own = search (
      rules,
      cond,
      slice_range,
      last_within,
      last_start,
      last_end,
      common_steps,
      length-append,
      drop-append-le,
      drop-length,
      take-length,
    )

  steps_same : (steps : List Step) → u.objective ≡ t.objective → u.spelled.items ≡ t.spelled.items
      → All (λ (s : Step). is_within t.ends t.text.bytes.items s.stated ≡ true) steps
      → (map (step_of (statement_in u)) steps ≡ map (step_of (statement_in t)) steps)
      × All (λ (s : Step). is_within u.ends u.text.bytes.items s.stated ≡ true) steps
  steps_same [] o r a = (refl, All-nil (λ (s : Step). is_within u.ends u.text.bytes.items s.stated ≡ true))
  steps_same (s ∷ steps) o r a =
      let P = λ (x : Step). is_within t.ends t.text.bytes.items x.stated ≡ true in
      let rest = steps_same steps o r (All-tail P s steps a) in
      let here = All-head P s steps a in
      let name : own_bytes u s.stated ++ row_bytes u.spelled.items s.stated ≡ own_bytes t s.stated
      ++ row_bytes t.spelled.items s.stated =
      ap₂ (λ x y. x ++ y) (own_same s.stated here) (ap (λ l. row_bytes l s.stated) r) in
      let one : step_of (statement_in u) s ≡ step_of (statement_in t) s = grind arith in (
        ap₂ (λ x l. x ∷ l) one rest.0,
        All-cons (λ (x : Step). is_within u.ends u.text.bytes.items x.stated ≡ true) s steps
            (within_more s.stated here) rest.1,
      )

pub kept_more : (t u : Statements) (more : List ℕ) (s : Step) (d : Derivation)
    (steps : List Step) (ds : List Derivation) → u.form ≡ t.form
    → u.objective ≡ t.objective → u.spelled.items ≡ t.spelled.items
    → u.text.bytes.items ≡ t.text.bytes.items ++ more
    → u.ends ≡ t.ends ++ length u.text.bytes.items ∷ []
    → s.stated.index ≡ length t.ends
    → (SpellsRow t → more ++ row_bytes t.spelled.items s.stated
    ≡ words_text (constraint_words_in t.form t.objective d.name d.stated))
    → kept_reason_of s.reason ≡ d.reason → s.last ≡ d.last
    → AreKept t steps ds → AreKept u (steps ++ s ∷ []) (ds ++ d ∷ [])
kept_more t u more s d steps ds f o r e ends index words reason last kept =
    let same = steps_same t u more ends e steps o r kept.within in
    let P = λ (x : Step). is_within u.ends u.text.bytes.items x.stated ≡ true in
    let name : own_bytes u s.stated ++ row_bytes u.spelled.items s.stated ≡ words_text
    (constraint_words_in u.form u.objective d.name d.stated) =
    ap₂ (λ x y. x ++ y) (last_own t u more ends e s.stated index kept.last) (ap (λ l. row_bytes l s.stated) r)
    ∙ words kept.row ∙ sym (ap₂ (λ g q. words_text (constraint_words_in g q d.name d.stated)) f o) in
    let one : step_of (statement_in u) s ≡ as_text u.form u.objective d =
    λ i. let x : Derivation =
    record {
      name = name i;
      stated = record { row = u.objective; sense = equal; bound = zero_ℚ };
      reason = reason i;
      last = last i;
    } in
    x in
    record {
      row = r ∙ kept.row ∙ sym (ap₂ (λ g q. words_after_spaces (row_words g q q)) f o);
      last = new_last t.ends (length u.text.bytes.items) u.ends ends;
      within = All-push P steps s same.1 (last_within t u more ends e s.stated index kept.last);
      those = map_push (step_of (statement_in u)) steps s
          ∙ ap₂ (λ l x. l ++ x ∷ []) (same.0 ∙ kept.those ∙ sym (ap₂ (λ g q. map (as_text g q) ds) f o)) one
          ∙ sym (map_push (as_text u.form u.objective) ds d);
    }
  where
    new_last : (xs : List ℕ) (y : ℕ) (ys : List ℕ) → ys ≡ xs ++ y ∷ [] → slice_index (0 ∷ ys) (length ys) ≡ y
    new_last xs y ys e =
        let n = length-append xs (y ∷ []) in
        ap (λ l. slice_index (0 ∷ l) (length l)) e ∙ get_or_push (0 ∷ xs) y 0 (length (xs ++ y ∷ [])) (omega arith)

-- ---- what is kept of one derivation

with_row : (name sense number row : List ℕ) → (name ++ (32 ∷ sense ++ (32 ∷ number ++ [])))
    ++ row ≡ name ++ (32 ∷ sense ++ (32 ∷ number ++ row))
with_row name sense number row = search (rules, append-nil, append_assoc)

pub words_are : (form : Form) (objective : Row) (spelled : List ℕ) (name : List ℕ) (c : Constraint)
    (is_same : Bool) → spelled ≡ words_after_spaces (row_words form objective objective)
    → (IsTrue is_same → row_words form objective c.row ≡ row_words form objective objective)
    → (words_text (stated_words name c)
    ++ cond is_same [] (words_after_spaces (row_words form objective c.row)))
    ++ cond is_same spelled [] ≡ words_text (constraint_words_in form objective name c)
words_are form objective spelled name c true row same = search (rules, append-nil, with_row)
words_are form objective spelled name c false row same = search (rules, append-nil, with_row)

-- ---- their lines

tail : (start mid word : List ℕ)
    → (((((start ++ codes " {") ++ mid) ++ codes " }") ++ 32 ∷ word) ++ codes "\n") ≡ start
    ++ (codes " {" ++ (mid ++ (codes " }" ++ (32 ∷ word ++ codes "\n"))))
tail start mid word = simp append_assoc

pub step_parts : (own row mid word : List ℕ)
    → (((((own ++ row) ++ (codes " {" ++ mid)) ++ codes " }") ++ 32 ∷ word) ++ codes "\n")
    ≡ (own ++ row) ++ (codes " {" ++ (mid ++ (codes " }" ++ (32 ∷ word ++ codes "\n"))))
step_parts own row mid word = simp append_assoc

pub first_of : (d : Derivation) (xs ys : List Derivation) (a b : Derivation) → a ∷ xs ≡ b ∷ ys
    → a ≡ b
first_of d xs ys a b e = ap (λ l. get_or l 0 d) e

pub rest_of : (xs ys : List Derivation) (a b : Derivation) → a ∷ xs ≡ b ∷ ys → xs ≡ ys
rest_of xs ys a b e = ap (drop 1) e

pub line_is : (form : Form) (objective : Row) (t : Statements) (s : Step) (d : Derivation)
    → step_of (statement_in t) s ≡ as_text form objective d
    → step_line t s ≡ line_text (derivation_words_in form objective d)
line_is form objective t s d e = grind (arith, common_steps, codes, derivation_parts_in, tail)

lines_are : (form : Form) (objective : Row) (t : Statements) (steps : List Step)
    (ds : List Derivation) → map (step_of (statement_in t)) steps ≡ map (as_text form objective) ds
    → (length steps ≡ length ds)
    × (flat_map (step_line t) steps ≡ lines_text (map (derivation_words_in form objective) ds))
lines_are form objective t [] [] e = (refl, refl)
lines_are form objective t [] (d ∷ ds) e = absurd (let n = ap length e in omega arith)
lines_are form objective t (s ∷ steps) [] e = absurd (let n = ap length e in omega arith)
lines_are form objective t (s ∷ steps) (d ∷ ds) e =
    let one = first_of d (map (step_of (statement_in t)) steps) (map (as_text form objective) ds)
    (step_of (statement_in t) s) (as_text form objective d) e in
    let others = lines_are form objective t steps ds
    (rest_of (map (step_of (statement_in t)) steps) (map (as_text form objective) ds)
    (step_of (statement_in t) s) (as_text form objective d) e) in
    (ap suc others.0, ap₂ (λ x l. x ++ l) (line_is form objective t s d one) others.1)

pub steps_are : (c : Certificate) (p : Problem) (ls : List ℕ) (t : Statements)
    (steps : List Step) → AreStepsOf c p ls t steps
    → (lines_text (problem_lines_in t.form p) ++ ls) ++ steps_section t steps ≡ text_in t.form c
steps_are c p ls t steps of = grind (arith, common_steps, lines_are, certificate_parts, codes)
