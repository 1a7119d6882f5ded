-- A text of few words and bytes is short
use Rattle.std.proofs.Common.{◌≡◌, ℕ, ◌+◌, ◌*◌, ◌^◌, ◌<◌, ◌≤◌, List, [], ◌∷◌, ◌++◌, length, map}
use Rattle.std.proofs.Common.{All, codes, sym, ap, ◌∙◌, subst, arith}
use Rattle.std.proofs.lemmas.List.{length-append, length-map}
use Rattle.std.proofs.lemmas.List.Elements.{All-head, All-tail}
use Rattle.std.proofs.{lemmas.Grind.flat_map-append, lemmas.List.Sums.sum_by-cons}
use Rattle.std.specs.List.{flat_map, sum_by}
use Rattle.vipr_spec.specs.Certificate.{Problem, Derivation, Certificate}
use Rattle.vipr_spec.specs.{Constraint.Row, Tokens.IsToken}
use Rattle.vipr_spec.proofs.Laws.{all_parts}
use Rattle.vipr_write.specs.Canonical.{reason_words, last_word, solutions_lines, heading}
use Rattle.vipr_write.specs.Canonical.{problem_lines, words_after_spaces, line_text, lines_text}
use Rattle.vipr_write.specs.Forms.{constraint_words_in, derivation_words_in, problem_lines_in}
use Rattle.vipr_write.specs.Forms.{derivations_lines_in, text_in}
use Rattle.vipr_write.specs.declared.statements.Statements.{Statements}
use Rattle.vipr_write.specs.declared.statements.Step.{Step}
use Rattle.vipr_write.specs.Steps.{step_of, as_text, own_bytes, row_bytes, statement_in, AreStepsOf}
use Rattle.vipr_write.specs.Steps.{step_line, steps_section, step_weight}
use Rattle.vipr_write.specs.{StepReasons.kept_reason_of, Weight.weight, declared.form.Form.Form}
use Rattle.vipr_write.proofs.Weighing.{spaced_short, line_short, lines_short, problem_fewer}
use Rattle.vipr_write.proofs.Kept.{first_of, rest_of, steps_are}
use Rattle.vipr_write.proofs.{LineTokens.words_of, WholeText.tokens_all}

-- the words of a reason and the one behind it are tokens
reason_tokens : (form : Form) (objective : Row) (d : Derivation)
    → All IsToken (derivation_words_in form objective d)
    → All IsToken (reason_words d.reason) × IsToken (last_word d.last)
reason_tokens form objective d a =
    let end = (all_parts IsToken (constraint_words_in form objective d.name d.stated)
    (codes "{" ∷ (reason_words d.reason ++ codes "}" ∷ last_word d.last ∷ [])) a).1 in
    let parts = all_parts IsToken (reason_words d.reason) (codes "}" ∷ last_word d.last ∷ [])
    (All-tail IsToken (codes "{") (reason_words d.reason ++ codes "}" ∷ last_word d.last ∷ [])
    end) in
    (parts.0, All-head IsToken (last_word d.last) [] (All-tail IsToken (codes "}") (last_word d.last ∷ []) parts.1))

step_short : (t : Statements) (s : Step) → All IsToken (reason_words (kept_reason_of s.reason))
    → IsToken (last_word s.last) → length (step_line t s) ≤ 65536 * step_weight t s
step_short t s reason last =
    let own = own_bytes t s.stated in
    let row = row_bytes t.spelled.items s.stated in
    let words = words_after_spaces (reason_words (kept_reason_of s.reason)) in
    let word = last_word s.last in
    let spaced = spaced_short (reason_words (kept_reason_of s.reason)) reason in
    let short = last.short in
    let a = length-append (own ++ row) (codes " {" ++ (words ++ (codes " }" ++ (32 ∷ word ++ codes "\n")))) in
    let b = length-append own row in
    let c = length-append words (codes " }" ++ (32 ∷ word ++ codes "\n")) in
    let d = length-append word (codes "\n") in
    omega (arith, spaced, short, a, b, c, d)

steps_short : (form : Form) (objective : Row) (t : Statements) (steps : List Step)
    (ds : List Derivation) → map (step_of (statement_in t)) steps ≡ map (as_text form objective) ds
    → All IsToken (words_of (map (derivation_words_in form objective) ds))
    → length (flat_map (step_line t) steps) ≤ 65536 * sum_by (step_weight t) steps
steps_short form objective t [] ds e a = omega arith
steps_short form objective t (s ∷ steps) [] e a = absurd (let n = ap length e in omega arith)
steps_short form objective t (s ∷ steps) (d ∷ ds) e a =
    let one = first_of d (map (step_of (statement_in t)) steps) (map (as_text form objective) ds)
    (step_of (statement_in t) s) (as_text form objective d) e in
    let parts = all_parts IsToken (derivation_words_in form objective d)
    (words_of (map (derivation_words_in form objective) ds)) a in
    let tokens = reason_tokens form objective d parts.0 in
    let reason = subst (λ r. All IsToken (reason_words r)) (sym (ap (λ (x : Derivation). x.reason) one)) tokens.0 in
    let last = subst (λ l. IsToken (last_word l)) (sym (ap (λ (x : Derivation). x.last) one)) tokens.1 in
    let rest = steps_short form objective t steps ds
    (rest_of (map (step_of (statement_in t)) steps) (map (as_text form objective) ds)
    (step_of (statement_in t) s) (as_text form objective d) e) parts.1 in
    let first = step_short t s reason last in
    omega (
      arith,
      first,
      rest,
      length-append (step_line t s) (flat_map (step_line t) steps),
      sum_by-cons (step_weight t) s steps,
    )

pub text_countable : (c : Certificate) (p : Problem) (ls : List ℕ) (t : Statements)
    (steps : List Step) → AreStepsOf c p ls t steps
    → weight (problem_lines p) + 3 + length ls + sum_by (step_weight t) steps < 2 ^ 48
    → length (text_in t.form c) < 2 ^ 64
text_countable c p ls t steps of few =
    let form = t.form in
    let ps = problem_lines_in form c.problem in
    let rs = solutions_lines c.solutions in
    let ds = derivations_lines_in form c.problem.objective c.derivations in
    let lines = map (derivation_words_in form c.problem.objective) c.derivations in
    let all = tokens_all form c of.writes in
    let split = all_parts IsToken (words_of ps) (words_of (rs ++ ds))
    (subst (All IsToken) (flat_map-append (λ l. l) ps (rs ++ ds)) all) in
    let later = all_parts IsToken (words_of rs) (words_of ds)
    (subst (All IsToken) (flat_map-append (λ l. l) rs ds) split.1) in
    let steps_tokens = (all_parts IsToken (heading (codes "DER") (length c.derivations)) (words_of lines) later.1) in
    let those = subst
    (λ o. map (step_of (statement_in t)) steps ≡ map (as_text form o) c.derivations)
    of.objective of.those in
    let h = steps_short form c.problem.objective t steps c.derivations those steps_tokens.1 in
    let p_short = lines_short ps split.0 in
    let p_fewer = problem_fewer form c.problem in
    let p_same = ap (λ q. weight (problem_lines q)) of.problem in
    let head = heading_short (length c.derivations) (length steps) steps_tokens.0
    (steps_count form c.problem.objective t steps c.derivations those) in
    let whole = ap length (steps_are c p ls t steps of) in
    let a = length-append (lines_text (problem_lines_in form p) ++ ls) (steps_section t steps) in
    let b = length-append (lines_text (problem_lines_in form p)) ls in
    let d = length-append (line_text (heading (codes "DER") (length steps))) (flat_map (step_line t) steps) in
    let p_text = ap (λ q. length (lines_text (problem_lines_in form q))) of.problem in
    omega (arith, few, h, p_short, p_fewer, p_same, head, whole, a, b, d, p_text)
  where
    steps_count : (form : Form) (objective : Row) (t : Statements) (steps : List Step)
        (ds : List Derivation) → map (step_of (statement_in t)) steps ≡ map (as_text form objective)
        ds → length ds ≡ length steps
    steps_count form objective t steps ds e = sym (sym (length-map steps (step_of (statement_in t)))
        ∙ ap length e ∙ length-map ds (as_text form objective))

    heading_short : (m n : ℕ) → All IsToken (heading (codes "DER") m) → m ≡ n
        → length (line_text (heading (codes "DER") n)) ≤ 65536 * 3
    heading_short m n a e = subst (λ k. length (line_text (heading (codes "DER") k)) ≤ 65536 * 3) e
        (line_short (heading (codes "DER") m) a)
