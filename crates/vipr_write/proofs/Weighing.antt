-- A text of few words is short
use Rattle.std.proofs.Common.{◌≡◌, ℕ, suc, ◌+◌, ◌*◌, ◌^◌, ◌<◌, ◌≤◌, List, [], ◌∷◌, ◌++◌, length}
use Rattle.std.proofs.Common.{map, take, get_or, All, refl, sym, ap, ◌∙◌, arith, rules}
use Rattle.std.proofs.lemmas.List.Sums.{sum_by-append, sum_by-cons}
use Rattle.std.proofs.lemmas.List.Elements.{All-head, All-tail}
use Rattle.std.proofs.{lemmas.Grind.common_steps, lemmas.List.length-append, lemmas.List.take_more}
use Rattle.std.specs.{FinMap.entries, Fmt.decimal, List.flat_map, List.sum_by, Prelude.codes}
use Rattle.vipr_spec.specs.Constraint.{Row, Constraint}
use Rattle.vipr_spec.specs.Certificate.{Name, Named, Claim, Derivation, Certificate, Problem}
use Rattle.vipr_spec.specs.Certificate.{integer_variables}
use Rattle.vipr_spec.specs.{Fraction.ℚ, Shape.CanWrite, Tokens.IsToken}
use Rattle.vipr_spec.proofs.Laws.{all_parts}
use Rattle.vipr_write.specs.Canonical.{pair_words, constraint_words, given_words, claim_words}
use Rattle.vipr_write.specs.Canonical.{solution_words, reason_words, derivation_words, last_word}
use Rattle.vipr_write.specs.Canonical.{direction_word, vector_words, heading, variables_lines}
use Rattle.vipr_write.specs.Canonical.{problem_lines, words_after_spaces, line_text, lines_text}
use Rattle.vipr_write.specs.Canonical.{certificate_lines}
use Rattle.vipr_write.specs.Forms.{problem_lines_in, certificate_lines_in, text_in}
use Rattle.vipr_write.specs.{Weight.weight, declared.form.Form.Form}
use Rattle.vipr_bytes.specs.Hands.{counted}
use Rattle.vipr_write.proofs.{LineTokens.words_of, WholeText.tokens_all}

-- ---- how long a text is
pub spaced_short : (ws : List (List ℕ)) → All IsToken ws
    → length (words_after_spaces ws) ≤ 65536 * length ws
spaced_short [] a = omega arith
spaced_short (w ∷ ws) a =
    let first = (All-head IsToken w ws a).short in
    let rest = spaced_short ws (All-tail IsToken w ws a) in
    omega (arith, length-append w (words_after_spaces ws), first, rest)

pub line_short : (ws : List (List ℕ)) → All IsToken ws
    → length (line_text ws) ≤ 65536 * suc (length ws)
line_short [] a = omega arith
line_short (w ∷ ws) a =
    let first = (All-head IsToken w ws a).short in
    let rest = spaced_short ws (All-tail IsToken w ws a) in
    omega (
      arith,
      length-append w (words_after_spaces ws ++ 10 ∷ []),
      length-append (words_after_spaces ws) (10 ∷ []),
      first,
      rest,
    )

pub lines_short : (ls : List (List (List ℕ))) → All IsToken (words_of ls)
    → length (lines_text ls) ≤ 65536 * weight ls
lines_short [] a = omega arith
lines_short (l ∷ ls) a =
    let parts = all_parts IsToken l (words_of ls) a in
    let first = line_short l parts.0 in
    let rest = lines_short ls parts.1 in
    omega (
      arith,
      length-append (line_text l) (lines_text ls),
      sum_by-cons (λ (ws : List (List ℕ)). suc (length ws)) l ls,
      first,
      rest,
    )

-- ---- how many words and ends of lines there are
pub pairs_length : (ps : List (ℕ × ℚ)) → length (flat_map pair_words ps) ≡ 2 * length ps
pairs_length [] = refl
pairs_length (p ∷ ps) = let rest = pairs_length ps in omega (arith, rest)

pub weight-append : (ls ms : List (List (List ℕ))) → weight (ls ++ ms) ≡ weight ls + weight ms
weight-append ls ms = sum_by-append (λ (ws : List (List ℕ)). suc (length ws)) ls ms

sum_next : {X : Type 0} (f : X → ℕ) (xs : List X) (i : ℕ) (d : X) → i < length xs
    → sum_by f (take (i + 1) xs) ≡ sum_by f (take i xs) + f (get_or xs i d)
sum_next f xs i d l = grind (arith, common_steps, sum_by-cons, take_more, sum_by-append)

-- as many as the first items have, and start before
abbrev pub Weighs : {X : Type 0} → (X → ℕ) → List X → ℕ → ℕ → ℕ → Type 0
Weighs f xs i start total = total ≡ counted (start + sum_by f (take i xs))

pub weighs_next : {X : Type 0} (f : X → ℕ) (xs : List X) (i : ℕ) (x : X) (start total now more : ℕ)
    → i < length xs → x ≡ get_or xs i x → Weighs f xs i start total → f x ≡ more
    → now ≡ counted (total + more) → Weighs f xs (i + 1) start now
weighs_next f xs i x start total now more l is before same after =
    let e = sum_next f xs i x l in
    let here = ap f is in
    omega (arith, e, here, before, same, after)

-- lines of one word
pub ones_weight : {X : Type 0} (f : X → List ℕ) (xs : List X)
    → weight (map (λ x. f x ∷ []) xs) ≡ 2 * length xs
ones_weight f [] = refl
ones_weight f (x ∷ xs) =
    let rest = ones_weight f xs in
    omega (arith, rest, sum_by-cons (λ (ws : List (List ℕ)). suc (length ws)) (f x ∷ []) (map (λ x. f x ∷ []) xs))

-- ---- the lines of items
same_entries : (es fs : List (ℕ × ℚ)) → es ≡ fs → length (flat_map pair_words fs) ≡ 2 * length es
same_entries es fs e = ap (λ gs. length (flat_map pair_words gs)) (sym e) ∙ pairs_length es

pub constraint_weight : (name : Name) (c : Constraint) (es : List (ℕ × ℚ)) → es ≡ entries c.row
    → suc (length (constraint_words name c)) ≡ 5 + 2 * length es
constraint_weight name c es e = let h = same_entries es (entries c.row) e in omega (arith, h)

pub solution_weight : (s : Named Row) (es : List (ℕ × ℚ)) → es ≡ entries s.item
    → suc (length (solution_words s)) ≡ 3 + 2 * length es
solution_weight s es e = let h = same_entries es (entries s.item) e in omega (arith, h)

pub derivation_weight : (d : Derivation) (es : List (ℕ × ℚ)) → es ≡ entries d.stated.row
    → suc (length (derivation_words d)) ≡ 8 + 2 * length es + length (reason_words d.reason)
derivation_weight d es e =
    let stated = constraint_weight d.name d.stated es e in
    let first = length-append (constraint_words d.name d.stated)
    (codes "{" ∷ (reason_words d.reason ++ codes "}" ∷ last_word d.last ∷ [])) in
    let second = length-append (reason_words d.reason) (codes "}" ∷ last_word d.last ∷ []) in
    omega (arith, stated, first, second)

pub in_turn : (total more reason middle now : ℕ) → middle ≡ counted (total + more)
    → now ≡ counted (middle + reason) → now ≡ counted (total + (more + reason))
in_turn total more reason middle now first second = omega (arith, first, second)

-- ---- the lines of a problem
weight-cons : (l : List (List ℕ)) (ls : List (List (List ℕ)))
    → weight (l ∷ ls) ≡ suc (length l) + weight ls
weight-cons l ls = sum_by-cons (λ (ws : List (List ℕ)). suc (length ws)) l ls

front_weight : (v w i : List (List ℕ)) (ns js : List (List (List ℕ)))
    → weight (v ∷ w ∷ (ns ++ i ∷ js)) ≡ suc (length v)
    + (suc (length w) + (weight ns + (suc (length i) + weight js)))
front_weight v w i ns js = search (rules, weight-cons, weight-append)

back_weight : (o v c k : List (List ℕ)) (cs : List (List (List ℕ)))
    → weight (o ∷ v ∷ c ∷ (cs ++ k ∷ [])) ≡ suc (length o)
    + (suc (length v) + (suc (length c) + (weight cs + weight (k ∷ []))))
back_weight o v c k cs = search (rules, weight-cons, weight-append)

problem_is : (p : Problem) → weight (problem_lines p) ≡ 18 + weight (claim_words p.claim ∷ [])
    + 2 * length p.names + 2 * length (integer_variables p) + 2 * length (entries p.objective)
    + weight (map given_words p.constraints)
problem_is p =
    let back = (codes "OBJ" ∷ direction_word p.direction ∷ []) ∷ vector_words p.objective
    ∷ (codes "CON" ∷ decimal (length p.constraints) ∷ decimal p.bound_count ∷ [])
    ∷ (map given_words p.constraints ++ claim_words p.claim ∷ []) in
    let all = weight-append (variables_lines p) back in
    let first = front_weight (codes "VER" ∷ codes "1.0" ∷ [])
    (heading (codes "VAR") (length p.names))
    (heading (codes "INT") (length (integer_variables p))) (map (λ name. name ∷ []) p.names)
    (map (λ j. decimal j ∷ []) (integer_variables p)) in
    let second = back_weight (codes "OBJ" ∷ direction_word p.direction ∷ [])
    (vector_words p.objective) (codes "CON" ∷ decimal (length p.constraints)
    ∷ decimal p.bound_count ∷ []) (claim_words p.claim) (map given_words p.constraints) in
    let names = ones_weight (λ name. name) p.names in
    let members = ones_weight decimal (integer_variables p) in
    let terms = pairs_length (entries p.objective) in
    let sum = all ∙ (λ i. first i + second i) in
    omega (arith, sum, names, members, terms)

pub problem_counted : (p : Problem) (names : List (List ℕ)) (js : List ℕ) (objective : Row)
    (es : List (ℕ × ℚ)) (cons : List (Named Constraint)) (claim : Claim)
    (k first second third total : ℕ) →
    names ≡ p.names → js ≡ integer_variables p → objective ≡ p.objective → es ≡ entries objective
    → cons ≡ p.constraints → claim ≡ p.claim → k ≡ weight (claim_words claim ∷ []) →
    first ≡ counted (18 + (k + 2 * length names)) → second ≡ counted (first + (0 + 2 * length js))
    → third ≡ counted (second + (0 + 2 * length es))
    → total ≡ counted (third + weight (map given_words cons))
    → total ≡ counted (weight (problem_lines p))
problem_counted p names js objective es cons claim k first second third total a b c d e f g h i j
    l = search (rules, problem_is)

-- ---- in the compact form there are no more of them
lines_fewer : {X : Type 0} (f g : X → List (List ℕ)) → ((x : X) → length (f x) ≤ length (g x))
    → (xs : List X) → weight (map f xs) ≤ weight (map g xs)
lines_fewer f g h [] = omega arith
lines_fewer f g h (x ∷ xs) = omega (
  arith,
  h x,
  lines_fewer f g h xs,
  weight-cons (f x) (map f xs),
  weight-cons (g x) (map g xs),
)

pub problem_fewer : (form : Form) (p : Problem)
    → weight (problem_lines_in form p) ≤ weight (problem_lines p)
problem_fewer form p = grind (arith, common_steps, lines_fewer, weight-append, back_weight)

certificate_fewer : (form : Form) (c : Certificate)
    → weight (certificate_lines_in form c) ≤ weight (certificate_lines c)
certificate_fewer form c = search (
  rules,
  problem_fewer,
  weight-append,
  common_steps,
  lines_fewer,
  weight-cons,
  length-append,
)

pub text_short : (form : Form) (c : Certificate) → CanWrite c
    → weight (certificate_lines c) < 2 ^ 48 → length (text_in form c) < 2 ^ 64
text_short form c w few =
    let short = lines_short (certificate_lines_in form c) (tokens_all form c w) in
    omega (arith, few, short, certificate_fewer form c)
