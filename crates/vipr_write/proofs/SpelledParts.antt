-- What spells each part of a certificate, and the whole
use Rattle.std.proofs.Common.{◌≡◌, ℕ, ◌+◌, ◌<◌, ◌≤◌, inl, inr, ⊎_elim, Bool, true, false}
use Rattle.std.proofs.Common.{if◌then◌else◌, List, [], ◌∷◌, ◌++◌, length, All, Option, IfSome}
use Rattle.std.proofs.Common.{codes, arith, refl, sym, subst, append_assoc, append-nil}
use Rattle.std.proofs.{lemmas.Grind.flat_map-append, lemmas.List.Folds.flat_map-map}
use Rattle.std.specs.{FinMap.entries, Fmt.decimal, List.flat_map}
use Rattle.vipr_spec.specs.Number.{SpellsNumber, number_text}
use Rattle.vipr_spec.specs.Constraint.{Sense, Row, Ints, at, IsInteger, Constraint, NamesBelow}
use Rattle.vipr_spec.specs.Certificate.{Name, Named, Direction, Claim, infeasible, range, Problem}
use Rattle.vipr_spec.specs.Certificate.{variables, integer_variables, Reason, asm, lin, rnd, uns}
use Rattle.vipr_spec.specs.Certificate.{sol, Derivation, Certificate}
use Rattle.vipr_spec.specs.Shape.{ReasonShape, DerivationShape, RowFits, ConstraintFits, ClaimFits}
use Rattle.vipr_spec.specs.Shape.{EntryFits, ReasonFits, DerivationFits, CanWriteProblem, CanWrite}
use Rattle.vipr_spec.specs.Grammar.{SpellsCount, SpellsVariable, SpellsSense, SpellsDirection}
use Rattle.vipr_spec.specs.Grammar.{SpellsBound, SpellsLast, word, one, ◌then◌, each}
use Rattle.vipr_spec.specs.{Fraction.ℚ, Fraction.IsBounded, Reading.most_count, Tokens.IsToken}
use Rattle.vipr_spec.specs.Grammar as grammar
use Rattle.vipr_spec.proofs.Laws.{text_spelled, row_below, set_below}
use Rattle.vipr_write.specs.Canonical.{pair_words, vector_words, sense_word, direction_word}
use Rattle.vipr_write.specs.Canonical.{bound_word, last_word, claim_words, solution_words}
use Rattle.vipr_write.specs.Canonical.{reason_words}
use Rattle.vipr_write.specs.Forms.{is_objective, row_words, constraint_words_in, given_words_in}
use Rattle.vipr_write.specs.Forms.{derivation_words_in, problem_lines_in, certificate_lines_in}
use Rattle.vipr_write.specs.declared.form.Form.{Form}
use Rattle.vipr_write.specs.declared.form.Form.TheVariants.{Canonical, Compact}
use Rattle.vipr_write.proofs.RowEntries.{row_entries, set_members}
use Rattle.vipr_write.proofs.SpelledNumbers.{number_bounded}
use Rattle.vipr_write.proofs.WordTokens.{plain_token, decimal_token, decimal_natural, number_token}
use Rattle.vipr_write.proofs.Spelling.{Written, Spelling, one_part, word_part, fixed_part}
use Rattle.vipr_write.proofs.Spelling.{count_part, as_part, with_part, then_part, behind, each_part}
use Rattle.vipr_write.proofs.Spelling.{counted_part}
use Rattle.vipr_write.proofs.{LineTokens.words_of, SameRows.objective_is, SpelledRows.row_fits}

-- ---- one token

number_part : (x : ℚ) → Spelling (one SpellsNumber x) (IsBounded x) (number_text x ∷ [])
number_part x = one_part SpellsNumber x (number_text x) (λ b. (number_token x b, text_spelled x b))
    (λ t s. number_bounded t x s)

sense_part : (s : Sense) → Spelling (one SpellsSense s) (Unit {0}) (sense_word s ∷ [])
sense_part s = grind (arith, plain_token)

direction_part : (d : Direction)
    → Spelling (one SpellsDirection d) (Unit {0}) (direction_word d ∷ [])
direction_part d = grind (arith, plain_token)

bound_part : (infinite : List ℕ) (x : Option ℚ) → IsToken infinite
    → Spelling (one (SpellsBound infinite) x) (IfSome x IsBounded) (bound_word infinite x ∷ [])
bound_part infinite x t = grind (arith, number_token, text_spelled, number_bounded)

last_part : (last : Option ℕ)
    → Spelling (one SpellsLast last) (IfSome last (λ i. i ≤ most_count)) (last_word last ∷ [])
last_part last = grind (arith, plain_token, decimal_token, decimal_natural)

-- ---- claims and reasons

claim_part : (c : Claim) → Spelling (grammar.claim c) (ClaimFits c) (claim_words c)
claim_part infeasible = behind (fixed_part (codes "RTP") refl) (fixed_part (codes "infeas") refl)
claim_part (range lower upper) =
    behind (fixed_part (codes "RTP") refl)
    (behind (fixed_part (codes "range") refl)
    (then_part (bound_part (codes "-inf") lower (plain_token (codes "-inf") refl))
    (bound_part (codes "inf") upper (plain_token (codes "inf") refl))))

entry_part : (e : ℕ × ℚ) → Spelling (grammar.entry e) (EntryFits e) (pair_words e)
entry_part e = then_part (count_part e.0) (number_part e.1)

reason_part : (r : Reason)
    → Spelling (grammar.reason r) (ReasonShape r × ReasonFits r) (reason_words r)
reason_part asm = as_part (λ h. tt) (λ h. (tt, tt)) (fixed_part (codes "asm") refl)
reason_part (lin es) = behind (fixed_part (codes "lin") refl)
    (counted_part grammar.entry EntryFits pair_words entry_part es)
reason_part (rnd es) = behind (fixed_part (codes "rnd") refl)
    (counted_part grammar.entry EntryFits pair_words entry_part es)
reason_part (uns i1 l1 i2 l2) =
    as_part (λ h. (h.1.0, (h.1.1, (h.1.2, h.1.3)))) (λ h. (tt, (h.0, h.1.0, h.1.1.0, h.1.1.1)))
    (behind (fixed_part (codes "uns") refl)
    (then_part (count_part i1)
    (then_part (count_part l1) (then_part (count_part i2) (count_part l2)))))
reason_part sol = as_part (λ h. tt) (λ h. (tt, tt)) (fixed_part (codes "sol") refl)

names_part : (ns : List Name) → Spelling (grammar.names ns)
    ((length ns ≤ most_count) × All IsToken ns)
    (codes "VAR" ∷ decimal (length ns) ∷ flat_map (λ name. name ∷ []) ns)
names_part ns = behind (fixed_part (codes "VAR") refl) (counted_part word IsToken (λ name. name ∷ []) word_part ns)

-- ---- over n variables

-- it names these alone, and can be written
pub record GoodRow (n : ℕ) (row : Row) : Type 0 where
  pub below : NamesBelow n (at row)
  pub fits : RowFits row

-- its name is a token, and its row and its bound are good
abbrev IsGood : ℕ → Name → Constraint → Type 0
IsGood n name c = IsToken name × NamesBelow n (at c.row) × ConstraintFits c

module _ (n : ℕ) (few : n ≤ most_count) where
  variable_part : (i : ℕ) → Spelling (one (SpellsVariable n) i) (i < n) (decimal i ∷ [])
  variable_part i = one_part (SpellsVariable n) i (decimal i) (λ h. let small : i ≤ most_count =
      omega arith in (decimal_token i small, (decimal_natural i small, h))) (λ t s. s.1)

  pairs_part : (ps : List (ℕ × ℚ))
      → Spelling (one SpellsCount (length ps) then each (grammar.pair n) ps)
      ((length ps ≤ most_count) × All (λ p. (p.0 < n) × IsBounded p.1) ps)
      (decimal (length ps) ∷ flat_map pair_words ps)
  pairs_part ps = counted_part (grammar.pair n) (λ p. (p.0 < n) × IsBounded p.1) pair_words
      (λ p. then_part (variable_part p.0) (number_part p.1)) ps

  vector_part : (row : Row) → Spelling (grammar.vector n row) (GoodRow n row) (vector_words row)
  vector_part row = record {
    written = λ good.
        let es = row_entries n row good.below (λ k d h. (good.fits k d h).0) in
        let count : length (entries row) ≤ most_count = let l = es.few in omega arith in
        let body = (pairs_part (entries row)).written (count, λ k d h. (es.below k d h, (good.fits k d h).1)) in
        record { tokens = body.tokens; shape = (entries row, es.distinct, es.again, body.shape) };
    limits = λ ts a s.
        let all = (pairs_part s.0).limits ts a s.3 in
        subst (GoodRow n) (sym s.2)
        (record {
          below = row_below n s.0 (λ k d h. (all.1 k d h).0);
          fits = row_fits s.0 (λ k d h. (all.1 k d h).1);
        });
  }

  solution_part : (s : Named Row)
      → Spelling (grammar.solution n s) (IsToken s.name × GoodRow n s.item) (solution_words s)
  solution_part s = then_part (word_part s.name) (vector_part s.item)

  solutions_part : (ss : List (Named Row))
      → Spelling (grammar.solutions n ss)
      ((length ss ≤ most_count) × All (λ s. IsToken s.name × GoodRow n s.item) ss)
      (codes "SOL" ∷ decimal (length ss) ∷ flat_map solution_words ss)
  solutions_part ss = behind (fixed_part (codes "SOL") refl)
      (counted_part (grammar.solution n) (λ s. IsToken s.name × GoodRow n s.item) solution_words
      solution_part ss)

  objective_part : (d : Direction) (row : Row)
      → Spelling (grammar.objective n d row) (GoodRow n row)
      (codes "OBJ" ∷ direction_word d ∷ vector_words row)
  objective_part d row = behind (fixed_part (codes "OBJ") refl) (behind (direction_part d) (vector_part row))

  -- over a good objective
  module _ (form : Form) (objective : Row) (good : GoodRow n objective) where
    spelled_out : (row : Row) → GoodRow n row → Written (grammar.coefficients n objective row) (vector_words row)
    spelled_out row h = let v = (vector_part row).written h in record { tokens = v.tokens; shape = inl v.shape }

    row_written : (form : Form) (row : Row) → GoodRow n row
        → Written (grammar.coefficients n objective row) (row_words form objective row)
    row_written Canonical row h = spelled_out row h
    row_written Compact row h = by (is_objective objective row) refl
      where
        by : (b : Bool) → is_objective objective row ≡ b
            → Written (grammar.coefficients n objective row)
            (if b then codes "OBJ" ∷ [] else vector_words row)
        by true e =
            let w = (fixed_part (codes "OBJ") refl).written tt in
            record { tokens = w.tokens; shape = inr (w.shape, objective_is objective row e) }
        by false e = spelled_out row h

    row_part : (row : Row) → Spelling (grammar.coefficients n objective row) (GoodRow n row)
        (row_words form objective row)
    row_part row = record {
      written = row_written form row;
      limits = λ ts a s. ⊎_elim
          (λ (v : grammar.vector n row ts). (vector_part row).limits ts a v)
          (λ (v : word (codes "OBJ") ts × (row ≡ objective)). subst (GoodRow n) (sym v.1) good)
          s;
    }

    constraint_part : (name : Name) (c : Constraint)
        → Spelling (grammar.constraint n objective name c) (IsGood n name c)
        (constraint_words_in form objective name c)
    constraint_part name c =
        as_part (λ h. (h.0, (h.2.1, record { below = h.1; fits = h.2.0 })))
        (λ h. (h.0, h.1.1.below, (h.1.1.fits, h.1.0)))
        (then_part (word_part name) (behind (sense_part c.sense) (then_part (number_part c.bound) (row_part c.row))))

    constraints_part : (bound_count : ℕ) (cs : List (Named Constraint))
        → Spelling (grammar.constraints n objective bound_count cs)
        ((length cs ≤ most_count)
        × ((bound_count ≤ most_count) × All (λ c. IsGood n c.name c.item) cs))
        (codes "CON" ∷ decimal (length cs) ∷ decimal bound_count ∷ flat_map (given_words_in form objective) cs)
    constraints_part bound_count cs =
        behind (fixed_part (codes "CON") refl)
        (then_part (count_part (length cs))
        (then_part (count_part bound_count)
        (each_part (λ c. grammar.constraint n objective c.name c.item) (λ c. IsGood n c.name c.item)
        (given_words_in form objective) (λ c. constraint_part c.name c.item) cs)))

    derivation_part : (d : Derivation)
        → Spelling (grammar.constraint n objective d.name d.stated then word
        (codes "{") then grammar.reason d.reason then word (codes "}") then one SpellsLast d.last)
        (DerivationShape n d × DerivationFits d) (derivation_words_in form objective d)
    derivation_part d =
        as_part
        (λ h. ((h.0.name, h.0.row, h.1.stated), ((h.0.reason, h.1.reason), h.1.last)))
        (λ h. (
          record { name = h.0.0; row = h.0.1; reason = h.1.0.0 },
          record { stated = h.0.2; reason = h.1.0.1; last = h.1.1 },
        ))
        (then_part (constraint_part d.name d.stated)
        (behind (fixed_part (codes "{") refl)
        (then_part (reason_part d.reason)
        (behind (fixed_part (codes "}") refl) (last_part d.last)))))

-- the variables that are to be whole
integers_part : (p : Problem) → variables p ≤ most_count
    → Spelling (grammar.integers (variables p) p.integers)
    ((j : ℕ) → IsInteger p.integers j → j < variables p) (codes "INT"
    ∷ decimal (length (integer_variables p)) ∷ flat_map (λ j. decimal j ∷ []) (integer_variables p))
integers_part p few = record {
  written = λ h.
      let members = set_members p h in
      let count : length (integer_variables p) ≤ most_count = let l = members.few in omega arith in
      let body = (listed (integer_variables p)).written (count, members.below) in
      record { tokens = body.tokens; shape = (integer_variables p, members.again, body.shape) };
  limits = λ ts a s. subst (λ (is : Ints). (j : ℕ) → IsInteger is j → j < variables p) (sym s.1)
      (set_below (variables p) s.0 ((listed s.0).limits ts a s.2).1);
}
  where
    listed : (is : List ℕ)
        → Spelling (word (codes "INT") then one SpellsCount (length is) then each
        (one (SpellsVariable (variables p))) is)
        ((length is ≤ most_count) × All (λ i. i < variables p) is)
        (codes "INT" ∷ decimal (length is) ∷ flat_map (λ j. decimal j ∷ []) is)
    listed is = behind (fixed_part (codes "INT") refl)
        (counted_part (one (SpellsVariable (variables p))) (λ i. i < variables p)
        (λ j. decimal j ∷ []) (variable_part (variables p) few) is)

-- ---- the whole

abbrev problem_words : Form → Problem → List (List ℕ)
problem_words form p =
    codes "VER" ∷ codes "1.0" ∷ ((codes "VAR" ∷ decimal (variables p) ∷ flat_map (λ name. name ∷ []) p.names)
    ++ ((codes "INT" ∷ decimal (length (integer_variables p)) ∷ flat_map (λ j. decimal j ∷ []) (integer_variables p))
    ++ ((codes "OBJ" ∷ direction_word p.direction ∷ vector_words p.objective)
    ++ ((codes "CON" ∷ decimal (length p.constraints) ∷ decimal p.bound_count
    ∷ flat_map (given_words_in form p.objective) p.constraints)
    ++ claim_words p.claim))))

problem_part : (form : Form) (p : Problem)
    → Spelling (grammar.problem p) (CanWriteProblem p) (problem_words form p)
problem_part form p =
    as_part
    (λ w. (
      (w.shape.few_names, w.shape.names),
      (
        w.shape.integers,
        (
          record { below = w.shape.objective; fits = w.fits.objective },
          (
            (
              w.shape.few_constraints,
              (
                w.fits.bound_count,
                λ k d h. let c = w.shape.constraints k d h in
                    (c.name, c.row, w.fits.constraints k d h),
              ),
            ),
            w.fits.claim,
          ),
        ),
      ),
    ))
    (λ h. grind arith)
    (behind (behind (fixed_part (codes "VER") refl) (fixed_part (codes "1.0") refl))
    (with_part (names_part p.names) (λ names.
    then_part (integers_part p names.0)
    (with_part (objective_part (variables p) names.0 p.direction p.objective) (λ good.
    then_part (constraints_part (variables p) names.0 form p.objective good p.bound_count
    p.constraints) (claim_part p.claim))))))

derivations_part : (form : Form) (p : Problem) → variables p ≤ most_count
    → GoodRow (variables p) p.objective → (ds : List Derivation)
    → Spelling (grammar.derivations p ds) ((length p.constraints + length ds ≤ most_count)
    × All (λ d. DerivationShape (variables p) d × DerivationFits d) ds)
    (codes "DER" ∷ decimal (length ds) ∷ flat_map (derivation_words_in form p.objective) ds)
derivations_part form p few good ds = record {
  written = λ h.
      let small : length ds ≤ most_count = let l = h.0 in omega arith in
      let body = listed.written (small, h.1) in
      record { tokens = body.tokens; shape = (h.0, body.shape) };
  limits = λ ts a s. (s.0, (listed.limits ts a s.1).1);
}
  where
    listed : Spelling
        (word (codes "DER") then one SpellsCount (length ds) then each (grammar.derivation p) ds)
        ((length ds ≤ most_count) × All (λ d. DerivationShape (variables p) d × DerivationFits d)
        ds) (codes "DER" ∷ decimal (length ds) ∷ flat_map (derivation_words_in form p.objective) ds)
    listed = behind (fixed_part (codes "DER") refl)
        (counted_part (grammar.derivation p)
        (λ d. DerivationShape (variables p) d × DerivationFits d)
        (derivation_words_in form p.objective)
        (derivation_part (variables p) few form p.objective good) ds)

abbrev pub Sections : Certificate → List (List ℕ) → Type 0
Sections c = grammar.problem c.problem then grammar.solutions (variables c.problem) c.solutions then
    grammar.derivations c.problem c.derivations

abbrev certificate_words : Form → Certificate → List (List ℕ)
certificate_words form c =
    problem_words form c.problem
    ++ ((codes "SOL" ∷ decimal (length c.solutions) ∷ flat_map solution_words c.solutions)
    ++ (codes "DER" ∷ decimal (length c.derivations)
    ∷ flat_map (derivation_words_in form c.problem.objective) c.derivations))

problem_joined : (form : Form) (p : Problem)
    → words_of (problem_lines_in form p) ≡ problem_words form p
problem_joined form p = simp (flat_map-append, flat_map-map, append_assoc, append-nil)

joined : (form : Form) (c : Certificate)
    → words_of (certificate_lines_in form c) ≡ certificate_words form c
joined form c = grind (arith, flat_map-append, problem_joined, flat_map-map)

pub certificate_part : (form : Form) (c : Certificate)
    → Spelling (Sections c) (CanWrite c) (words_of (certificate_lines_in form c))
certificate_part form c = subst (Spelling (Sections c) (CanWrite c)) (sym (joined form c)) (
    as_part
    (λ w. (
      record { shape = w.shape.problem; fits = w.fits.problem },
      (
        (
          w.shape.few_solutions,
          λ k d h. let s = w.shape.solutions k d h in
              (s.name, record { below = s.row; fits = w.fits.solutions k d h }),
        ),
        (w.shape.few_derivations, λ k d h. (w.shape.derivations k d h, w.fits.derivations k d h)),
      ),
    ))
    (λ h. grind arith)
    (with_part (problem_part form c.problem) (λ w.
    let few = w.shape.few_names in
    then_part (solutions_part (variables c.problem) few c.solutions)
    (derivations_part form c.problem few
    (record { below = w.shape.objective; fits = w.fits.objective }) c.derivations))))

pub can_write_spelled : (ts : List (List ℕ)) (c : Certificate) → All IsToken ts
    → grammar.SpelledBy ts c → CanWrite c
can_write_spelled ts c a s = (certificate_part Canonical c).limits ts a s.sections
