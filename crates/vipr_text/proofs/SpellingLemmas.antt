-- A certificate's text, made while the certificate is read
use Rattle.std.proofs.Common.{rules, ◌≡◌, ◌≢◌, ◌⊎◌, ◌↔◌, Bool, true, false, None, Some, IsErrOf, ℕ}
use Rattle.std.proofs.Common.{zero, suc, ◌+◌, ◌<◌, List, [], ◌∷◌, ◌++◌, length, map, codes, Option}
use Rattle.std.proofs.Common.{Result, Ok, Err, IsSome, inl, inr, refl, sym, ap, subst, ◌∙◌}
use Rattle.std.proofs.Common.{append_assoc, arith}
use Rattle.std.proofs.lemmas.List.{append-nil, length-append, map_push}
use Rattle.std.proofs.lemmas.Grind.{flat_map-append}
use Rattle.vipr_spec.specs.Certificate.{Named, Problem, Derivation}
use Rattle.vipr_spec.specs.Reading.{Rest, Fault, Read, ◌>>=◌, read_each, problem_read}
use Rattle.vipr_spec.specs.Reading.{solution_read, derivations_read, derivation_read, end_read}
use Rattle.vipr_spec.specs.Reading.{certificate_read}
use Rattle.vipr_spec.specs.{Constraint.Row, Input.Input}
use Rattle.vipr_bytes.specs.Known.{text_of, IfKnown}
use Rattle.vipr_scan.specs.{Faults.Fails, Giving.rest_of, declared.error.TextError.TextError}
use Rattle.vipr_scan.specs.declared.error.TextError.TheVariants as error
use Rattle.vipr_read.specs.Items.{Items, Knows, Remembers, HasEnded}
use Rattle.vipr_read.specs.Parsing.{with_front}
use Rattle.vipr_write.specs.Canonical.{solution_words, heading, line_text, lines_text}
use Rattle.vipr_write.specs.Forms.{problem_lines_in, derivation_words_in, text_in}
use Rattle.vipr_write.specs.{Folded.Begun, Folded.with_more_bytes, declared.form.Form.Form}
use Rattle.vipr_text.specs.Spelling.{Appends, HasAppended, HasBegun, Respells, RespellsText}
use Rattle.vipr_text.specs.Spelling.{with_count}

-- a fault is that of what goes on after it
pub fails_first : {X Y : Type 0} (e : TextError) (r : Result X Fault) (f : X → Result Y Fault)
    → Fails e r → Fails e (r >>= f)
fails_first e r f h = grind arith

-- the error is none of a reader that failed before
pub unspent : {X : Type 0} (r : Result X TextError) (e : TextError) (failed : Bool) → r ≡ Err e
    → (IsErrOf r error.Spent ↔ (failed ≡ true)) → failed ≡ false → e ≢ error.Spent
unspent {X} r e failed is spent working = λ s. let bad : failed ≡ true =
    spent.0 (is ∙ ap (λ (f : TextError). the_error f) s) in
    cc
  where
    the_error : TextError → Result X TextError
    the_error f = Err f

-- what a reader knew it still knows
pub still_knows : (p : Problem) (old new : Items) → Knows old p → Remembers old new → Knows new p
still_knows p old new k r = grind arith

-- ---- items one by one

module _ {Y : Type 0} (item : Rest → Read Y) (words : Y → List (List ℕ)) where
  begins : (read : Read (List Y)) → with_front [] read ≡ read
  begins read = grind arith

  pub none_yet : (r : Items) (text : Begun) → r.failed ≡ false → HasAppended item words r r text text
  none_yet r text working = search rules

  regroup : (front : List Y) (x : Y) (read : Read (List Y))
      → with_front front (read >>= λ xs. Ok (x ∷ xs.0, xs.1)) ≡ with_front (front ++ x ∷ []) read
  regroup front x (Ok xs) = ap (λ (ys : List Y). Ok (ys, xs.1)) (simp append_assoc)
  regroup front x (Err e) = refl

  goes_on : (front : List Y) (k : ℕ) (l l' : Rest) (x : Y) → item l ≡ Ok (x, l')
      → with_front (front ++ x ∷ []) (read_each item k l') ≡ with_front front
      (read_each item (suc k) l)
  unfolding read_each
  goes_on front k l l' x h = rw h (sym (regroup front x (read_each item k l')))

  more_lines : (before text after : Begun) (ys : List Y) (y : Y)
      → text ≡ with_more_bytes before (lines_text (map words ys))
      → after ≡ with_more_bytes text (line_text (words y))
      → after ≡ with_more_bytes before (lines_text (map words (ys ++ y ∷ [])))
  more_lines before text after ys y h more =
      more ∙ ap (λ (t : Begun). with_more_bytes t (line_text (words y))) h
      ∙ ap (λ bs. let b : Begun = record before { bytes = bs } in b)
      (append_assoc before.bytes (lines_text (map words ys)) (line_text (words y))
      ∙ ap (λ t. before.bytes ++ t)
      (sym (rw (map_push words ys y) (flat_map-append line_text (map words ys) (words y ∷ [])
      ∙ ap (λ t. lines_text (map words ys) ++ t) (append-nil (line_text (words y)))))))

  -- one more item was read, and its line appended
  pub one_more : (old mid new : Items) (before text after : Begun) (y : Y)
      → HasAppended item words old mid before text → mid.left ≡ suc new.left → Remembers mid new
      → new.failed ≡ false
      → (IsSome mid.rest → (item (rest_of mid.rest) ≡ Ok (y, rest_of new.rest)) × IsSome new.rest)
      → after ≡ with_more_bytes text (line_text (words y))
      → HasAppended item words old new before after
  one_more old mid new before text after y h counted remembers working read more =
      grind (
        arith,
        length-append h.items (y ∷ []),
        more_lines before text after h.items y h.lines more,
        goes_on,
      )

  -- the next item has a fault, or the ending has
  fails_item : (ending : Rest → Result (Unit {0}) Fault) (e : TextError) (front : List Y) (k : ℕ)
      (l : Rest) → Fails e (item l)
      → Fails e (with_front front (read_each item (suc k) l) >>= λ x. ending x.1)
  unfolding read_each
  fails_item ending e front k l h = fails_first e (with_front front (read_each item (suc k) l)) _
      (fails_first e (read_each item (suc k) l) _ (fails_first e (item l) _ h))

  fails_end : (ending : Rest → Result (Unit {0}) Fault) (e : TextError) (front : List Y) (l : Rest)
      → Fails e (ending l) → Fails e (with_front front (read_each item 0 l) >>= λ x. ending x.1)
  unfolding read_each
  fails_end ending e front l h = h

  fails_at : (ending : Rest → Result (Unit {0}) Fault) (e : TextError) (front : List Y) (n : ℕ)
      (l : Rest) → ((n ≡ 0) × Fails e (ending l)) ⊎ ((0 < n) × Fails e (item l))
      → Fails e (with_front front (read_each item n l) >>= λ x. ending x.1)
  fails_at ending e front n l (inl h) = rw h.0 (fails_end ending e front l h.1)
  fails_at ending e front zero l (inr h) = absurd (omega (arith, h.0))
  fails_at ending e front (suc k) l (inr h) = fails_item ending e front k l h.1

  pub stops : (ending : Rest → Result (Unit {0}) Fault) (e : TextError) (old mid : Items)
      (before text : Begun) → HasAppended item words old mid before text
      → (IsSome mid.rest → ((mid.left ≡ 0) × Fails e (ending (rest_of mid.rest)))
      ⊎ ((0 < mid.left) × Fails e (item (rest_of mid.rest))))
      → IsSome old.rest → Fails e (read_each item old.left (rest_of old.rest) >>= λ x. ending x.1)
  stops ending e old mid before text h fault known = grind (arith, fails_at)

  all_read : (front : List Y) (n : ℕ) (l : Rest) → n ≡ 0 → with_front front (read_each item n l) ≡ Ok (front, l)
  unfolding read_each
  all_read front n l h = rw h (ap (λ (xs : List Y). Ok (xs, l)) (append-nil front))

  -- all items were read
  pub were_read : (old new : Items) (before text : Begun)
      (h : HasAppended item words old new before text) → new.left ≡ 0 → IsSome old.rest
      → read_each item old.left (rest_of old.rest) ≡ Ok (h.items, rest_of new.rest)
  were_read old new before text h none known = sym (h.read known) ∙ all_read h.items new.left (rest_of new.rest) none

  -- the end of the text was found
  pub at_end : (old mid new : Items) (before text : Begun)
      → HasAppended item words old mid before text → HasEnded mid new
      → HasAppended item words old new before text
  at_end old mid new before text h e = grind arith

-- ---- the parts of a certificate, one after the other

pub problem_fails : (e : TextError) (l : Rest) → Fails e (problem_read l)
    → Fails e (certificate_read l)
unfolding certificate_read
problem_fails e l h = fails_first e (problem_read l) _ h

-- what follows the solutions is read on its own
abbrev pub no_ending : Rest → Result (Unit {0}) Fault
no_ending l = Ok tt

-- where nothing can be wrong behind the items, the fault is one of theirs
of_items : {Y Z : Type 0} (e : TextError) (r : Read Y) (f : Y × Rest → Result Z Fault)
    → Fails e (r >>= λ x. no_ending x.1) → Fails e (r >>= f)
of_items e r f h = grind arith

of_ending : {Y Z : Type 0} (e : TextError) (r : Read Y) (ending : Rest → Result (Unit {0}) Fault)
    (f : Y × Rest → Unit {0} → Result Z Fault) → Fails e (r >>= λ x. ending x.1)
    → Fails e (r >>= λ x. ending x.1 >>= f x)
of_ending e r ending f h = grind arith

module _ (l l1 : Rest) (p : Problem) (n : ℕ) (problem : problem_read l ≡ Ok ((p, n), l1)) where
  pub solutions_fail : (e : TextError)
      → Fails e (read_each (solution_read p) n l1 >>= λ x. no_ending x.1)
      → Fails e (certificate_read l)
  unfolding certificate_read
  solutions_fail e h = rw problem (of_items e (read_each (solution_read p) n l1) _ h)

  module _ (l2 : Rest) (ss : List (Named Row)) (solutions : read_each (solution_read p) n l1 ≡ Ok (ss, l2)) where
    pub count_fails : (e : TextError) → Fails e (derivations_read p l2) → Fails e (certificate_read l)
    unfolding certificate_read
    count_fails e h = rw (problem, solutions) (fails_first e (derivations_read p l2) _ h)

    module _ (l3 : Rest) (m : ℕ) (count : derivations_read p l2 ≡ Ok (m, l3)) where
      pub derivations_fail : (e : TextError)
          → Fails e (read_each (derivation_read p) m l3 >>= λ x. end_read x.1)
          → Fails e (certificate_read l)
      unfolding certificate_read
      derivations_fail e h =
          rw (problem, solutions, count)
          (of_ending e (read_each (derivation_read p) m l3) end_read _ h)

      pub whole_read : (l4 : Rest) (ds : List Derivation)
          → read_each (derivation_read p) m l3 ≡ Ok (ds, l4) → end_read l4 ≡ Ok tt
          → certificate_read l ≡ Ok (record { problem = p; solutions = ss; derivations = ds })
      unfolding certificate_read
      whole_read l4 ds derivations h = rw (problem, solutions, count, derivations, h) refl

-- ---- the text

one_by_one : (a b c d e : List ℕ) → (((a ++ b) ++ c) ++ d) ++ e ≡ a ++ ((b ++ c) ++ (d ++ e))
one_by_one a b c d e = simp append_assoc

in_sections : (ls ms ns : List (List (List ℕ))) (h k : List (List ℕ)) →
    (((lines_text ls ++ line_text h) ++ lines_text ms) ++ line_text k)
    ++ lines_text ns ≡ lines_text (ls ++ ((h ∷ ms) ++ (k ∷ ns)))
in_sections ls ms ns h k = search (rules, one_by_one, flat_map-append)

-- the lines that were appended are those of the certificate
pub appended_text : (F : Form) (p : Problem) (ss : List (Named Row)) (ds : List Derivation) →
    (((lines_text (problem_lines_in F p) ++ line_text (heading (codes "SOL") (length ss)))
    ++ lines_text (map solution_words ss)) ++ line_text (heading (codes "DER") (length ds)))
    ++ lines_text (map (derivation_words_in F p.objective) ds)
    ≡ text_in F (record { problem = p; solutions = ss; derivations = ds })
appended_text F p ss ds = in_sections (problem_lines_in F p) (map solution_words ss)
    (map (derivation_words_in F p.objective) ds) (heading (codes "SOL") (length ss))
    (heading (codes "DER") (length ds))

-- the same of a text that was made line by line
all_bytes : (F : Form) (p : Problem) (ss : List (Named Row)) (ds : List Derivation)
    (n m left over : ℕ) (t1 t2 t3 t4 : List ℕ) → length ss + left ≡ n → left ≡ 0
    → length ds + over ≡ m → over ≡ 0
    → t1 ≡ lines_text (problem_lines_in F p) ++ line_text (heading (codes "SOL") n)
    → t2 ≡ t1 ++ lines_text (map solution_words ss)
    → t3 ≡ t2 ++ line_text (heading (codes "DER") m)
    → t4 ≡ t3 ++ lines_text (map (derivation_words_in F p.objective) ds)
    → t4 ≡ text_in F (record { problem = p; solutions = ss; derivations = ds })
all_bytes F p ss ds n m left over t1 t2 t3 t4 some no_more steps none e1 e2 e3 e4 =
    grind (arith, appended_text F p ss ds)

pub all_lines : (F : Form) (p : Problem) (ss : List (Named Row)) (ds : List Derivation)
    (n m left over : ℕ) (t1 t2 t3 t4 : Begun) → length ss + left ≡ n → left ≡ 0
    → length ds + over ≡ m → over ≡ 0
    → t1 ≡ record {
      form = F;
      objective = p.objective;
      bytes = lines_text (problem_lines_in F p) ++ line_text (heading (codes "SOL") n);
    }
    → t2 ≡ with_more_bytes t1 (lines_text (map solution_words ss))
    → t3 ≡ with_more_bytes t2 (line_text (heading (codes "DER") m))
    → t4 ≡ with_more_bytes t3 (lines_text (map (derivation_words_in t3.form t3.objective) ds))
    → t4.bytes ≡ text_in F (record { problem = p; solutions = ss; derivations = ds })
all_lines F p ss ds n m left over t1 t2 t3 t4 some no_more steps none e1 e2 e3 e4 =
    let form : t3.form ≡ F = ap (λ (b : Begun). b.form) e3 ∙ ap (λ (b : Begun). b.form) e2
    ∙ ap (λ (b : Begun). b.form) e1 in
    let objective : t3.objective ≡ p.objective = ap (λ (b : Begun). b.objective) e3
    ∙ ap (λ (b : Begun). b.objective) e2 ∙ ap (λ (b : Begun). b.objective) e1 in
    let last : t4.bytes ≡ t3.bytes ++ lines_text (map (derivation_words_in F p.objective) ds) = grind arith in
    all_bytes F p ss ds n m left over t1.bytes t2.bytes t3.bytes t4.bytes some no_more steps none
    (ap (λ (b : Begun). b.bytes) e1) (ap (λ (b : Begun). b.bytes) e2)
    (ap (λ (b : Begun). b.bytes) e3) last

-- where the problem and the solutions were read, what is answered of the derivations is answered of
-- the whole text
module _ (F : Form) (rest : Option Rest) (old mid steps new : Items) (t1 t2 : Begun)
    (begun : HasBegun F rest t1 old) where
  pub whole_text : (r : Result Begun TextError)
      (listed : HasAppended (solution_read begun.problem) solution_words old mid t1 t2)
      → mid.left ≡ 0
      → (IsSome mid.rest
      → (derivations_read begun.problem (rest_of mid.rest) ≡ Ok
      (steps.left, rest_of steps.rest)) × IsSome steps.rest)
      → Appends (derivation_read begun.problem) end_read (derivation_words_in t2.form t2.objective)
      steps new (with_count t2 steps.left) (λ t. t) r
      → Respells F (λ text. text.bytes) rest r
  whole_text (Ok t4) listed none count (derived, over, ended) =
      let p = begun.problem in
      let t3 = with_count t2 steps.left in (
        record { problem = p; solutions = listed.items; derivations = derived.items },
        all_lines F p listed.items derived.items old.left steps.left mid.left new.left t1 t2 t3 t4
            listed.counted none derived.counted over begun.lines listed.lines refl derived.lines,
        λ known.
            let r = begun.read known in
            let solutions = were_read (solution_read p) solution_words old mid t1 t2 listed none r.1 in
            let k = count (listed.known r.1) in
            let derivations =
            were_read (derivation_read p) (derivation_words_in t2.form t2.objective) steps new
            t3 t4 derived over k.1 in
            whole_read (rest_of rest) (rest_of old.rest) p old.left r.0
            (rest_of mid.rest) listed.items solutions (rest_of steps.rest) steps.left k.0
            (rest_of new.rest) derived.items derivations (ended k.1),
      )
  whole_text (Err e) listed none count fault = (
    fault.0,
    λ known.
        let r = begun.read known in
        let solutions = were_read (solution_read begun.problem) solution_words old mid t1 t2 listed none r.1 in
        let k = count (listed.known r.1) in
        derivations_fail (rest_of rest) (rest_of old.rest) begun.problem old.left r.0
        (rest_of mid.rest) listed.items solutions (rest_of steps.rest) steps.left k.0 e
        (fault.1 k.1),
  )

-- what a source gives, as the rest that a reader starts with
pub known : {X : Type 0} (F : Form) (bytes : X → List ℕ) (source : Option Input)
    (rest : Option Rest) (r : Result X TextError) → IfKnown source (λ i. rest ≡ Some (text_of i))
    → Respells F bytes rest r → RespellsText F bytes source r
known F bytes None rest (Ok x) k h = (h.0, h.1, tt)
known F bytes (Some i) rest (Ok x) k h = (
  h.0,
  h.1,
  λ short. subst (λ (l : Option Rest). IsSome l
      → certificate_read (rest_of l) ≡ Ok h.0) (k short) h.2 refl,
)
known F bytes None rest (Err e) k h = (h.0, tt)
known F bytes (Some i) rest (Err e) k h = (
  h.0,
  λ short. subst (λ (l : Option Rest). IsSome l → Fails e (certificate_read (rest_of l)))
      (k short) h.1 refl,
)
