-- A refusal before the end stands whatever follows the tokens read
use Rattle.std.proofs.Common.{◌≡◌, ◌≢◌, ℕ, zero, suc, ◌+◌, ◌≤◌, arith, ◌⊎◌, List, [], ◌∷◌, ◌++◌}
use Rattle.std.proofs.Common.{length, Option, Some, None, Result, Ok, Err, refl, sym, ◌∙◌, ap}
use Rattle.std.proofs.Common.{subst, append_assoc, append-nil, length-append, inl, inr}
use Rattle.std.specs.Prelude.{◌↔◌}
use Rattle.vipr_spec.specs.Causes as cause
use Rattle.vipr_spec.specs.{Profile, Row, condition, Named, Problem, Derivation, MeetsPrimal, count}
use Rattle.vipr_spec.specs.{Token, Rest, Fault, refused, unread, Read, ◌>>=◌, most_count}
use Rattle.vipr_spec.specs.{problem_read, solution_read, derivations_read, derivation_read}
use Rattle.vipr_spec.specs.{end_read, Reads, IsRefusedAt, EndsEarly, FaultsRemain, with_more}
use Rattle.vipr_spec.specs.{with_next, StepTest, PassesStep, step_tests, step_cause, FirstFailing}
use Rattle.vipr_spec.specs.{SolutionTest, PassesSolution, solution_tests, solution_cause}
use Rattle.vipr_spec.specs.{of_solution, Test, spelled, meets_primal, of_step, meets_dual, Passes}
use Rattle.vipr_spec.specs.{numbered_tests, tests_of_solution, tests_of_derivation, items_read}
use Rattle.vipr_spec.specs.{before_items, Found, last_tests, derivations_found, ending_found}
use Rattle.vipr_spec.specs.{found_in, Place, at_byte, at_solution, at_derivation, at_end, Refusal}
use Rattle.vipr_spec.specs.{Answer, refuses, cut_short, answer_of_test, IsAnswerOfTest, Answers}
use Rattle.vipr_spec.specs.{IsAnswer, EndsAtByte, EndsInDerivations, EndsInSolutions, EndsAt}
use Rattle.vipr_spec.specs.{IsRefusedBy, derivations_from, solutions_from, Certificate.Certificate}
use Rattle.vipr_spec.proofs.FirstFailing.{failing_parts, failing_unmap}
use Rattle.vipr_spec.proofs.Items.{problem_is, solution_is, reads_derivations, derivation_is}
use Rattle.vipr_spec.proofs.Items.{item_faults}
use Rattle.vipr_spec.proofs.{GrammarWhole.few_constraints_read, Steps.tests_next, Told.answers}
use Rattle.vipr_spec.proofs.Told as known

-- ---- an item is read from its own tokens

pub record IsRead {A : Type 0} (read : Rest → Read A) (r s : Rest) (x : A) : Type 0 where
  pub front : List Token
  pub joined : r.tokens ≡ front ++ s.tokens
  pub again : (q : Rest) (more : List Token) → q.tokens ≡ front ++ more → read q ≡ Ok (x, record q { tokens = more })

is_read : {A : Type 0} {read : Rest → Read A} {S : A → List (List ℕ) → Type 0} → Reads read S
    → (r s : Rest) (x : A) → read r ≡ Ok (x, s) → IsRead read r s x
is_read law r s x e = let t = (law r s x).0 e in record {
  front = t.front;
  joined = ap (λ (q : Rest). q.tokens) t.joined;
  again = λ q more j. (law q (record q { tokens = more }) x).1
      (record {
        front = t.front;
        joined = ap (λ ts. record q { tokens = ts }) j;
        short = t.short;
        shape = t.shape;
      });
}

-- ---- which causes are meant

-- no refusal for want of a token, nor at the end of the text
abbrev pub IsBeforeEnd : Refusal → Type 0
IsBeforeEnd x = (x.cause ≢ cause.truncated) × (x.cause ≢ cause.no_proof)

same_refusal : (x y : Refusal) → refuses x ≡ refuses y → x ≡ y
same_refusal x y e = cc

byte_later : (ts front back : List Token) (o : ℕ) → ts ≡ front ++ back → EndsAtByte back o
    → EndsAtByte ts o
byte_later ts front back o j e = (
  front ++ e.0,
  e.1,
  j ∙ ap (λ ts. front ++ ts) e.2 ∙ sym (append_assoc front e.0 (e.1 ∷ [])),
  e.3,
)

-- an item more, at the front
item_more : {A : Type 0} (item : Rest → Read A) (n : ℕ) (q t : Rest) (x : A) (xs : List A)
    (s : Rest) → item q ≡ Ok (x, t) → items_read item n t ≡ (xs, Ok s)
    → items_read item (suc n) q ≡ (x ∷ xs, Ok s)
unfolding items_read
item_more item n q t x xs s e f = ap (before_items (items_read item n)) e
    ∙ ap (λ (o : List _ × Result Rest Fault). (x ∷ o.0, o.1)) f

no_items : {A : Type 0} (item : Rest → Read A) (q : Rest) → items_read item 0 q ≡ ([], Ok q)
unfolding items_read
no_items item q = refl

-- what ends in the derivations that follow one ends in those from it on
derivation_later : (c : Certificate) (d : Derivation) (n : ℕ) (q t : Rest) (front : List Token)
    (place : Place) → q.tokens ≡ front ++ t.tokens → derivation_read c.problem q ≡ Ok (d, t)
    → EndsInDerivations (with_next c d) n t place → EndsInDerivations c (suc n) q place
derivation_later c d n q t front (at_byte o) j e h = byte_later q.tokens front t.tokens o j h
derivation_later c d n q t front (at_derivation k) j e (m, l, is, (xs, s, f, z)) = (
  suc m,
  omega arith,
  is ∙ count_one,
  (d ∷ xs, s, item_more (derivation_read c.problem) (suc m) q t d xs s e f, z),
)
  where
    count_one : count (with_next c d) + m ≡ count c + suc m
    count_one = omega (arith, length-append c.derivations (d ∷ []))
derivation_later c d n q t front (at_solution i) j e h = h
derivation_later c d n q t front at_end j e h = h

solution_later : (p : Problem) (x : Named Row) (i n : ℕ) (q t : Rest) (front : List Token)
    (place : Place) → q.tokens ≡ front ++ t.tokens → solution_read p q ≡ Ok (x, t)
    → EndsInSolutions p (suc i) n t place → EndsInSolutions p i (suc n) q place
solution_later p x i n q t front (at_byte o) j e h = byte_later q.tokens front t.tokens o j h
solution_later p x i n q t front (at_solution k) j e (m, l, is, (xs, s, f, z)) = (
  suc m,
  omega arith,
  is ∙ one_more,
  (x ∷ xs, s, item_more (solution_read p) (suc m) q t x xs s e f, z),
)
  where
    one_more : suc i + m ≡ i + suc m
    one_more = omega arith
solution_later p x i n q t front (at_derivation k) j e (ss, s, f, d, u, g, m, l, is, h) =
    (x ∷ ss, s, item_more (solution_read p) n q t x ss s e f, d, u, g, m, l, is, h)
solution_later p x i n q t front at_end j e (xs, s, f, z) = (x ∷ xs, s, item_more (solution_read p) n q t x xs s e f, z)

derivations_later : (p : Problem) (ss : List (Named Row)) (i d : ℕ) (q t : Rest)
    (front : List Token) (place : Place) → q.tokens ≡ front ++ t.tokens
    → derivations_read p q ≡ Ok (d, t)
    → EndsInDerivations (record { problem = p; solutions = ss; derivations = [] }) d t place
    → EndsInSolutions p i 0 q place
derivations_later p ss i d q t front (at_byte o) j e h = byte_later q.tokens front t.tokens o j h
derivations_later p ss i d q t front (at_derivation k) j e (m, l, is, h) =
    ([], q, no_items (solution_read p) q, d, t, e, m, l, is ∙ none_before, h)
  where
    none_before : length p.constraints + 0 + m ≡ length p.constraints + m
    none_before = omega arith
derivations_later p ss i d q t front (at_solution k) j e h = absurd h
derivations_later p ss i d q t front at_end j e h = absurd h

problem_later : (p : Problem) (n : ℕ) (q t : Rest) (front : List Token) (place : Place)
    → q.tokens ≡ front ++ t.tokens → problem_read q ≡ Ok ((p, n), t) → EndsInSolutions p 0 n t place
    → EndsAt q place
problem_later p n q t front (at_byte o) j e h = byte_later q.tokens front t.tokens o j h
problem_later p n q t front (at_solution k) j e h = (p, n, t, e, h)
problem_later p n q t front (at_derivation k) j e h = (p, n, t, e, h)
problem_later p n q t front at_end j e h = (p, n, t, e, h)

module _ (P : Profile) where
  -- a fault of a token
  fault_remains : {A : Type 0} (read : Rest → Result A Fault) (found : Rest → Found)
      (Ends : Rest → Place → Type 0)
      → ((q : Rest) (o : ℕ) → EndsAtByte q.tokens o → Ends q (at_byte o)) → FaultsRemain read
      → ((q : Rest) (f : Fault) (a : Answer) → read q ≡ Err f → Answers P (found q) a
      ↔ (a ≡ answer_of_test (spelled f)))
      → (r : Rest) (f : Fault) (x : Refusal) → IsBeforeEnd x → read r ≡ Err f
      → Answers P (found r) (refuses x) → IsRefusedBy P found Ends r x
  fault_remains read found Ends bytes faults law r unread x b e h =
      let t : refuses x ≡ cut_short = (law r unread (refuses x) e).0 h in
      absurd (cc)
  fault_remains read found Ends bytes faults law r (refused why place) x b e h = by (faults.refusal r why place e)
    where
      is : x ≡ record { cause = why; place = at_byte place }
      is = same_refusal x _ ((law r (refused why place) (refuses x) e).0 h)

      by : IsRefusedAt read r why place ⊎ EndsEarly r why place → IsRefusedBy P found Ends r x
      by (inr early) = absurd (b.0 (ap (λ (x : Refusal). x.cause) is ∙ early.1))
      by (inl at) = record {
        front = at.before ++ at.token ∷ [];
        after = at.after;
        joined = at.joined ∙ sym (append_assoc at.before (at.token ∷ []) at.after);
        ends = λ q j. subst (λ (x : Refusal). Ends q x.place) (sym is)
            (bytes q place (at.before, at.token, j, at.here));
        refused = λ s more j.
            (law s (refused why place) (refuses x)
            (at.remains s more (j ∙ append_assoc at.before (at.token ∷ []) more))).1
            (ap refuses is);
      }

  -- what is refused after an item that is read
  after_item : {A : Type 0} {read : Rest → Read A} {r s : Rest} {x : A} (found later : Rest → Found)
      (Ends EndsLater : Rest → Place → Type 0) (y : Refusal)
      → ((q t : Rest) (front : List Token) (place : Place) → q.tokens ≡ front ++ t.tokens
      → read q ≡ Ok (x, t) → EndsLater t place → Ends q place) → IsRead read r s x
      → ((q t : Rest) → read q ≡ Ok (x, t) → Answers P (later t) (refuses y)
      → Answers P (found q) (refuses y)) → IsRefusedBy P later EndsLater s y
      → IsRefusedBy P found Ends r y
  after_item found later Ends EndsLater y ends item back l = record {
    front = item.front ++ l.front;
    after = l.after;
    joined = item.joined ∙ ap (λ ts. item.front ++ ts) l.joined ∙ sym (append_assoc item.front l.front l.after);
    ends = λ q j. ends q (record q { tokens = l.front }) item.front y.place j
        (item.again q l.front j) (l.ends (record q { tokens = l.front }) refl);
    refused = λ q more j.
        let e = item.again q (l.front ++ more) (j ∙ append_assoc item.front l.front more) in
        back q (record q { tokens = l.front ++ more }) e (l.refused (record q { tokens = l.front ++ more }) more refl);
  }

  -- an item that is read and refused, at a place that is no byte
  item_remains : {A : Type 0} {read : Rest → Read A} {r s : Rest} {x : A} (found : Rest → Found)
      (Ends : Rest → Place → Type 0) (why : ℕ) (place : Place) (y : Refusal)
      → ((q t : Rest) → t.tokens ≡ [] → read q ≡ Ok (x, t) → Ends q place) → IsRead read r s x
      → ((q t : Rest) → read q ≡ Ok (x, t) → Answers P (found q) (refuses y)
      ↔ (refuses y ≡ refuses (record { cause = why; place = place })))
      → refuses y ≡ refuses (record { cause = why; place = place })
      → IsRefusedBy P found Ends r y
  item_remains {s = s} found Ends why place y alone item law is = record {
    front = item.front;
    after = s.tokens;
    joined = item.joined;
    ends = λ q j. subst (λ (x : Refusal). Ends q x.place) (sym (same_refusal y _ is))
        (alone q (record q { tokens = [] }) refl
        (item.again q [] (j ∙ sym (append-nil item.front))));
    refused = λ q more j. (law q (record q { tokens = more }) (item.again q more j)).1 is;
  }

  -- ---- the derivations

  -- its tests pass, or one of them fails first
  step_found : (c : Certificate) (n : ℕ) (r : Rest) (d : Derivation) (s : Rest) (a : Answer)
      → derivation_read c.problem r ≡ Ok (d, s) → Answers P (derivations_from c (suc n) r) a
      → (f : Option StepTest) × FirstFailing (PassesStep P c (condition d.stated)) (step_tests d.reason) f
  step_found c n r d s a e h =
      elim (failing_parts (Passes P after) (tests_of_derivation (count c) d) _ g.0 g.1)
      [ inl k ↦ own None k.0 | inr k ↦ own (Some k.0) k.2 ]
    where
      ds : List Derivation
      ds = (items_read (derivation_read c.problem) n s).0

      after : Certificate
      after = with_more c (d ∷ ds)

      g : Answers P (record {
        certificate = after;
        tests = tests_of_derivation (count c) d
            ++ (numbered_tests tests_of_derivation (suc (count c)) ds
            ++ last_tests ((items_read (derivation_read c.problem) n s).1 >>= end_read));
      }) a
      g = subst (λ f. Answers P f a) (known.derivation_next c n r d s e) h

      own : (f : Option Test) → FirstFailing (Passes P after) (tests_of_derivation (count c) d) f
          → (f : Option StepTest) × FirstFailing (PassesStep P c (condition d.stated))
          (step_tests d.reason) f
      own f q =
          let k = failing_unmap (of_step (count c)) (Passes P after) (step_tests d.reason) f q in
          (k.0, (tests_next P c d ds k.0).0 k.2)

  derivations_remain : (n : ℕ) (c : Certificate) (r : Rest) (x : Refusal) → IsBeforeEnd x
      → Answers P (derivations_from c n r) (refuses x)
      → IsRefusedBy P (derivations_from c n) (EndsInDerivations c n) r x
  derivations_remain zero c r x b h = by (end_read r) refl
    where
      by : (y : Result (Unit {0}) Fault) → end_read r ≡ y
          → IsRefusedBy P (derivations_from c 0) (EndsInDerivations c 0) r x
      by (Err f) e = fault_remains end_read (derivations_from c 0) (EndsInDerivations c 0)
          (λ q o h. h) item_faults.end (λ q f a e. known.end_fault P (answers P a) c q f e) r f x b
          e h
      by (Ok done) e = absurd (last g.0 g.1 g.2)
        where
          g : Answers P (record { certificate = c; tests = meets_dual ∷ [] }) (refuses x)
          g = subst (λ f. Answers P f (refuses x)) (known.at_the_end c r
              ∙ ap (λ y. record { certificate = c; tests = last_tests y }) e) h

          last : (f : Option Test) → FirstFailing (Passes P c) (meets_dual ∷ []) f
              → IsAnswerOfTest P c f (refuses x) → ⊥
          last None q t = cc t.2
          last (Some t) (inl q) u = cc q.1
          last (Some t) (inr q) u =
              b.1 (ap (λ (x : Refusal). x.cause)
              (same_refusal x _ (subst (λ o. IsAnswerOfTest P c o (refuses x)) q.1 u)))
  derivations_remain (suc n) c r x b h = by (λ d s g. derivations_remain n (with_next c d) s x b g)
      (derivation_read c.problem r) refl
    where
      by : ((d : Derivation) (s : Rest) → Answers P (derivations_from (with_next c d) n s)
          (refuses x) → IsRefusedBy P (derivations_from (with_next c d) n)
          (EndsInDerivations (with_next c d) n) s x) → (y : Read Derivation)
          → derivation_read c.problem r ≡ y → IsRefusedBy P (derivations_from c (suc n))
          (EndsInDerivations c (suc n)) r x
      by on (Err f) e = fault_remains (derivation_read c.problem) (derivations_from c (suc n))
          (EndsInDerivations c (suc n)) (λ q o h. h) (item_faults.derivation c.problem)
          (λ q f a e. known.derivation_fault P (answers P a) c n q f e) r f x b e h
      by on (Ok (d, s)) e = tested k.0 k.1
        where
          item : IsRead (derivation_read c.problem) r s d
          item = is_read ((derivation_is c.problem).reads) r s d e

          k : (f : Option StepTest) × FirstFailing (PassesStep P c (condition d.stated)) (step_tests d.reason) f
          k = step_found c n r d s (refuses x) e h

          tested : (f : Option StepTest) → FirstFailing (PassesStep P c (condition d.stated))
              (step_tests d.reason) f → IsRefusedBy P (derivations_from c (suc n))
              (EndsInDerivations c (suc n)) r x
          tested None g = after_item (derivations_from c (suc n))
              (derivations_from (with_next c d) n) (EndsInDerivations c (suc n))
              (EndsInDerivations (with_next c d) n) x (derivation_later c d n) item
              (λ q t e. (known.derivation_passes P (answers P (refuses x)) c n q d t e g).1)
              (on d s ((known.derivation_passes P (answers P (refuses x)) c n r d s e g).0 h))
          tested (Some u) g = item_remains (derivations_from c (suc n))
              (EndsInDerivations c (suc n)) (step_cause u) (at_derivation (count c)) x
              (λ q t z e. (
                0,
                omega arith,
                omega arith,
                (
                  d ∷ [],
                  t,
                  item_more (derivation_read c.problem) 0 q t d [] t e
                      (no_items (derivation_read c.problem) t),
                  z,
                ),
              )) item
              (λ q t e. known.derivation_fails P (answers P (refuses x)) c n q d t u e g)
              ((known.derivation_fails P (answers P (refuses x)) c n r d s u e g).0 h)

  -- ---- the solutions

  solution_found : (p : Problem) (ss : List (Named Row)) (n : ℕ) (r : Rest) (s : Named Row)
      (t : Rest) (a : Answer) → solution_read p r ≡ Ok (s, t)
      → Answers P (solutions_from p ss (suc n) r) a
      → (f : Option SolutionTest) × FirstFailing (PassesSolution p s.item) (solution_tests p) f
  solution_found p ss n r s t a e h =
      elim (failing_parts (Passes P after) (tests_of_solution p (length ss) s) _ g.0 g.1)
      [ inl k ↦ own None k.0 | inr k ↦ own (Some k.0) k.2 ]
    where
      items : List (Named Row) × Result Rest Fault
      items = items_read (solution_read p) n t

      after : Certificate
      after = record { problem = p; solutions = ss ++ s ∷ items.0; derivations = (ending_found p items.1).0 }

      g : Answers P (record {
        certificate = after;
        tests = tests_of_solution p (length ss) s
            ++ (numbered_tests (tests_of_solution p) (suc (length ss)) items.0
            ++ (ending_found p items.1).1);
      }) a
      g = subst (λ f. Answers P f a) (known.solution_next p ss n r s t e) h

      own : (f : Option Test) → FirstFailing (Passes P after) (tests_of_solution p (length ss) s) f
          → (f : Option SolutionTest) × FirstFailing (PassesSolution p s.item) (solution_tests p) f
      own f q =
          let k = failing_unmap (of_solution (length ss) s.item) (Passes P after) (solution_tests p) f q in
          (k.0, k.2)

  solutions_remain : (n : ℕ) (p : Problem) → length p.constraints ≤ most_count
      → (ss : List (Named Row)) (r : Rest) (x : Refusal) → IsBeforeEnd x
      → Answers P (solutions_from p ss n r) (refuses x)
      → IsRefusedBy P (solutions_from p ss n) (EndsInSolutions p (length ss) n) r x
  solutions_remain zero p few ss r x b h = first g.0 g.1
    where
      after : Certificate
      after = record { problem = p; solutions = ss; derivations = (derivations_found p (derivations_read p r)).0 }

      g : Answers P
          (record {
            certificate = after;
            tests = meets_primal ∷ (derivations_found p (derivations_read p r)).1;
          }) (refuses x)
      g = subst (λ f. Answers P f (refuses x)) (known.no_more_solutions p ss r (derivations_read p r) refl) h

      met_by : MeetsPrimal p ss p.claim → (y : Read ℕ) → derivations_read p r ≡ y
          → IsRefusedBy P (solutions_from p ss 0) (EndsInSolutions p (length ss) 0) r x
      met_by met (Err f) e = fault_remains (derivations_read p) (solutions_from p ss 0)
          (EndsInSolutions p (length ss) 0) (λ q o h. h) (item_faults.derivations p)
          (λ q f a e. known.derivations_fault P (answers P a) p ss q f met e) r f x b e h
      met_by met (Ok (m, s)) e =
          let start : Certificate = record { problem = p; solutions = ss; derivations = [] } in
          after_item (solutions_from p ss 0) (derivations_from start m)
          (EndsInSolutions p (length ss) 0) (EndsInDerivations start m) x
          (derivations_later p ss (length ss) m) (is_read (reads_derivations p few) r s m e)
          (λ q t e. (known.derivations_begin P (answers P (refuses x)) p ss q m t met e).1)
          (derivations_remain m start s x b ((known.derivations_begin P (answers P (refuses x)) p ss r m s met e).0 h))

      first : (f : Option Test)
          → FirstFailing (Passes P after)
          (meets_primal ∷ (derivations_found p (derivations_read p r)).1) f
          → IsRefusedBy P (solutions_from p ss 0) (EndsInSolutions p (length ss) 0) r x
      first f (inl q) = met_by q.0 (derivations_read p r) refl
      first f (inr q) =
          let is = (known.solutions_unmet P (answers P (refuses x)) p ss r q.0).0 h in record {
            front = [];
            after = r.tokens;
            joined = refl;
            ends = λ q j. subst (λ (x : Refusal). EndsInSolutions p (length ss) 0 q x.place)
                (sym (same_refusal x _ is)) ([], q, no_items (solution_read p) q, j);
            refused = λ s more j. (known.solutions_unmet P (answers P (refuses x)) p ss s q.0).1 is;
          }
  solutions_remain (suc n) p few ss r x b h =
      by (λ s t g. solutions_remain n p few (ss ++ s ∷ []) t x b g) (solution_read p r) refl
    where
      by : ((s : Named Row) (t : Rest) → Answers P (solutions_from p (ss ++ s ∷ []) n t) (refuses x)
          → IsRefusedBy P (solutions_from p (ss ++ s ∷ []) n)
          (EndsInSolutions p (length (ss ++ s ∷ [])) n) t x) → (y : Read (Named Row))
          → solution_read p r ≡ y → IsRefusedBy P (solutions_from p ss (suc n))
          (EndsInSolutions p (length ss) (suc n)) r x
      by on (Err f) e = fault_remains (solution_read p) (solutions_from p ss (suc n))
          (EndsInSolutions p (length ss) (suc n)) (λ q o h. h) (item_faults.solution p)
          (λ q f a e. known.solution_fault P (answers P a) p ss n q f e) r f x b e h
      by on (Ok (s, t)) e = tested k.0 k.1
        where
          item : IsRead (solution_read p) r t s
          item = is_read ((solution_is p).reads) r t s e

          k : (f : Option SolutionTest) × FirstFailing (PassesSolution p s.item) (solution_tests p) f
          k = solution_found p ss n r s t (refuses x) e h

          one_more : length (ss ++ s ∷ []) ≡ suc (length ss)
          one_more = omega (arith, length-append ss (s ∷ []))

          tested : (f : Option SolutionTest)
              → FirstFailing (PassesSolution p s.item) (solution_tests p) f
              → IsRefusedBy P (solutions_from p ss (suc n)) (EndsInSolutions p (length ss) (suc n))
              r x
          tested None g = after_item (solutions_from p ss (suc n))
              (solutions_from p (ss ++ s ∷ []) n) (EndsInSolutions p (length ss) (suc n))
              (EndsInSolutions p (length (ss ++ s ∷ [])) n) x
              (λ q t front place j e h. solution_later p s (length ss) n q t front place j e
              (subst (λ i. EndsInSolutions p i n t place) one_more h)) item
              (λ q t e. (known.solution_passes P (answers P (refuses x)) p ss n q s t e g).1)
              (on s t ((known.solution_passes P (answers P (refuses x)) p ss n r s t e g).0 h))
          tested (Some u) g = item_remains (solutions_from p ss (suc n))
              (EndsInSolutions p (length ss) (suc n)) (solution_cause u) (at_solution (length ss)) x
              (λ q t z e. (
                0,
                omega arith,
                omega arith,
                (
                  s ∷ [],
                  t,
                  item_more (solution_read p) 0 q t s [] t e (no_items (solution_read p) t),
                  z,
                ),
              )) item (λ q t e. known.solution_fails P (answers P (refuses x)) p ss n q s t u e g)
              ((known.solution_fails P (answers P (refuses x)) p ss n r s t u e g).0 h)

  -- ---- the whole text

  pub refusal_remains : (r : Rest) (x : Refusal) → IsBeforeEnd x → IsAnswer P r (refuses x)
      → IsRefusedBy P found_in EndsAt r x
  refusal_remains r x b h = by (problem_read r) refl
    where
      by : (y : Read (Problem × ℕ)) → problem_read r ≡ y → IsRefusedBy P found_in EndsAt r x
      by (Err f) e = fault_remains problem_read found_in EndsAt (λ q o h. h) item_faults.problem
          (λ q f a e. known.problem_fault P (answers P a) q f e) r f x b e h
      by (Ok ((p, n), s)) e = after_item found_in (solutions_from p [] n) EndsAt
          (EndsInSolutions p 0 n) x (problem_later p n) (is_read problem_is.reads r s (p, n) e)
          (λ q t e. (known.problem_ok P (answers P (refuses x)) q p n t e).1)
          (solutions_remain n p (few_constraints_read r s (p, n) e) [] s x b
          ((known.problem_ok P (answers P (refuses x)) r p n s e).0 h))
