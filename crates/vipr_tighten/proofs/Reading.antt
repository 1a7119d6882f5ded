-- A text item by item: what is found in what is left, once so much was read and kept
use Rattle.std.proofs.Common.{rules, ◌≡◌, ℕ, suc, ◌+◌, ◌<◌, ◌≤◌, ◌^◌, false, List, [], ◌∷◌, ◌++◌}
use Rattle.std.proofs.Common.{length, None, Result, Ok, Err, arith, refl, sym, ◌∙◌, ap, subst}
use Rattle.std.proofs.Common.{append-nil, append_assoc}
use Rattle.std.specs.Prelude.{◌⊎◌, IsSome, IfOk, IfErr, IsErrAnd, All, Option, Some}
use Rattle.vipr_spec.specs.Shape.{ReasonShape, RowFits, SolutionShape, DerivationShape}
use Rattle.vipr_spec.specs.Shape.{DerivationFits, CanWriteProblem, CanWrite}
use Rattle.vipr_spec.specs.Constraint.{Profile, Row, condition}
use Rattle.vipr_spec.specs.Certificate.{Named, Problem, Derivation, Certificate, MeetsPrimal}
use Rattle.vipr_spec.specs.Certificate.{IsProof}
use Rattle.vipr_spec.specs.Reading.{Rest, Read, problem_read, solution_read, derivations_read}
use Rattle.vipr_spec.specs.Reading.{derivation_read, end_read, most_count}
use Rattle.vipr_spec.specs.Steps.{with_more, with_next, PassesStep, step_tests, FirstFailing}
use Rattle.vipr_spec.specs.Tests.{PassesSolution, solution_tests, none}
use Rattle.vipr_spec.specs.Verdict.{before_items, items_read, ending_found}
use Rattle.vipr_spec.specs.Verdict.{problem_found, found_in, Explained, Found, Reports}
use Rattle.vipr_spec.specs.Progress.{derivations_from, solutions_from}
use Rattle.vipr_spec.specs.{Checking.start, Input.Input}
use Rattle.vipr_bytes.specs.Known.{text_of, IfKnown}
use Rattle.vipr_check.specs.State.{State, TakesSolution, TakesStep, Finishes}
use Rattle.vipr_check.specs.{Reasons.stop_reason, Reasons.text_reason, Run.IsAmong, Run.IsAt}
use Rattle.vipr_check.specs.{Shown.state_shown, View.report_of, declared.halt.Stop.Stop}
use Rattle.vipr_check.specs.{declared.no_proof.NoProof.NoProof, declared.verdict.Report.Report}
use Rattle.vipr_scan.specs.{Faults.Fails, Giving.rest_of, declared.error.TextError.TextError}
use Rattle.vipr_spec.proofs.Laws.{problem_ok, solution_passes, derivations_begin, derivation_passes}
use Rattle.vipr_read.specs.Items.{Items, Knows, Remembers}
use Rattle.vipr_check.specs.declared.no_proof.NoProof.TheVariants as reason
use Rattle.vipr_check.proofs.Laws.{SaysWhy-by, at_start, derivation_missing, ending_failed}
use Rattle.vipr_check.proofs.Laws.{ending_met, finish_stops, finish_verifies, knows_still}
use Rattle.vipr_check.proofs.Laws.{solution_missing, solution_passes_all, solution_stops}
use Rattle.vipr_check.proofs.Laws.{solution_taken, step_passes, step_stops, step_taken}
use Rattle.vipr_tighten.specs.Keeping.{AnswersWhy, AnswersProof, LeadsTo, solutions_left}
use Rattle.vipr_tighten.specs.Keeping.{derivations_left, KeepsListed, KeepsMet, KeepsDerived}
use Rattle.vipr_tighten.specs.Keeping.{KeepsWhole, KeepsFinished, KeepsProof}

-- ---- what leads to what

pub leads_same : (P : Profile) (f : Found) → LeadsTo P f f
leads_same P f = record { same = refl; answers = λ a x h. h }

pub leads_on : (P : Profile) (f g h : Found) → LeadsTo P f g → LeadsTo P g h → LeadsTo P f h
leads_on P f g h x y = record { same = x.same ∙ y.same; answers = λ a z t. x.answers a z (y.answers a z t) }

pub proof_by : (P : Profile) (f g : Found) → LeadsTo P f g → (c : Certificate) (report : Report)
    → AnswersProof P g c report → AnswersProof P f c report
proof_by P f g x c report h = grind arith

pub answers_by : (P : Profile) (f g : Found) → LeadsTo P f g → (e : NoProof) → AnswersWhy P g e
    → AnswersWhy P f e
answers_by P f g x e (y, h) = (y, SaysWhy-by (Explained P g) (Explained P f) y e x.answers h)

-- ---- one item more

pub problem_leads : (P : Profile) (r : Rest) (p : Problem) (n : ℕ) (s : Rest)
    → problem_read r ≡ Ok ((p, n), s) → LeadsTo P (found_in r) (solutions_from p [] n s)
unfolding found_in
problem_leads P r p n s e =
    record {
      same = ap (λ (x : Read (Problem × ℕ)). (problem_found x).certificate) e;
      answers = λ a x h. (problem_ok P a x r p n s e).1 h;
    }

solution_leads : (P : Profile) (p : Problem) (ss : List (Named Row)) (n : ℕ) (r : Rest)
    (s : Named Row) (t : Rest) → solution_read p r ≡ Ok (s, t)
    → FirstFailing (PassesSolution p s.item) (solution_tests p) None
    → LeadsTo P (solutions_from p ss (suc n) r) (solutions_from p (ss ++ s ∷ []) n t)
unfolding items_read
solution_leads P p ss n r s t e passes =
    let after = items_read (solution_read p) n t in
    let from : Read (Named Row) → Certificate =
    λ x. (let items = before_items (items_read (solution_read p) n) x in
    record { problem = p; solutions = ss ++ items.0; derivations = (ending_found p items.1).0 })
    in
    record {
      same = ap from e
          ∙ ap (λ (l : List (Named Row)). record {
            problem = p;
            solutions = l;
            derivations = (ending_found p after.1).0;
          }) (sym (append_assoc ss (s ∷ []) after.0));
      answers = λ a x h. (solution_passes P a x p ss n r s t e passes).1 h;
    }

pub count_leads : (P : Profile) (p : Problem) (ss : List (Named Row)) (r : Rest) (n : ℕ) (s : Rest)
    → MeetsPrimal p ss p.claim → derivations_read p r ≡ Ok (n, s)
    → LeadsTo P (solutions_from p ss 0 r) (derivations_from (start p ss) n s)
unfolding items_read
count_leads P p ss r n s met e = record {
  same = search rules;
  answers = λ a x h. (derivations_begin P a x p ss r n s met e).1 h;
}

derivation_leads : (P : Profile) (c : Certificate) (n : ℕ) (r : Rest) (d : Derivation) (s : Rest)
    → derivation_read c.problem r ≡ Ok (d, s)
    → FirstFailing (PassesStep P c (condition d.stated)) (step_tests d.reason) None
    → LeadsTo P (derivations_from c (suc n) r) (derivations_from (with_next c d) n s)
unfolding items_read
derivation_leads P c n r d s e passes =
    let after = items_read (derivation_read c.problem) n s in
    record {
      same = ap (λ (x : Read Derivation). with_more c
          (before_items (items_read (derivation_read c.problem) n) x).0) e
          ∙ ap (λ (l : List Derivation). record c { derivations = l })
          (sym (append_assoc c.derivations (d ∷ []) after.0));
      answers = λ a x h. (derivation_passes P a x c n r d s e passes).1 h;
    }

pub end_same : (c : Certificate) (r : Rest) → (derivations_from c 0 r).certificate ≡ c
unfolding items_read
end_same c r = ap (λ (l : List Derivation). record c { derivations = l }) (append-nil c.derivations)

-- ---- the solutions

pub listed_first : (P : Profile) (p : Problem) (k : State) (r : Items) → IsAmong P p [] k r
    → KeepsListed P p r [] k r
listed_first P p k r is = record { is_among = is; known = λ t. t; leads = λ t. leads_same P (solutions_left p [] r) }

module _ (P : Profile) (p : Problem) (ss : List (Named Row)) (k l : State) (first old : Items)
    (h : KeepsListed P p first ss k old) where
  pub solution_unread : (e : TextError) → ((old.left ≡ 0) × Fails {Y = Unit {0}} e (Ok tt))
      ⊎ ((0 < old.left) × Fails e (solution_read p (rest_of old.rest))) → IsSome first.rest
      → AnswersWhy P (solutions_left p [] first) (text_reason e)
  solution_unread e x known = answers_by P (solutions_left p [] first) (solutions_left p ss old)
      (h.leads known) (text_reason e)
      (none, solution_missing P p ss old.left (rest_of old.rest) none e refl x)

  module _ (new : Items) (s : Named Row) (fewer : old.left ≡ suc new.left)
      (memory : Remembers old new) (unspent : new.failed ≡ false)
      (read : IsSome old.rest → (solution_read p (rest_of old.rest) ≡ Ok (s, rest_of new.rest))
      × (IsSome new.rest)) where
    pub solution_accepted : TakesSolution ss s k l (Ok tt) → KeepsListed P p first (ss ++ s ∷ []) l new
    solution_accepted t = record {
      is_among = solution_taken P p ss k l old new s h.is_among fewer memory unspent t;
      known = λ t. (read (h.known t)).1;
      leads = λ known.
          let got = read (h.known known) in
          let passes = solution_passes_all P p ss k l old new s h.is_among fewer t in
          leads_on P (solutions_left p [] first) (solutions_left p ss old)
          (solutions_left p (ss ++ s ∷ []) new) (h.leads known)
          (subst (λ n. LeadsTo P (solutions_from p ss n (rest_of old.rest))
          (solutions_left p (ss ++ s ∷ []) new)) (sym fewer)
          (solution_leads P p ss new.left (rest_of old.rest) s (rest_of new.rest) got.0
          passes));
    }

    pub solution_refused : (e : Stop) → TakesSolution ss s k l (Err e) → IsSome first.rest
        → AnswersWhy P (solutions_left p [] first) (stop_reason e)
    solution_refused e t known =
        answers_by P (solutions_left p [] first) (solutions_left p ss old) (h.leads known) (stop_reason e)
        (state_shown l, solution_stops P p ss k l old new s h.is_among fewer read e t (h.known known))

-- ---- the derivations

module _ (P : Profile) (s c : Certificate) (k l : State) (first old : Items) (h : KeepsDerived P s first c k old) where
  pub step_unread : (e : TextError) → ((old.left ≡ 0) × Fails e (end_read (rest_of old.rest)))
      ⊎ ((0 < old.left) × Fails e (derivation_read c.problem (rest_of old.rest)))
      → IsSome first.rest → AnswersWhy P (derivations_left s first) (text_reason e)
  step_unread e x known = answers_by P (derivations_left s first) (derivations_left c old)
      (h.leads known) (text_reason e)
      (none, derivation_missing P c old.left (rest_of old.rest) none e refl x)

  pub at_end : (IsSome old.rest → (old.left ≡ 0) × (end_read (rest_of old.rest) ≡ Ok tt)) → KeepsWhole P s first c k
  at_end ends = grind arith

  module _ (new : Items) (d : Derivation) (fewer : old.left ≡ suc new.left)
      (memory : Remembers old new) (unspent : new.failed ≡ false)
      (read : IsSome old.rest
      → (derivation_read c.problem (rest_of old.rest) ≡ Ok (d, rest_of new.rest))
      × (IsSome new.rest)) where
    pub step_accepted : TakesStep c d k l (Ok tt) → KeepsDerived P s first (with_next c d) l new
    step_accepted t = record {
      is_at = step_taken P c k l old new d h.is_at fewer memory unspent t;
      known = λ t. (read (h.known t)).1;
      leads = λ known.
          let got = read (h.known known) in
          leads_on P (derivations_left s first) (derivations_left c old)
          (derivations_left (with_next c d) new) (h.leads known)
          (subst (λ n. LeadsTo P (derivations_from c n (rest_of old.rest))
          (derivations_left (with_next c d) new)) (sym fewer)
          (derivation_leads P c new.left (rest_of old.rest) d (rest_of new.rest) got.0
          (step_passes P c k l old new d h.is_at fewer t)));
    }

    pub step_refused : ReasonShape d.reason → (e : Stop) → TakesStep c d k l (Err e)
        → IsSome first.rest → AnswersWhy P (derivations_left s first) (stop_reason e)
    step_refused few e t known =
        answers_by P (derivations_left s first) (derivations_left c old) (h.leads known) (stop_reason e)
        (state_shown l, step_stops P c k l old new d h.is_at fewer read few e t (h.known known))

-- ---- the whole text

pub few_listed : (P : Profile) (p : Problem) (ss : List (Named Row)) (r s : Items) (k : State)
    → KeepsListed P p r ss k s → s.left ≡ 0 → length ss ≤ most_count
few_listed P p ss r s k listed all_read = let room = listed.is_among.room in omega arith

pub whole_writes : (P : Profile) (p : Problem) (ss : List (Named Row)) (ds : List Derivation)
    (l : State) → CanWriteProblem p → length ss ≤ most_count → (t : Items)
    → All (SolutionShape t.variables) ss × All (λ (s : Named Row). RowFits s.item) ss
    → Knows t p → KeepsWhole P (start p ss) t (with_more (start p ss) ds) l
    → All (DerivationShape t.variables) ds × All DerivationFits ds
    → CanWrite (with_more (start p ss) ds)
whole_writes P p ss ds l problem few t solutions knows whole derivations = grind arith

module _ (P : Profile) (s : Certificate) (u : Items) (c : Certificate) (m n : State)
    (whole : KeepsWhole P s u c m) (known : IsSome u.rest) where
  pub finish_answers : (e : Stop) → Finishes c m n (Err e) → AnswersWhy P (derivations_left s u) (stop_reason e)
  finish_answers e h =
      let (end, ended, leads) = whole.leads known in
      answers_by P (derivations_left s u) (derivations_from c 0 end) leads (stop_reason e)
      (state_shown n, finish_stops P c m n end whole.profile ended e whole.has.problem h)

  pub finish_found : (report : Report) → Finishes c m n (Ok report) → AnswersProof P (derivations_left s u) c report
  finish_found report h =
      let (end, ended, leads) = whole.leads known in
      proof_by P (derivations_left s u) (derivations_from c 0 end) leads c report
      (record {
        same = end_same c end;
        answer = (
          state_shown n,
          finish_verifies P c m n end whole.profile ended report whole.runs
              h,
        );
      })

-- ---- all items

-- what tells of the text where an error is handed on
pub err_given : {T : Type 0} (Q : NoProof → Type 0) (x : Result T NoProof) (e : NoProof)
    → IsErrAnd x (λ y. y ≡ e) → Q e → IfErr x Q
err_given Q x e h t = grind arith

pub ok_on : {T E : Type 0} (F G : T → Type 0) (x : Result T E) → ((t : T) → F t → G t) → IfOk x F
    → IfOk x G
ok_on F G (Ok t) h y = h t y
ok_on F G (Err e) h y = tt

pub err_on : {T E : Type 0} (F G : E → Type 0) (x : Result T E) → ((e : E) → F e → G e)
    → IfErr x F → IfErr x G
err_on F G (Ok t) h y = tt
err_on F G (Err e) h y = h e y

-- the end of the solutions
module _ (P : Profile) (p : Problem) (r : Items) (ss : List (Named Row)) (k : State) (s : Items)
    (listed : KeepsListed P p r ss k s) (all_read : s.left ≡ 0) (known : IsSome r.rest) where
  to_end : LeadsTo P (solutions_left p [] r) (solutions_from p ss 0 (rest_of s.rest))
  to_end = subst (λ n. LeadsTo P (solutions_left p [] r) (solutions_from p ss n (rest_of s.rest)))
      all_read (listed.leads known)

  pub end_answers : (e : NoProof) → AnswersWhy P (solutions_from p ss 0 (rest_of s.rest)) e
      → AnswersWhy P (solutions_left p [] r) e
  end_answers e h = answers_by P (solutions_left p [] r) (solutions_from p ss 0 (rest_of s.rest)) to_end e h

-- the number of derivations, and what follows it
module _ (P : Profile) (p : Problem) (r : Items) (ss : List (Named Row)) (k : State) (s : Items)
    (met : KeepsMet P p r ss k s) (all_read : s.left ≡ 0) where
  pub unread_answers : (e : TextError)
      → (IsSome s.rest → Fails e (derivations_read p (rest_of s.rest))) → IsSome r.rest
      → AnswersWhy P (solutions_left p [] r) (text_reason e)
  unread_answers e fails known =
      end_answers P p r ss met.before s met.listed all_read known (text_reason e) (
        none,
        ending_failed P p ss (rest_of s.rest) none e refl
            (ending_met p ss met.before k met.listed.is_among.problem met.ends)
            (fails (met.listed.known known)),
      )

  module _ (u : Items) (remembers : Remembers s u) (working : u.failed ≡ false)
      (counted : u.constraints + u.left < 2 ^ 32) where
    knows_then : Knows u p
    knows_then = knows_still p s u met.listed.is_among.knows remembers

    pub at_then : IsAt P (start p ss) k u
    at_then = at_start P p ss met.before k s met.listed.is_among met.ends u knows_then working counted

    module _ (read : IsSome s.rest
        → (derivations_read p (rest_of s.rest) ≡ Ok (u.left, rest_of u.rest)) × (IsSome u.rest))
      where
        to_derivations : IsSome r.rest → LeadsTo P (solutions_left p [] r) (derivations_left (start p ss) u)
        to_derivations known =
            let count = read (met.listed.known known) in
            leads_on P (solutions_left p [] r) (solutions_from p ss 0 (rest_of s.rest))
            (derivations_left (start p ss) u)
            (to_end P p r ss met.before s met.listed all_read known)
            (count_leads P p ss (rest_of s.rest) u.left (rest_of u.rest)
            (ending_met p ss met.before k met.listed.is_among.problem met.ends) count.0)

        pub later_answers : (e : NoProof)
            → (IsSome u.rest → AnswersWhy P (derivations_left (start p ss) u) e) → IsSome r.rest
            → AnswersWhy P (solutions_left p [] r) e
        later_answers e h known = answers_by P (solutions_left p [] r)
            (derivations_left (start p ss) u) (to_derivations known) e
            (h (read (met.listed.known known)).1)

        pub proof_kept : (ds : List Derivation) (report : Report) (l : State) → Knows r p
            → All (SolutionShape r.variables) ss × All (λ (s : Named Row). RowFits s.item) ss
            → All (DerivationShape u.variables) ds × All DerivationFits ds
            → KeepsFinished P (start p ss) u (with_more (start p ss) ds) report l
            → (l.progress.problem ≡ p) × (CanWriteProblem p → CanWrite (with_more (start p ss) ds))
            × KeepsProof P p r (with_more (start p ss) ds) report
        proof_kept ds report l knows solutions derivations h =
            let c = with_more (start p ss) ds in
            let same : u.variables ≡ r.variables = knows_then.variables ∙ sym knows.variables in (
              ap (λ (v : State). v.progress.problem) h.done.3 ∙ sym h.whole.has.problem,
              (λ problem. whole_writes P p ss ds h.before problem
                  (few_listed P p ss r s met.before met.listed all_read) u
                  (subst (λ n. All (SolutionShape n) ss) (sym same) solutions.0, solutions.1)
                  knows_then h.whole derivations),
              record {
                proof = subst (λ Q. IsProof Q c) h.whole.profile h.done.0;
                reports = subst (λ Q. Reports Q c (report_of report)) h.whole.profile h.done.1;
                shown = h.done.2;
                found = λ known.
                    proof_by P (solutions_left p [] r) (derivations_left (start p ss) u) (to_derivations known) c report
                    (finish_found P (start p ss) u c h.before l h.whole
                    (read (met.listed.known known)).1 report h.done);
              },
            )

-- ---- the whole text

module _ (P : Profile) (t : Rest) (p : Problem) (r : Items)
    (read : problem_read t ≡ Ok ((p, r.left), rest_of r.rest)) where
  to_solutions : LeadsTo P (found_in t) (solutions_left p [] r)
  to_solutions = problem_leads P t p r.left (rest_of r.rest) read

  pub rest_found : (c : Certificate) (report : Report)
      → AnswersProof P (solutions_left p [] r) c report → AnswersProof P (found_in t) c report
  rest_found c report h = proof_by P (found_in t) (solutions_left p [] r) to_solutions c report h

  pub rest_answers : (e : NoProof) → AnswersWhy P (solutions_left p [] r) e → AnswersWhy P (found_in t) e
  rest_answers e h = answers_by P (found_in t) (solutions_left p [] r) to_solutions e h

-- ---- the answer

pub memory_known : (P : Profile) (o : Option Input)
    → IfKnown o (λ i. AnswersWhy P (found_in (text_of i)) reason.Memory)
memory_known P None = tt
memory_known P (Some i) = λ short. (none, tt)

-- what is found in what the reader has left is found in what the source gives
pub known_by : (Q : Found → Type 0) (o : Option Input) (reader : Option Rest)
    → IfKnown o (λ i. reader ≡ Some (text_of i)) → (IsSome reader → Q (found_in (rest_of reader)))
    → IfKnown o (λ i. Q (found_in (text_of i)))
known_by Q o reader h k = grind arith
