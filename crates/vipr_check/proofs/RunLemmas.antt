-- A text item by item: what is answered for what is left is the answer for what was left before
use Rattle.std.proofs.Common.{◌≡◌, ℕ, zero, suc, ◌+◌, ◌<◌, ◌^◌, true, false, List, [], ◌∷◌}
use Rattle.std.proofs.Common.{◌++◌, Some, None, Result, Ok, Err, inl, inr, arith, refl, sym, ◌∙◌}
use Rattle.std.proofs.Common.{ap, subst}
use Rattle.std.specs.Prelude.{◌⊎◌, IsSome, IfSome, IfOk, Option}
use Rattle.std.specs.Result.{result_transpose}
use Rattle.vipr_scan.specs.{Faults.Fails, Giving.rest_of, declared.error.TextError.TextError}
use Rattle.std.proofs.lemmas.List.{length-append}
use Rattle.vipr_spec.specs.Certificate.{Named, Problem, Derivation, Certificate}
use Rattle.vipr_spec.specs.Certificate.{MeetsPrimal, IsProof}
use Rattle.vipr_spec.specs.Reading.{Rest, problem_read, solution_read, derivations_read}
use Rattle.vipr_spec.specs.Reading.{derivation_read, end_read}
use Rattle.vipr_spec.specs.Steps.{step_tests, with_next, FirstFailing, FirstFailing}
use Rattle.vipr_spec.specs.Tests.{spelled, PassesSolution, solution_tests, Detail, none, step}
use Rattle.vipr_spec.specs.Tests.{no_proof, no_primal, solution_detail, goal_needed_by}
use Rattle.vipr_spec.specs.Verdict.{Reports, Answer, verified, refuses, answer_of_test, Explained}
use Rattle.vipr_spec.specs.Verdict.{IsExplained}
use Rattle.vipr_spec.specs.Progress.{derivations_from, solutions_from}
use Rattle.vipr_spec.specs.{Checking.start, Constraint.Profile, Constraint.Row, Shape.ReasonShape}
use Rattle.vipr_rules.specs.{Apply.PassesTestsIn, Solution.test_of}
use Rattle.vipr_spec.proofs.Laws.{count_next, problem_fault, problem_ok, solution_fault}
use Rattle.vipr_spec.proofs.Laws.{solution_passes, solution_fails, solutions_unmet}
use Rattle.vipr_spec.proofs.Laws.{derivations_fault, derivations_begin, derivation_fault}
use Rattle.vipr_spec.proofs.Laws.{derivation_passes, derivation_fails, end_fault, end_unproved}
use Rattle.vipr_spec.proofs.Laws.{end_verified}
use Rattle.vipr_read.specs.Items.{Items, Knows, Remembers}
use Rattle.vipr_check.specs.declared.halt.Halt.TheVariants.{Refused, Memory}
use Rattle.vipr_check.specs.Shown.{finding_shown, primal_shown, halt_shown, state_shown}
use Rattle.vipr_check.specs.Progress.{HasSolutions}
use Rattle.vipr_check.specs.State.{State, HaltsBy, StopsSolution, TakesSolution, StopsEnd}
use Rattle.vipr_check.specs.State.{EndsSolutions, StopsStep, TakesStep, StopsFinish, Finishes}
use Rattle.vipr_check.specs.Reasons.{stop_reason, text_reason, SaysWhy}
use Rattle.vipr_check.specs.Run.{IsAmong, HasListed, IsAt, HasReached, Goes, SaysWith}
use Rattle.vipr_check.specs.{Halts.halt_answer, Halts.step_detail_of, View.report_of}
use Rattle.vipr_check.specs.{View.refusal_of, declared.halt.Halt.Halt, declared.halt.Stop.Stop}
use Rattle.vipr_check.specs.{declared.no_proof.NoProof.NoProof, declared.verdict.Report.Report}
use Rattle.vipr_check.proofs.Answering.{SaysWith-by, text_says}
use Rattle.vipr_check.proofs.ShownLemmas.{missed_bound, stop_shown, halted_shown, unshown}

-- ---- the reader's memory

pub knows_still : (p : Problem) (old new : Items) → Knows old p → Remembers old new → Knows new p
knows_still p old new k r = record {
  variables = r.variables ∙ k.variables;
  constraints = r.constraints ∙ k.constraints;
  objective = r.objective ∙ k.objective;
}

-- ---- stops

-- what is said where a checker stopped
stopped_says : (P : Answer → Detail → Type 0) (k l : State) (h : Halt) (e : Stop) → HaltsBy k h l e
    → SaysWhy P (halt_shown k.progress.problem (Some h)) (stop_reason (halt_answer h))
    → SaysWhy P (state_shown l) (stop_reason e)
stopped_says P k l h e halts s = subst (λ x. SaysWhy P x (stop_reason e))
    (sym (halted_shown k l h e halts))
    (subst (λ t. SaysWhy P (halt_shown k.progress.problem (Some h)) (stop_reason t))
    (sym halts.answer) s)

-- ---- the derivations

pub at_start : (P : Profile) (p : Problem) (ss : List (Named Row)) (k l : State) (r : Items)
    → IsAmong P p ss k r → EndsSolutions ss k l (Ok tt) → (new : Items) → Knows new p
    → new.failed ≡ false → new.constraints + new.left < 2 ^ 32
    → IsAt P (start p ss) l new
at_start P p ss k l r is h new knows unspent room = grind arith

pub reached_later : (P : Profile) (c : Certificate) (k l : State) (old mid new : Items)
    → (h : HasReached P c old k mid) → HasReached P h.now mid l new → HasReached P c old l new
reached_later P c k l old mid new h i = record {
  now = i.now;
  is_at = i.is_at;
  leads = λ known. let a = h.leads known in
      let b = i.leads a.known in
      record { known = b.known; answers = λ x z y. a.answers x z (b.answers x z y) };
}

-- what ends the steps says of what was left before what it says of what is left now
pub step_ends : (P : Profile) (c : Certificate) (k l : State) (old mid new : Items)
    (h : HasReached P c old k mid) (r : Result (Option Report) NoProof) (x : Result Report NoProof)
    → Some x ≡ result_transpose r → Goes P h.now mid l new r → IsSome old.rest
    → SaysWith (Explained P (derivations_from c old.left (rest_of old.rest))) (state_shown l) x
step_ends P c k l old mid new h r x is goes known = grind arith

pub step_ends_proved : (Q : Report → Type 0) (r : Result (Option Report) NoProof) (x : Result Report NoProof)
    → Some x ≡ result_transpose r → IfOk r (λ o. IfSome o Q) → IfOk x Q
step_ends_proved Q r x is q = grind arith

-- and if they go on, the checker is behind one more
pub step_goes_on : (P : Profile) (c : Certificate) (k l : State) (old mid new : Items)
    (h : HasReached P c old k mid) (r : Result (Option Report) NoProof)
    → None ≡ result_transpose r → Goes P h.now mid l new r → HasReached P c old l new
step_goes_on P c k l old mid new h (Ok None) is goes = reached_later P c k l old mid new h goes
step_goes_on P c k l old mid new h (Ok (Some report)) is goes = absurd (cc is)
step_goes_on P c k l old mid new h (Err e) is goes = absurd (cc is)

module _ (P : Profile) (c : Certificate) (k l : State) (old new : Items) (d : Derivation)
    (is : IsAt P c k old) (fewer : old.left ≡ suc new.left) where
  pub step_taken : Remembers old new → new.failed ≡ false → TakesStep c d k l (Ok tt) → IsAt P (with_next c d) l new
  step_taken memory unspent h = grind (arith, count_next)

  pub step_passes : TakesStep c d k l (Ok tt) → PassesTestsIn P c d (step_tests d.reason)
  step_passes h = subst (λ Q. PassesTestsIn Q c d (step_tests d.reason)) is.profile h.0

  module _ (read : IsSome old.rest
      → (derivation_read c.problem (rest_of old.rest) ≡ Ok (d, (rest_of new.rest)))
      × (IsSome new.rest)) where
    abbrev Left : Answer → Detail → Type 0
    Left a x = Explained P (derivations_from c old.left (rest_of old.rest)) a x

    pub step_reached : Remembers old new → new.failed ≡ false → TakesStep c d k l (Ok tt) → HasReached P c old l new
    step_reached memory unspent h = record {
      now = with_next c d;
      is_at = step_taken memory unspent h;
      leads = λ known. record {
        known = (read known).1;
        answers = λ a x y. subst (λ n. Explained P (derivations_from c n (rest_of old.rest)) a x)
            (sym fewer) ((derivation_passes P a x c new.left (rest_of old.rest) d (rest_of new.rest)
            (read known).0 (step_passes h)).1 y);
      };
    }

    step_stopped : ReasonShape d.reason → (p : Problem) (h : Halt) → StopsStep P c d h
        → IsSome old.rest → SaysWhy Left (halt_shown p (Some h)) (stop_reason (halt_answer h))
    step_stopped few p Memory w known = tt
    step_stopped few p (Refused r f) (what, named, e, says, fails, refusal) known =
        let a = refuses (refusal_of r) in
        let x = finding_shown p f in
        let shown : x ≡ step d.name fails.2.0 = ap (finding_shown p) named
        ∙ ap (step d.name) (stop_shown P c d e r.cause (step_detail_of what) few fails says) in
        subst (λ n. Explained P (derivations_from c n (rest_of old.rest)) a x) (sym fewer)
        ((derivation_fails P a x c new.left (rest_of old.rest) d (rest_of new.rest) fails.0
        (read known).0 fails.1).1 (refusal, (fails.2.0, fails.2.2, shown)))

    pub step_stops : ReasonShape d.reason → (e : Stop) → TakesStep c d k l (Err e) → IsSome old.rest
        → SaysWhy Left (state_shown l) (stop_reason e)
    step_stops few e (h, halts, why) known =
        stopped_says Left k l h e halts
        (step_stopped few k.progress.problem h (subst (λ Q. StopsStep Q c d h) is.profile why)
        known)

pub derivation_missing : (P : Profile) (c : Certificate) (n : ℕ) (r : Rest) (x : Detail)
    (e : TextError) → x ≡ none
    → ((n ≡ 0) × Fails e (end_read r)) ⊎ ((0 < n) × Fails e (derivation_read c.problem r))
    → SaysWhy (Explained P (derivations_from c n r)) x (text_reason e)
derivation_missing P c n r x e shown (inl h) =
    subst (λ n. SaysWhy (Explained P (derivations_from c n r)) x (text_reason e)) (sym h.0)
    (text_says (Explained P (derivations_from c 0 r)) x e (end_read r) shown h.1
    (λ f is. (end_fault P (answer_of_test (spelled f)) none c r f is).1 (refl, refl)))
derivation_missing P c zero r x e shown (inr h) = absurd (let z = h.0 in omega arith)
derivation_missing P c (suc n) r x e shown (inr h) =
    text_says (Explained P (derivations_from c (suc n) r)) x e (derivation_read c.problem r) shown
    h.1 (λ f is. (derivation_fault P (answer_of_test (spelled f)) none c n r f is).1 (refl, refl))

-- ---- the end

finish_stopped : (P : Profile) (c : Certificate) (r : Rest) (p : Problem) (h : Halt) → c.problem ≡ p
    → end_read r ≡ Ok tt → StopsFinish P c h → SaysWhy (Explained P (derivations_from c 0 r))
    (halt_shown p (Some h)) (stop_reason (halt_answer h))
finish_stopped P c r p Memory same end w = absurd w
finish_stopped P c r p (Refused x f) same end (named, fails, refusal) =
    let shown : finding_shown p f ≡ no_proof (goal_needed_by c.problem c.problem.claim) =
    ap (finding_shown p) named ∙ ap (λ q. no_proof (goal_needed_by q q.claim)) (sym same) in
    (end_unproved P (refuses (refusal_of x)) (finding_shown p f) c r end fails).1 (refusal, shown)

module _ (P : Profile) (c : Certificate) (k l : State) (r : Rest) (under : k.progress.profile ≡ P)
    (end : end_read r ≡ Ok tt) where
  pub finish_stops : (e : Stop) → c.problem ≡ k.progress.problem → Finishes c k l (Err e)
      → SaysWhy (Explained P (derivations_from c 0 r)) (state_shown l) (stop_reason e)
  finish_stops e same (h, halts, why) = stopped_says (Explained P (derivations_from c 0 r)) k l h e
      halts (finish_stopped P c r k.progress.problem h same end
      (subst (λ Q. StopsFinish Q c h) under why))

  pub finish_verifies : (report : Report) → k.halt ≡ None → Finishes c k l (Ok report)
      → Explained P (derivations_from c 0 r) (verified (report_of report)) (state_shown l)
  finish_verifies report runs h =
      let shown : state_shown l ≡ none = ap state_shown h.3 ∙ unshown k runs in
      (end_verified P (verified (report_of report)) (state_shown l) c r end
      (subst (λ Q. IsProof Q c) under h.0).dual).1
      ((report_of report, subst (λ Q. Reports Q c (report_of report)) under h.1, refl), shown)

-- ---- the solutions

pub listed_later : (P : Profile) (p : Problem) (ss : List (Named Row)) (k l : State)
    (old mid new : Items) → (h : HasListed P p ss old k mid) → HasListed P p h.now mid l new
    → HasListed P p ss old l new
listed_later P p ss k l old mid new h i = grind arith

-- an answer for what is left now is one for what was left before
pub listed_says : (P : Profile) (p : Problem) (ss : List (Named Row)) (k : State) (old mid : Items)
    (h : HasListed P p ss old k mid) → IsSome old.rest → (x : Detail) (y : Result Report NoProof)
    → (IsSome mid.rest
    → SaysWith (Explained P (solutions_from p h.now mid.left (rest_of mid.rest))) x y)
    → SaysWith (Explained P (solutions_from p ss old.left (rest_of old.rest))) x y
listed_says P p ss k old mid h known x y s =
    SaysWith-by (Explained P (solutions_from p h.now mid.left (rest_of mid.rest)))
    (Explained P (solutions_from p ss old.left (rest_of old.rest))) x y (h.answers known)
    (s (h.known known))

module _ (P : Profile) (p : Problem) (ss : List (Named Row)) (k l : State) (old new : Items)
    (s : Named Row) (is : IsAmong P p ss k old) (fewer : old.left ≡ suc new.left) where
  pub solution_taken : Remembers old new → new.failed ≡ false → TakesSolution ss s k l (Ok tt)
      → IsAmong P p (ss ++ s ∷ []) l new
  solution_taken memory unspent h = grind (arith, length-append)

  pub solution_passes_all : TakesSolution ss s k l (Ok tt)
      → FirstFailing (PassesSolution p s.item) (solution_tests p) None
  solution_passes_all h = subst (λ q. FirstFailing (PassesSolution q s.item) (solution_tests q) None) is.problem h.0

  module _ (read : IsSome old.rest
      → (solution_read p (rest_of old.rest) ≡ Ok (s, (rest_of new.rest))) × (IsSome new.rest)) where
    abbrev Remaining : Answer → Detail → Type 0
    Remaining a x = Explained P (solutions_from p ss old.left (rest_of old.rest)) a x

    pub solution_listed : Remembers old new → new.failed ≡ false → TakesSolution ss s k l (Ok tt)
        → HasListed P p ss old l new
    solution_listed memory unspent h = record {
      now = ss ++ s ∷ [];
      is_among = solution_taken memory unspent h;
      known = λ known. (read known).1;
      answers = λ known a x y. subst (λ n. Explained P (solutions_from p ss n (rest_of old.rest)) a x) (sym fewer)
          ((solution_passes P a x p ss new.left (rest_of old.rest) s (rest_of new.rest)
          (read known).0 (solution_passes_all h)).1 y);
    }

    solution_stopped : (h : Halt) → StopsSolution p ss s h → IsSome old.rest
        → SaysWhy Remaining (halt_shown p (Some h)) (stop_reason (halt_answer h))
    solution_stopped Memory w known = tt
    solution_stopped (Refused r f) (e, named, fails, refusal) known =
        let a = refuses (refusal_of r) in
        let x = finding_shown p f in
        let shown : x ≡ solution_detail p s.name s.item (test_of e) = ap (finding_shown p) named ∙ fails.1 s.name in
        subst (λ n. Explained P (solutions_from p ss n (rest_of old.rest)) a x) (sym fewer)
        ((solution_fails P a x p ss new.left (rest_of old.rest) s (rest_of new.rest) (test_of e)
        (read known).0 fails.0).1 (refusal, shown))

    pub solution_stops : (e : Stop) → TakesSolution ss s k l (Err e) → IsSome old.rest
        → SaysWhy Remaining (state_shown l) (stop_reason e)
    solution_stops e (h, halts, why) known = grind (arith, solution_stopped)

solution_fault_at : (P : Profile) (p : Problem) (ss : List (Named Row)) (n : ℕ) (r : Rest)
    (x : Detail) (e : TextError) → x ≡ none → 0 < n → Fails e (solution_read p r)
    → SaysWhy (Explained P (solutions_from p ss n r)) x (text_reason e)
solution_fault_at P p ss zero r x e shown lt h = absurd (omega arith)
solution_fault_at P p ss (suc n) r x e shown lt h =
    text_says (Explained P (solutions_from p ss (suc n) r)) x e (solution_read p r) shown h
    (λ f is. (solution_fault P (answer_of_test (spelled f)) none p ss n r f is).1 (refl, refl))

pub solution_missing : (P : Profile) (p : Problem) (ss : List (Named Row)) (n : ℕ) (r : Rest)
    (x : Detail) (e : TextError) → x ≡ none
    → ((n ≡ 0) × Fails {Y = Unit {0}} e (Ok tt)) ⊎ ((0 < n) × Fails e (solution_read p r))
    → SaysWhy (Explained P (solutions_from p ss n r)) x (text_reason e)
solution_missing P p ss n r x e shown (inl h) =
    text_says (Explained P (solutions_from p ss n r)) x e (Ok tt) shown h.1 (λ f is. absurd (cc is))
solution_missing P p ss n r x e shown (inr h) = solution_fault_at P p ss n r x e shown h.0 h.1

-- ---- their end

ending_stopped : (P : Profile) (p : Problem) (ss : List (Named Row)) (r : Rest) (h : Halt)
    → StopsEnd p ss h → SaysWhy (Explained P (solutions_from p ss 0 r)) (halt_shown p (Some h))
    (stop_reason (halt_answer h))
ending_stopped P p ss r Memory w = absurd w
ending_stopped P p ss r (Refused x f) (named, fails, refusal) =
    let bound = missed_bound p ss p.claim fails in
    let shown : finding_shown p f ≡ no_primal bound.0 = ap (finding_shown p) named ∙ ap primal_shown bound.1 in
    (solutions_unmet P (refuses (refusal_of x)) (finding_shown p f) p ss r fails).1 (refusal, (bound.0, bound.1, shown))

pub ending_unmet : (P : Profile) (p : Problem) (ss : List (Named Row)) (k l : State) (r : Rest)
    (e : Stop) → k.progress.problem ≡ p → EndsSolutions ss k l (Err e)
    → SaysWhy (Explained P (solutions_from p ss 0 r)) (state_shown l) (stop_reason e)
ending_unmet P p ss k l r e same (h, halts, why) = stopped_says (Explained P (solutions_from p ss 0 r)) k l h e halts
    (subst (λ q. SaysWhy (Explained P (solutions_from p ss 0 r)) (halt_shown q (Some h))
    (stop_reason (halt_answer h))) (sym same)
    (ending_stopped P p ss r h (subst (λ q. StopsEnd q ss h) same why)))

pub ending_met : (p : Problem) (ss : List (Named Row)) (k l : State) → k.progress.problem ≡ p
    → EndsSolutions ss k l (Ok tt) → MeetsPrimal p ss p.claim
ending_met p ss k l same h = subst (λ q. MeetsPrimal q ss q.claim) same h.0

pub ending_failed : (P : Profile) (p : Problem) (ss : List (Named Row)) (r : Rest) (x : Detail)
    (e : TextError) → x ≡ none → MeetsPrimal p ss p.claim → Fails e (derivations_read p r)
    → SaysWhy (Explained P (solutions_from p ss 0 r)) x (text_reason e)
ending_failed P p ss r x e shown met h = text_says (Explained P (solutions_from p ss 0 r)) x e
    (derivations_read p r) shown h
    (λ f is. (derivations_fault P (answer_of_test (spelled f)) none p ss r f met is).1 (refl, refl))

pub ending_read : (P : Profile) (p : Problem) (ss : List (Named Row)) (m : ℕ) (r s : Rest)
    (y : Detail) (x : Result Report NoProof) → MeetsPrimal p ss p.claim
    → derivations_read p r ≡ Ok (m, s)
    → SaysWith (Explained P (derivations_from (start p ss) m s)) y x
    → SaysWith (Explained P (solutions_from p ss 0 r)) y x
ending_read P p ss m r s y x met is h =
    SaysWith-by (Explained P (derivations_from (start p ss) m s))
    (Explained P (solutions_from p ss 0 r)) y x
    (λ a z. (derivations_begin P a z p ss r m s met is).1) h

-- the checker stays as it is, but for the phase
pub ending_shown : (P : Profile) (p : Problem) (ss : List (Named Row)) (k l : State) (r : Items)
    → IsAmong P p ss k r → EndsSolutions ss k l (Ok tt) → state_shown l ≡ none
ending_shown P p ss k l r is h = ap state_shown h.2 ∙ unshown k is.runs

-- ---- the problem

pub among_start : (P : Profile) (p : Problem) (k : State) (r : Items) → k.progress.profile ≡ P
    → k.progress.problem ≡ p → HasSolutions [] k.progress → k.in_solutions ≡ true → k.halt ≡ None
    → Knows r p → r.failed ≡ false → r.left < 2 ^ 32 → IsAmong P p [] k r
among_start P p k r runs_by same has phase runs knows unspent room =
    record {
      profile = runs_by;
      problem = same;
      has = has;
      phase = phase;
      runs = runs;
      knows = knows;
      unspent = unspent;
      room = omega arith;
    }

pub problem_failed : (P : Profile) (r : Rest) (e : TextError) → Fails e (problem_read r)
    → SaysWhy (IsExplained P r) none (text_reason e)
problem_failed P r e h = text_says (IsExplained P r) none e (problem_read r) refl h
    (λ f is. (problem_fault P (answer_of_test (spelled f)) none r f is).1 (refl, refl))

pub problem_read_on : (P : Profile) (r : Rest) (p : Problem) (n : ℕ) (s : Rest) (y : Detail)
    (x : Result Report NoProof) → problem_read r ≡ Ok ((p, n), s)
    → SaysWith (Explained P (solutions_from p [] n s)) y x → SaysWith (IsExplained P r) y x
problem_read_on P r p n s y x is h = SaysWith-by (Explained P (solutions_from p [] n s))
    (IsExplained P r) y x (λ a z. (problem_ok P a z r p n s is).1) h
