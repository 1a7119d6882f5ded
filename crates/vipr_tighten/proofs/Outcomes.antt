-- What is written for a proof, and what is answered for a text
use Rattle.std.proofs.Common.{◌≡◌, ℕ, ◌+◌, ◌<◌, ◌≤◌, true, false, List, length, Option, Some, None}
use Rattle.std.proofs.Common.{IfSome, Result, Ok, Err, arith, refl, sym, ◌∙◌, ap, subst}
use Rattle.std.specs.Prelude.{MatchOption}
use Rattle.vipr_spec.specs.Certificate.{Certificate, IsProof, IsGoal, GoalIs, NeedsGoal, peak}
use Rattle.vipr_spec.specs.Grammar.{Spells, SpellsOnly}
use Rattle.vipr_spec.specs.Reading.{Rest, certificate_read}
use Rattle.vipr_spec.specs.Tightened.{tightened_certificate, new_goal}
use Rattle.vipr_spec.specs.Verdict.{Report, Reports, Answer, Answers, verified, refuses, cut_short}
use Rattle.vipr_spec.specs.Verdict.{found_in, IsAnswer}
use Rattle.vipr_spec.specs.{Constraint.Profile, GrammarLaws.whole_text, Input.Input, Tests.none}
use Rattle.vipr_spec.proofs.Laws.{back_of_proof, claim_shown, found_read, one_certificate}
use Rattle.vipr_spec.proofs.Laws.{proof_answered, reads_texts, tight_counts, tight_goal}
use Rattle.vipr_spec.proofs.Laws.{tight_needed, tight_peak, tight_proof, tight_twice}
use Rattle.vipr_spec.proofs.Laws.{verified_read, answer_explained}
use Rattle.vipr_bytes.specs.Known.{text_of, IfKnown, IfWhole}
use Rattle.vipr_bytes.specs.{Output.Output, Written.Wrote}
use Rattle.vipr_write.specs.declared.form.Form.TheVariants.{Canonical, Compact}
use Rattle.vipr_write.specs.{Forms.text_in, WrittenText.WroteText, declared.form.Form.Form}
use Rattle.vipr_write.specs.declared.write.WriteError.TheVariants as write
use Rattle.vipr_check.specs.declared.no_proof.NoProof.{NoProof}
use Rattle.vipr_check.specs.{View.refusal_of, View.report_of, declared.verdict.Refusal.Refusal}
use Rattle.vipr_check.proofs.Laws.{failed_read}
use Rattle.vipr_tighten.specs.declared.outcome.Outcome.{Outcome}
use Rattle.vipr_tighten.specs.declared.outcome.Outcome.TheVariants.{Tightened, Refused}
use Rattle.vipr_tighten.specs.declared.outcome.TightenFault.{TightenFault}
use Rattle.vipr_tighten.specs.declared.outcome.TightenFault.TheVariants.{Read, Memory, Write}
use Rattle.vipr_tighten.specs.Tightens.{IsProofFor, IsTight, KindOfText, TakesNothing, TightensText}
use Rattle.vipr_tighten.specs.Tightens.{any_kind, kind_of, kind_read, kind_spelled, unproved_answer}
use Rattle.vipr_tighten.specs.Tightens.{TightensAs}
use Rattle.vipr_check.specs.declared.verdict.Report as checked
use Rattle.vipr_tighten.specs.Keeping.{HasAnswer, AnswersWhy, AnswersProof}
use Rattle.vipr_check.specs.declared.no_proof.NoProof.TheVariants as reason

-- ---- a proof

pub is_proof_for : (P : Profile) (c : Certificate) (goal : Option ℕ) → IsProof P c → GoalIs P c goal
    → IsProofFor P c goal
is_proof_for P c goal p g = record { proof = p; goal_is = g; shown = claim_shown P c p }

pub is_tight : (P : Profile) (c : Certificate) (goal : Option ℕ) → IsProof P c → GoalIs P c goal
    → ((G : Form)
    → SpellsOnly (text_in G (tightened_certificate c goal)) (tightened_certificate c goal))
    → IsTight P c goal (tightened_certificate c goal)
is_tight P c goal p g s =
    let back = back_of_proof P c p in
    record {
      problem = refl;
      solutions = refl;
      proof = is_proof_for P (tightened_certificate c goal) (new_goal c goal)
          (tight_proof P c goal p g) (tight_goal P c goal back g);
      spells = s Canonical;
      spells_compact = s Compact;
      needed = tight_needed c goal back;
      again = tight_twice c goal back;
      peak_is = tight_peak P c goal p;
    }

goal_by : (P : Profile) (c : Certificate) (goal : Option ℕ)
    → MatchOption goal (¬ NeedsGoal c.problem c.problem.claim) (IsGoal P c) → GoalIs P c goal
goal_by P c goal n = grind arith

pub reported_goal : (P : Profile) (c : Certificate) (r : Report) → Reports P c r → GoalIs P c r.goal
reported_goal P c r h = goal_by P c r.goal h.goal

-- no more are kept than there are
pub fewer_kept : (c : Certificate) (goal : Option ℕ)
    → length (tightened_certificate c goal).derivations ≤ length c.derivations
fewer_kept c goal = let e = tight_counts c goal in omega arith

-- ---- what is known of a text

module _ (P : Profile) (F : Form) (k l : KindOfText) (of : (c : Certificate) → k.IsOf c
    → IsProof P c → l.IsOf c) (by : (r : Refusal) → k.IsRefusedBy r → l.IsRefusedBy r)
    (cut : k.IsCutShort → l.IsCutShort) (old new : Option Output) where
  pub tightens_by : (x : Result Outcome TightenFault) → TightensText P F k old new x → TightensText P F l old new x
  tightens_by (Ok (Tightened kept removed before after)) (c, goal, is, proof, tight, w) =
      (c, goal, of c is proof.proof, proof, tight, w)
  tightens_by (Ok (Refused r)) h = (by r h.0, h.1)
  tightens_by (Err Read) h = (cut h.0, h.1)
  tightens_by (Err (Memory n)) h = h
  tightens_by (Err (Write n)) (c, goal, is, proof, tight, w) = (c, goal, of c is proof.proof, proof, tight, w)

pub nothing_accepted : (o : Option Output) → TakesNothing o o
nothing_accepted o = grind arith

pub certificate_is : (P : Profile) (r : Rest) (c : Certificate) (report : Report)
    → (found_in r).certificate ≡ c → Answers P (found_in r) (verified report)
    → certificate_read r ≡ Ok c
certificate_is P r c report same h =
    grind (
      arith,
      found_read r ((verified_read P r report).0 h).0
          ((verified_read P r report).0 h).1,
    )

whole_is : (i : Input) → i.fails ≡ false → text_of i ≡ whole_text i.bytes
whole_is i e = subst (λ b. text_of (record { bytes = i.bytes; fails = b }) ≡ whole_text i.bytes) (sym e) refl

spelled_only : (bytes : List ℕ) (c : Certificate) → certificate_read (whole_text bytes) ≡ Ok c
    → SpellsOnly bytes c
spelled_only bytes c e =
    let s = (reads_texts bytes c).0 e in
    record { this = s; no_other = λ other o. one_certificate bytes other c o s }

unproved_text : (P : Profile) (bytes : List ℕ) (a : Answer) → ((r : Report) → ¬ (a ≡ verified r))
    → IsAnswer P (whole_text bytes) a → (c : Certificate) → Spells bytes c → ¬ IsProof P c
unproved_text P bytes a other h c s p =
    let v = proof_answered P (whole_text bytes) c a ((reads_texts bytes c).1 s) p h in
    other v.0 v.2

spelled_by : (P : Profile) (F : Form) (i : Input) → i.fails ≡ false
    → (old new : Option Output) (x : Result Outcome TightenFault)
    → TightensText P F (kind_read P (text_of i)) old new x
    → TightensText P F (kind_spelled P i.bytes) old new x
spelled_by P F i whole old new x h =
    let r = text_of i in
    tightens_by P F (kind_read P r) (kind_spelled P i.bytes)
    (λ c e p. spelled_only i.bytes c (subst (λ s. certificate_read s ≡ Ok c) (whole_is i whole) e))
    (λ y a. unproved_text P i.bytes (refuses (refusal_of y)) (λ v e. cc)
    (subst (λ s. IsAnswer P s (refuses (refusal_of y))) (whole_is i whole) a))
    (λ a. let fails = failed_read P r a in cc)
    old new x h

read_by : (P : Profile) (F : Form) (i : Input) (old new : Option Output)
    (x : Result Outcome TightenFault) → TightensText P F (kind_read P (text_of i)) old new x
    → x ≡ Err Read → i.fails ≡ true
read_by P F i old new x h e =
    let at = subst (TightensText P F (kind_read P (text_of i)) old new) e h in
    failed_read P (text_of i) at.0

pub tightens : (P : Profile) (F : Form) (source : Option Input) (old new : Option Output)
    (x : Result Outcome TightenFault) → TightensText P F any_kind old new x
    → IfKnown source (λ i. TightensText P F (kind_read P (text_of i)) old new x)
    → TightensAs P F source old new x
tightens P F source old new x any exact =
    record {
      written = any;
      exact = exact;
      read = read source exact;
      spelled = spelled source exact;
    }
  where
    read : (s : Option Input)
        → IfKnown s (λ i. TightensText P F (kind_read P (text_of i)) old new x)
        → IfKnown s (λ i. x ≡ Err Read → i.fails ≡ true)
    read None h = tt
    read (Some i) h = λ short. read_by P F i old new x (h short)

    spelled : (s : Option Input)
        → IfKnown s (λ i. TightensText P F (kind_read P (text_of i)) old new x)
        → IfWhole s (λ bytes. TightensText P F (kind_spelled P bytes) old new x)
    spelled None h = tt
    spelled (Some i) h = λ short whole. spelled_by P F i whole old new x (h short)

-- ---- what is written

module _ (P : Profile) (F : Form) (c : Certificate) (r : Report) (p : IsProof P c)
    (reports : Reports P c r)
    (spells : (G : Form) → SpellsOnly (text_in G (tightened_certificate c r.goal))
    (tightened_certificate c r.goal)) (old new : Option Output) where
  abbrev tightened : Certificate
  tightened = tightened_certificate c r.goal

  goal_is : GoalIs P c r.goal
  goal_is = reported_goal P c r reports

  pub written_whole : (kept removed before after : ℕ) → kept ≡ length tightened.derivations
      → kept + removed ≡ r.derived → before ≡ r.peak → after ≡ peak tightened
      → IfSome old (λ o. Wrote o new (text_in F tightened) (Ok tt))
      → TightensText P F (kind_of c) old new (Ok (Tightened kept removed before after))
  written_whole kept removed before after k a b f w = (
    c,
    r.goal,
    refl,
    is_proof_for P c r.goal p goal_is,
    is_tight P c r.goal p goal_is spells,
    (record { kept_is = k; all = a ∙ reports.derived; before_is = b ∙ reports.peak; after_is = f }, w),
  )

  pub written_part : (n : ℕ) → n < length (text_in F tightened)
      → IfSome old (λ o. Wrote o new (text_in F tightened) (Err (record { accepted = n })))
      → TightensText P F (kind_of c) old new (Err (Write n))
  written_part n l w = (
    c,
    r.goal,
    refl,
    is_proof_for P c r.goal p goal_is,
    is_tight P c r.goal p goal_is spells,
    (l, w),
  )

pub written_not : (P : Profile) (F : Form) (c : Certificate) (old new : Option Output)
    (text : List ℕ) (n : ℕ) → n ≡ 0 → IfSome old (λ o. WroteText o new text (Err (write.Memory n)))
    → TightensText P F (kind_of c) old new (Err (Memory n))
written_not P F c old new text n z w = grind arith

-- ---- the answer for a text

answered : (P : Profile) (r : Rest) (a : Answer) → HasAnswer P (found_in r) a → IsAnswer P r a
answered P r a h = answer_explained P (found_in r) a h.0 h.1

pub decided_proof : (P : Profile) (F : Form) (source : Option Input) (c : Certificate)
    (report : checked.Report) (old new : Option Output) (x : Result Outcome TightenFault)
    → TightensText P F (kind_of c) old new x
    → IfKnown source (λ i. AnswersProof P (found_in (text_of i)) c report)
    → TightensAs P F source old new x
decided_proof P F source c report old new x h found =
    tightens P F source old new x
    (tightens_by P F (kind_of c) any_kind (λ d e p. tt) (λ y b. tt) (λ b. tt) old new x h)
    (exact source found)
  where
    exact : (s : Option Input) → IfKnown s (λ i. AnswersProof P (found_in (text_of i)) c report)
        → IfKnown s (λ i. TightensText P F (kind_read P (text_of i)) old new x)
    exact None f = tt
    exact (Some i) f = λ short.
        let r = text_of i in
        let is = certificate_is P r c (report_of report) (f short).same
        (answered P r (verified (report_of report)) (f short).answer) in
        tightens_by P F (kind_of c) (kind_read P r) (λ d e p. is ∙ ap Ok (sym e)) (λ y b. absurd b)
        (λ b. absurd b) old new x h

pub decided_refused : (P : Profile) (F : Form) (source : Option Input) (y : Refusal)
    (old : Option Output)
    → IfKnown source (λ i. HasAnswer P (found_in (text_of i)) (refuses (refusal_of y)))
    → TightensAs P F source old old (Ok (Refused y))
decided_refused P F source y old found = tightens P F source old old (Ok (Refused y))
    (tt, nothing_accepted old) (exact source found)
  where
    exact : (s : Option Input)
        → IfKnown s (λ i. HasAnswer P (found_in (text_of i)) (refuses (refusal_of y)))
        → IfKnown s (λ i. TightensText P F (kind_read P (text_of i)) old old (Ok (Refused y)))
    exact None f = tt
    exact (Some i) f = λ short. (answered P (text_of i) (refuses (refusal_of y)) (f short), nothing_accepted old)

pub decided_cut_short : (P : Profile) (F : Form) (source : Option Input) (old : Option Output)
    → IfKnown source (λ i. AnswersWhy P (found_in (text_of i)) reason.Read)
    → TightensAs P F source old old (Err Read)
decided_cut_short P F source old found = tightens P F source old old (Err Read)
    (tt, nothing_accepted old) (exact source found)
  where
    exact : (s : Option Input) → IfKnown s (λ i. AnswersWhy P (found_in (text_of i)) reason.Read)
        → IfKnown s (λ i. TightensText P F (kind_read P (text_of i)) old old (Err Read))
    exact None f = tt
    exact (Some i) f = λ short. (answered P (text_of i) cut_short (none, (f short).1), nothing_accepted old)

pub decided_memory : (P : Profile) (F : Form) (source : Option Input) (old : Option Output)
    → TightensAs P F source old old (Err (Memory 0))
decided_memory P F source old = tightens P F source old old (Err (Memory 0)) (refl, nothing_accepted old) (exact source)
  where
    exact : (s : Option Input) → IfKnown s (λ i. TightensText P F (kind_read P (text_of i)) old old (Err (Memory 0)))
    exact None = tt
    exact (Some i) = λ short. (refl, nothing_accepted old)

pub decided_not : (P : Profile) (F : Form) (source : Option Input) (e : NoProof)
    (old : Option Output) → IfKnown source (λ i. AnswersWhy P (found_in (text_of i)) e)
    → TightensAs P F source old old (unproved_answer e)
decided_not P F source (reason.Refused y) old h = decided_refused P F source y old h
decided_not P F source reason.Read old h = decided_cut_short P F source old h
decided_not P F source reason.Memory old h = decided_memory P F source old
