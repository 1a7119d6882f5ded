-- What is written of the proof that is kept: the steps of its tightened certificate
use Rattle.std.proofs.Common.{rules, ◌≡◌, ℕ, ◌+◌, ◌-◌, ◌<◌, ◌≤◌, List, map, length, Option, IfSome}
use Rattle.std.proofs.Common.{Ok, Err, arith, refl, sym, ap, ◌∙◌, subst}
use Rattle.std.proofs.lemmas.List.{length-map}
use Rattle.std.specs.Prelude.{MatchOption}
use Rattle.vipr_spec.specs.Constraint.{Profile, Constraint}
use Rattle.vipr_spec.specs.Certificate.{Named, Problem, Derivation, Certificate, IsGoal, NeedsGoal}
use Rattle.vipr_spec.specs.Certificate.{count, peak}
use Rattle.vipr_spec.specs.{Grammar.SpellsOnly, Reading.most_count, Tightened.tightened_certificate}
use Rattle.vipr_spec.proofs.Laws.{back_of_proof, can_write}
use Rattle.vipr_bytes.specs.{Output.Output, Written.Wrote}
use Rattle.vipr_linear.specs.Constraint.{constraint_of}
use Rattle.vipr_linear.specs.declared.constraint.Constraint.{Constraint as ConstraintItem}
use Rattle.vipr_cert.specs.{Items.named_of, declared.items.Named.Named as NamedItem}
use Rattle.vipr_check.specs.View.{report_of}
use Rattle.vipr_write.specs.declared.statements.Statement.{Statement}
use Rattle.vipr_write.specs.Steps.{step_of, statement_in, AreStepsOf}
use Rattle.vipr_write.specs.{Forms.text_in, declared.form.Form.Form, declared.statements.Step.Step}
use Rattle.vipr_tighten.specs.declared.proof_reader.KeptProof.{KeptProof}
use Rattle.vipr_tighten.specs.declared.outcome.Outcome.TheVariants.{Tightened}
use Rattle.vipr_tighten.specs.declared.outcome.TightenFault.TheVariants.{Write}
use Rattle.vipr_tighten.specs.Passes.{AreDerivationsOf, CanTighten}
use Rattle.vipr_tighten.specs.{Keeping.IsKeptOf, Tightens.TightensText, Tightens.kind_of}
use Rattle.vipr_tighten.proofs.KeptTexts.{with_texts, texts_back, texts_count, texts_tightened}
use Rattle.vipr_tighten.proofs.KeptTexts.{texts_tightened_count, texts_peak}
use Rattle.vipr_tighten.proofs.Renumbering.{count_of}
use Rattle.vipr_tighten.proofs.Outcomes.{fewer_kept, written_whole, written_part}

goal_before : (P : Profile) (c : Certificate) (goal : Option ℕ)
    → MatchOption goal (¬ NeedsGoal c.problem c.problem.claim) (IsGoal P c)
    → IfSome goal (λ g. g < count c)
goal_before P c goal h = grind arith

below : (goal : Option ℕ) (m n : ℕ) → m ≡ n → IfSome goal (λ g. g < m) → IfSome goal (λ g. g < n)
below goal m n e h = subst (λ k. IfSome goal (λ g. g < k)) e h

-- these are the constraints of the problem
module _ (P : Profile) (F : Form) (c : Certificate) (k : KeptProof) (is : IsKeptOf P F c k)
    (cons : List (NamedItem ConstraintItem))
    (cons_are : map (named_of constraint_of) cons ≡ k.problem.constraints) where
  -- the index of the first derivation
  abbrev first : ℕ
  first = length cons

  is_first : length k.problem.constraints ≡ first
  is_first = ap length (sym cons_are) ∙ length-map cons (named_of constraint_of)

  abbrev texts : Certificate
  texts = with_texts k.statements.form k.statements.objective c

  first_is : length c.problem.constraints ≡ first
  first_is = ap (λ (q : Problem). length q.constraints) is.steps.problem ∙ is_first

  abbrev all_steps : List Derivation
  all_steps = map (step_of (statement_in k.statements)) k.steps.items

  stand : AreDerivationsOf texts first all_steps
  stand = record { first_is = first_is; those = is.steps.those }

  counted : count c ≡ first + length k.steps.items
  counted = sym (texts_count k.statements.form k.statements.objective c)
      ∙ count_of texts first all_steps stand
      ∙ ap (λ n. first + n) (length-map k.steps.items (step_of (statement_in k.statements)))

  pub few_steps : first + length k.steps.items ≤ most_count
  few_steps = grind (arith, counted)

  can : CanTighten texts k.report.goal
  can = search (rules, texts_back, back_of_proof, texts_count, goal_before)

  -- these steps are kept of it for the goal
  module _ (kept : List Step) (all : (view : Statement → Named Constraint) (d : Certificate)
      → AreDerivationsOf d first (map (step_of view) k.steps.items) → CanTighten d k.report.goal
      → map (step_of view) kept ≡ (tightened_certificate d k.report.goal).derivations) where
    abbrev tightened : Certificate
    tightened = tightened_certificate c k.report.goal

    tight_stand : AreDerivationsOf (tightened_certificate texts k.report.goal) first
        (map (step_of (statement_in k.statements)) kept)
    tight_stand = record { first_is = first_is; those = all (statement_in k.statements) texts stand can }

    pub tight_steps : AreStepsOf tightened k.problem k.solutions.bytes.items k.statements kept
    tight_steps = record {
      writes = can_write c k.report.goal is.steps.writes;
      problem = is.steps.problem;
      solutions = is.steps.solutions;
      row = is.steps.row;
      objective = is.steps.objective;
      those = tight_stand.those ∙ texts_tightened k.statements.form k.statements.objective c k.report.goal;
    }

    tight_counted : count tightened ≡ first + length kept
    tight_counted =
        sym (texts_tightened_count k.statements.form k.statements.objective c k.report.goal)
        ∙ count_of (tightened_certificate texts k.report.goal) first
        (map (step_of (statement_in k.statements)) kept) tight_stand
        ∙ ap (λ n. first + n) (length-map kept (step_of (statement_in k.statements)))

    tight_size : length kept ≡ length tightened.derivations
    tight_size = grind (arith, tight_counted, first_is)

    pub tight_few : first + length kept ≤ most_count
    tight_few = omega (arith, tight_counted, tight_steps.writes.shape.few_derivations)

    pub tight_fewer : length kept ≤ k.report.derived
    tight_fewer = grind (arith, tight_size, fewer_kept)

    module _ (spells : (G : Form) → SpellsOnly (text_in G tightened) tightened) (old new : Option Output) where
      pub tightens_whole : (n after : ℕ) → n ≡ length kept
          → ((view : Statement → Named Constraint) (d : Certificate)
          → AreDerivationsOf d first (map (step_of view) kept) → after ≡ peak d)
          → IfSome old (λ o. Wrote o new (text_in k.statements.form tightened) (Ok tt))
          → TightensText P F (kind_of c) old new
          (Ok (Tightened n (k.report.derived - n) k.report.peak after))
      tightens_whole n after e is_peak w =
          let few = tight_fewer in
          let all : n + (k.report.derived - n) ≡ k.report.derived = omega arith in
          let peak_is : after ≡ peak tightened = is_peak (statement_in k.statements)
          (tightened_certificate texts k.report.goal) tight_stand
          ∙ texts_peak k.statements.form k.statements.objective c k.report.goal in
          subst (λ G. TightensText P G (kind_of c) old new
          (Ok (Tightened n (k.report.derived - n) k.report.peak after))) is.form
          (written_whole P k.statements.form c (report_of k.report) is.proof is.reports spells old
          new n (k.report.derived - n) k.report.peak after (e ∙ tight_size) all refl peak_is w)

      pub tightens_part : (n : ℕ) → n < length (text_in k.statements.form tightened)
          → IfSome old
          (λ o. Wrote o new (text_in k.statements.form tightened) (Err (record { accepted = n })))
          → TightensText P F (kind_of c) old new (Err (Write n))
      tightens_part n short w =
          subst (λ G. TightensText P G (kind_of c) old new (Err (Write n))) is.form
          (written_part P k.statements.form c (report_of k.report) is.proof is.reports spells old new n short w)
