-- What is answered of a derivation, by what the rule of its reason says
use Rattle.std.proofs.Common.{arith, ◌≡◌, ℕ, Some, Ok, Err, Result, Option, refl, sym, ap, subst}
use Rattle.std.proofs.Common.{rules}
use Rattle.std.specs.{FinSet.FinSet, Ordering.nat_cmp, Prelude.IfOk}
use Rattle.vipr_spec.specs.Constraint.{Profile, Condition, Point}
use Rattle.vipr_spec.specs.Certificate.{Problem, variables, Certificate, is_assumption}
use Rattle.vipr_spec.specs.{Fraction.ℚ, Soundness.IsAdmittedBy, Soundness.IsBestValue}
use Rattle.vipr_linear.specs.Constraint.{condition_of}
use Rattle.vipr_cert.specs.Items.{reason_of, derivation_of}
use Rattle.vipr_cert.specs.declared.items.Derivation.{Derivation as Step}
use Rattle.vipr_table.specs.{History.IsTableOf, Table.Table, declared.rows.Entry.Entry}
use Rattle.vipr_rules.specs.declared.error.RuleError.TheVariants.{Memory}
use Rattle.vipr_rules.specs.Soundness.{HasSoundRows, IsTrueUnder}
use Rattle.vipr_rules.specs.Apply.{IsRuledBy, Applies, entry_resting_on, answer_with_entry}
use Rattle.vipr_rules.specs.{Context.IsSetByReason, declared.error.RuleError.RuleError}
use Rattle.vipr_rules.proofs.StepLemmas.{kept_entry, keeps_sound, refusal, known_is_not_memory}
use Rattle.vipr_rules.proofs.StepLemmas.{free_of_all}

module _ (P : Profile) (p : Problem) (best : Option ℚ) (table : Table) (step : Step) where
  -- the rule of the derivation's reason says so
  abbrev Rules : Result (FinSet nat_cmp) RuleError → Type 0
  Rules x = (c : Certificate) → c.problem ≡ p → IsTableOf c table → IsBestValue p c.solutions best
      → IsRuledBy P c (derivation_of step) (reason_of step.reason) x

  -- a test fails, or a growth is refused
  pub applies_not : (e : RuleError) → Rules (Err e) → Applies P p best table step (Err e)
  applies_not e ruled = search (rules, refusal, known_is_not_memory)

  -- all tests pass, and then a growth is refused
  pub applies_full : (s : FinSet nat_cmp) → Rules (Ok s) → Applies P p best table step (Err Memory)
  applies_full s ruled = search (rules, free_of_all)

  -- all tests pass, and what rests on these assumptions is kept
  pub applies : (s : FinSet nat_cmp) → Rules (Ok s)
      → ((says : ℕ → Condition) (x : Point) → HasSoundRows p best table says → IsAdmittedBy p best x
      → says table.next ≡ condition_of step.constraint
      → IsTrueUnder (variables p) says s (condition_of step.constraint) x)
      → (e : Entry) → e.constraint ≡ step.constraint → e.assumptions ≡ s
      → e.is_assumption ≡ is_assumption (Some (reason_of step.reason)) → e.last ≡ step.last
      → Applies P p best table step (Ok e)
  applies s ruled follows e states rests assumed last =
      let copy : condition_of e.constraint ≡ condition_of step.constraint = ap condition_of states in
      record {
        decided = λ c is of back value.
            let r = ruled c is of value in (
              r.0,
              kept_entry P c (derivation_of step) e back r.0 copy
                  (subst (IsSetByReason c (reason_of step.reason)) (sym rests) r.1) assumed last,
            );
        memory = λ c is of value. tt;
        sound = λ c is of back value. keeps_sound P c (derivation_of step) back (ruled c is of value).0;
        sound_rows = grind arith;
        stated = states;
      }

  -- either is so of what is kept of it
  pub applies_with_entry : (x : Result (FinSet nat_cmp) RuleError) → Rules x
      → IfOk x (λ s. (says : ℕ → Condition) (q : Point) → HasSoundRows p best table says
      → IsAdmittedBy p best q → says table.next ≡ condition_of step.constraint
      → IsTrueUnder (variables p) says s (condition_of step.constraint) q)
      → Applies P p best table step (answer_with_entry step x)
  applies_with_entry (Ok s) ruled follows = applies s ruled follows (entry_resting_on step s) refl refl refl refl
  applies_with_entry (Err e) ruled follows = applies_not e ruled

pub weaker : {A E : Type 0} (x : Result A E) (P Q : A → Type 0) → ((a : A) → P a → Q a) → IfOk x P
    → IfOk x Q
weaker (Ok a) P Q f p = f a p
weaker (Err e) P Q f p = tt
