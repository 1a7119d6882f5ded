-- What the calls that write a certificate hand to a program in C
use Rattle.std.specs.Prelude.{◌≡◌, ◌⊎◌, ℕ, ℤ, pos, ◌==◌, if◌then◌else◌, List, [], Option, Some}
use Rattle.std.specs.Prelude.{None, Ok, Err}
use Rattle.vipr_spec.specs.Reading.{certificate_read, refused}
use Rattle.vipr_spec.specs.{Certificate.Certificate, Grammar.Spells}
use Rattle.vipr_spec.specs.Constraint as is
use Rattle.vipr_bytes.specs.{Known.text_of, Known.IfKnown, Known.IfWhole, Output.output_of}
use Rattle.vipr_rules.specs.{Profile.profile_of, declared.profile.Profile.Profile}
use Rattle.vipr_write.specs.declared.form.Form.TheVariants.{Canonical, Compact}
use Rattle.vipr_write.specs.{Forms.text_in, declared.form.Form.Form}
use Rattle.vipr_check.specs.declared.verdict.Place.TheVariants.{Byte}
use Rattle.vipr_check.specs.declared.verdict.Verdict.TheVariants as verdict
use Rattle.vipr_tighten.specs.declared.outcome.Outcome.{Outcome}
use Rattle.vipr_tighten.specs.declared.outcome.Outcome.TheVariants.{Tightened, Refused}
use Rattle.vipr_tighten.specs.{Text.outcome_status, Tightens.TightensAs}
use Rattle.vipr_c.specs.AnswerOf.{kind_of_place, number_of_place, answer_of_verdict, no_answer}
use Rattle.vipr_c.specs.declared.tightened.Figures.{Figures}
use Rattle.vipr_c.specs.{Handed.HasNoMemory, Handed.in_memory, declared.answer.Answer.Answer}

-- the compact form, unless the flag is 0
abbrev pub form_flagged : ℕ → Form
form_flagged n = if n == 0 then Canonical else Compact

-- ---- a certificate that is shown

-- the text of the certificate that these bytes spell, in a form
abbrev pub IsRespelled : Form → List ℕ → ℤ → List ℕ → Answer → Type 0
IsRespelled F bytes status text answer = (c : Certificate)
    × IfKnown (in_memory bytes) (λ i. certificate_read (text_of i) ≡ Ok c)
    × IfWhole (in_memory bytes) (λ all. Spells all c)
    × (status ≡ pos 0) × (text ≡ text_in F c) × (answer ≡ no_answer)

-- they spell none: no text, and the answer has the first fault
abbrev pub IsUnspelled : List ℕ → ℤ → List ℕ → Answer → Type 0
IsUnspelled bytes status text answer = (cause offset : ℕ)
    × IfKnown (in_memory bytes) (λ i. certificate_read (text_of i) ≡ Err (refused cause offset))
    × (status ≡ pos 1) × (text ≡ [])
    × (answer
    ≡ answer_of_verdict (Ok (verdict.Refused (record { cause = cause; place = Byte offset }))))

-- one of these, or memory was refused
pub record ReturnsText (F : Form) (bytes : List ℕ) (status : ℤ) (text : List ℕ) (answer : Answer)
    : Type 0 where
  pub is : IsRespelled F bytes status text answer ⊎ IsUnspelled bytes status text answer
      ⊎ (HasNoMemory status text × (answer ≡ no_answer))

-- a text was written whole, or there was no memory for it
abbrev pub WritesWhole : List ℕ → ℤ → List ℕ → Type 0
WritesWhole whole status text = ((status ≡ pos 0) × (text ≡ whole)) ⊎ HasNoMemory status text

-- ---- one that is tightened

abbrev pub no_figures : Figures
no_figures =
    record {
      cause = 0;
      place = 0;
      number = 0;
      kept = 0;
      removed = 0;
      peak_before = 0;
      peak_after = 0;
    }

abbrev pub figures_of : Outcome → Figures
figures_of (Tightened kept removed before after) =
    record {
      cause = 0;
      place = 0;
      number = 0;
      kept = kept;
      removed = removed;
      peak_before = before;
      peak_after = after;
    }
figures_of (Refused r) =
    record {
      cause = r.cause;
      place = kind_of_place r.place;
      number = number_of_place r.place;
      kept = 0;
      removed = 0;
      peak_before = 0;
      peak_after = 0;
    }

-- what `tighten` writes of these bytes, with its status and figures
abbrev pub IsTightened : Form → List ℕ → is.Profile → ℤ → List ℕ → Figures → Type 0
IsTightened F bytes P status text figures = (x : Outcome)
    × TightensAs P F (in_memory bytes) (output_of (Some [])) (output_of (Some text)) (Ok x)
    × (status ≡ pos (outcome_status x)) × (figures ≡ figures_of x)

-- by the rules of a profile; 2 and no text if there is none
abbrev pub TightensBy : Option Profile → Form → List ℕ → ℤ → List ℕ → Figures → Type 0
TightensBy (Some p) F bytes status text figures =
    IsTightened F bytes (profile_of p) status text figures
    ⊎ (HasNoMemory status text × (figures ≡ no_figures))
TightensBy None F bytes status text figures =
    (status ≡ pos 2) × (text ≡ []) × (figures ≡ no_figures)
