-- A certificate's text, made while the certificate is read
use Rattle.std.specs.Prelude.{◌≡◌, ◌≢◌, ℕ, ◌+◌, false, List, ◌++◌, length, map, codes, Option}
use Rattle.std.specs.Prelude.{Result, Ok, Err, IsSome}
use Rattle.vipr_spec.specs.Reading.{Rest, Fault, Read, ◌>>=◌, read_each, problem_read}
use Rattle.vipr_spec.specs.Reading.{certificate_read}
use Rattle.vipr_spec.specs.{Certificate.Problem, Certificate.Certificate, Input.Input}
use Rattle.vipr_bytes.specs.Known.{text_of, IfKnown}
use Rattle.vipr_scan.specs.declared.error.TextError.TheVariants.{Spent}
use Rattle.vipr_scan.specs.{Faults.Fails, Giving.rest_of, declared.error.TextError.TextError}
use Rattle.vipr_read.specs.{Items.Items, Items.Knows, Items.Remembers, Parsing.with_front}
use Rattle.vipr_write.specs.Canonical.{heading, line_text, lines_text}
use Rattle.vipr_write.specs.Forms.{problem_lines_in, text_in}
use Rattle.vipr_write.specs.{Folded.Begun, Folded.with_more_bytes, declared.form.Form.Form}

-- the error is none of a reader that failed before, and if the rest is known it is the fault of
-- this reading
abbrev pub Faults : {Y : Type 0} → Option Rest → (Rest → Result Y Fault) → TextError → Type 0
Faults rest read e = (e ≢ Spent) × (IsSome rest → Fails e (read (rest_of rest)))

-- the problem was read, and this is its text in a form, with the number of solutions
pub record HasBegun (form : Form) (rest : Option Rest) (text : Begun) (r : Items) : Type 0 where
  pub problem : Problem
  pub lines : text ≡ record {
    form = form;
    objective = problem.objective;
    bytes = lines_text (problem_lines_in form problem)
        ++ line_text (heading (codes "SOL") r.left);
  }
  pub knows : Knows r problem
  pub working : r.failed ≡ false
  pub read : IsSome rest
      → (problem_read (rest_of rest) ≡ Ok ((problem, r.left), rest_of r.rest)) × IsSome r.rest

abbrev pub BeginsText : {X : Type 0} → Form → (X → Begun) → (X → Items) → Option Rest
    → Result X TextError → Type 0
BeginsText form text items rest (Ok x) = HasBegun form rest (text x) (items x)
BeginsText form text items rest (Err e) = Faults rest problem_read e

-- the text with the number of derivations behind it
abbrev pub with_count : Begun → ℕ → Begun
with_count text n = with_more_bytes text (line_text (heading (codes "DER") n))

-- these items were read, and a line was appended for each
pub record HasAppended {Y : Type 0} (item : Rest → Read Y) (words : Y → List (List ℕ))
    (old new : Items) (before after : Begun) : Type 0 where
  pub items : List Y
  pub counted : length items + new.left ≡ old.left
  pub lines : after ≡ with_more_bytes before (lines_text (map words items))
  pub remembers : Remembers old new
  pub working : new.failed ≡ false
  pub known : IsSome old.rest → IsSome new.rest
  pub read : IsSome old.rest → with_front items (read_each item new.left (rest_of new.rest))
      ≡ read_each item old.left (rest_of old.rest)

-- so were all that were to come, and the ending is as it must be; or there is a fault
abbrev pub Appends : {X Y : Type 0} → (Rest → Read Y) → (Rest → Result (Unit {0}) Fault)
    → (Y → List (List ℕ)) → Items → Items → Begun → (X → Begun) → Result X TextError → Type 0
Appends item ending words old new before text (Ok x) =
    HasAppended item words old new before (text x) × (new.left ≡ 0)
    × (IsSome old.rest → ending (rest_of new.rest) ≡ Ok tt)
Appends item ending words old new before text (Err e) =
    Faults old.rest (λ l. read_each item old.left l >>= λ x. ending x.1) e

-- the bytes are the text of a certificate in this form, which is the one that is read if the
-- rest is known; or the reading has this fault
abbrev pub Respells : {X : Type 0} → Form → (X → List ℕ) → Option Rest → Result X TextError
    → Type 0
Respells form bytes rest (Ok x) = (c : Certificate) × (bytes x ≡ text_in form c)
    × (IsSome rest → certificate_read (rest_of rest) ≡ Ok c)
Respells form bytes rest (Err e) = Faults rest certificate_read e

-- the same of what a source gives
abbrev pub RespellsText : {X : Type 0} → Form → (X → List ℕ) → Option Input → Result X TextError
    → Type 0
RespellsText form bytes source (Ok x) = (c : Certificate) × (bytes x ≡ text_in form c)
    × IfKnown source (λ i. certificate_read (text_of i) ≡ Ok c)
RespellsText form bytes source (Err e) =
    (e ≢ Spent) × IfKnown source (λ i. Fails e (certificate_read (text_of i)))
