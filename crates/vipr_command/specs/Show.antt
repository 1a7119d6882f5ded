-- What `show` answers, and what was written then.
use Rattle.std.specs.Prelude.{⊤, ◌≡◌, ℕ, List, Option, Result, Ok, Err}
use Rattle.vipr_spec.specs.Reading.{Fault as TextFault, refused, unread}
use Rattle.vipr_spec.specs.{Certificate.Certificate, Grammar.Spells}
use Rattle.vipr_write.specs.{Forms.text_in, declared.form.Form.Form}
use Rattle.vipr_bytes.specs.Output.{Output}
use Rattle.vipr_check.specs.declared.verdict.Place.TheVariants.{Byte}
use Rattle.vipr_check.specs.declared.verdict.Refusal.{Refusal}
use Rattle.vipr_command.specs.Output.{Took, Stays, after_first}
use Rattle.vipr_command.specs.declared.fault.CommandFault.TheVariants.{Memory, Read, Write}
use Rattle.vipr_command.specs.declared.show.Shown.TheVariants.{Refused, Whole}
use Rattle.vipr_command.specs.{declared.fault.CommandFault.CommandFault, declared.show.Shown.Shown}

-- What a text may be: that of such a certificate, one with such a refusal, or one whose reading
-- fails in this case.
pub record Kind : Type 1 where
  pub Spelled : Certificate → Type 0
  pub Unspelled : Refusal → Type 0
  pub Unread : Type 0

-- old is the writer's output before, if that is known, and new the one afterwards.
-- Whole: the text of the certificate was accepted, in this form.
-- Write: its first n bytes were accepted, and no more.
-- Else nothing was written.
abbrev pub ShowsText : Form → Kind → Option Output → Option Output → Result Shown CommandFault
    → Type 0
ShowsText F k old new (Ok Whole) = (c : Certificate) × k.Spelled c
    × Took old new (text_in F c) (Ok tt)
ShowsText F k old new (Ok (Refused r)) = k.Unspelled r × Stays old new
ShowsText F k old new (Err Read) = k.Unread × Stays old new
ShowsText F k old new (Err Memory) = Stays old new
ShowsText F k old new (Err (Write n)) = (c : Certificate) × k.Spelled c
    × Took old new (text_in F c) (Err (after_first n))

-- The text was written, or its first n bytes were, or nothing.
abbrev pub WritesText : Option Output → Option Output → List ℕ → Result Shown CommandFault → Type 0
WritesText old new text (Ok Whole) = Took old new text (Ok tt)
WritesText old new text (Ok (Refused r)) = ⊥
WritesText old new text (Err Read) = ⊥
WritesText old new text (Err Memory) = Stays old new
WritesText old new text (Err (Write n)) = Took old new text (Err (after_first n))

-- a text of which nothing is known
abbrev pub any_text : Kind
any_text = record { Spelled = λ _. ⊤; Unspelled = λ _. ⊤; Unread = ⊤ }

-- a text that is read so
abbrev pub text_read : Result Certificate TextFault → Kind
text_read r = record {
  Spelled = λ c. r ≡ Ok c;
  Unspelled = λ x. (cause offset : ℕ) × (r ≡ Err (refused cause offset))
      × (x ≡ record { cause = cause; place = Byte offset });
  Unread = r ≡ Err unread;
}

-- a text of which no read fails
abbrev pub text_spelling : List ℕ → Kind
text_spelling bytes = record {
  Spelled = λ c. Spells bytes c;
  Unspelled = λ _. (c : Certificate) → Spells bytes c → ⊥;
  Unread = ⊥;
}
