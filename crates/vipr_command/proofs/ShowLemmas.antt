-- What `show` answers, from the text that was made and what is written.
use Rattle.std.proofs.Common.{arith, ◌≡◌, Option, Some, None, Result, Ok, Err, ℕ, List, true, false}
use Rattle.std.proofs.Common.{sym, ap, subst, ◌∙◌}
use Rattle.vipr_spec.specs.{Certificate.Certificate, Grammar.Spells, GrammarLaws.whole_text}
use Rattle.vipr_spec.specs.{Input.Input, Reading.certificate_read, Reading.refused}
use Rattle.vipr_spec.proofs.Laws.{item_faults, reads_texts}
use Rattle.vipr_bytes.specs.{Known.text_of, Known.IfKnown, Known.IfWhole, Output.Output}
use Rattle.vipr_write.specs.{Forms.text_in, declared.form.Form.Form}
use Rattle.vipr_scan.specs.{Faults.Fails, declared.error.TextError.TextError}
use Rattle.vipr_scan.specs.declared.error.TextError.TheVariants as error
use Rattle.vipr_check.specs.declared.verdict.Place.TheVariants.{Byte}
use Rattle.vipr_command.specs.Output.{Stays, Took, after_first}
use Rattle.vipr_command.specs.Show.{Kind, ShowsText, WritesText, text_spelling}
use Rattle.vipr_command.specs.declared.fault.CommandFault.TheVariants.{Memory, Read, Write}
use Rattle.vipr_command.specs.declared.show.Shown.TheVariants.{Refused, Whole}
use Rattle.vipr_command.specs.{declared.fault.CommandFault.CommandFault, declared.show.Shown.Shown}

true_not_false : true ≡ false → ⊥
true_not_false h = cc

-- what was written is the certificate's text
pub shown_by : (F : Form) (old new : Option Output) (text : List ℕ) (c : Certificate)
    (r : Result Shown CommandFault) → text ≡ text_in F c → WritesText old new text r → (k : Kind)
    → k.Spelled c → ShowsText F k old new r
shown_by F old new text c (Ok Whole) is w k s = (c, s, subst (λ t. Took old new t (Ok tt)) is w)
shown_by F old new text c (Ok (Refused r)) is w k s = absurd w
shown_by F old new text c (Err Read) is w k s = absurd w
shown_by F old new text c (Err Memory) is w k s = w
shown_by F old new text c (Err (Write n)) is w k s = (c, s, subst (λ t. Took old new t (Err (after_first n))) is w)

whole_is : (i : Input) → i.fails ≡ false → text_of i ≡ whole_text i.bytes
whole_is i e = ap (λ b. text_of (record { bytes = i.bytes; fails = b })) e

pub spelled_by : (F : Form) (old new : Option Output) (source : Option Input) (c : Certificate)
    (r : Result Shown CommandFault) → ((k : Kind) → k.Spelled c → ShowsText F k old new r)
    → IfKnown source (λ i. certificate_read (text_of i) ≡ Ok c)
    → IfWhole source (λ bytes. ShowsText F (text_spelling bytes) old new r)
spelled_by F old new None c r given h = tt
spelled_by F old new (Some i) c r given h = λ short whole. given (text_spelling i.bytes)
    ((reads_texts i.bytes c).0
    (subst (λ r. certificate_read r ≡ Ok c) (whole_is i whole) (h short)))

-- nothing was written
pub stays : (old : Option Output) → Stays old old
stays old = grind arith

-- a text with a refusal is that of no certificate
pub none_spelled : (F : Form) (old : Option Output) (source : Option Input) (cause offset : ℕ)
    → IfKnown source (λ i. certificate_read (text_of i) ≡ Err (refused cause offset))
    → IfWhole source (λ bytes. ShowsText F (text_spelling bytes) old old
    (Ok (Refused (record { cause = cause; place = Byte offset }))))
none_spelled F old None cause offset h = tt
none_spelled F old (Some i) cause offset h = λ short whole. ((λ c s. never c whole (h short) s), stays old)
  where
    never : (c : Certificate) → i.fails ≡ false
        → certificate_read (text_of i) ≡ Err (refused cause offset) → Spells i.bytes c → ⊥
    never c whole failed s =
        let read : certificate_read (text_of i) ≡ Ok c = ap certificate_read (whole_is i whole)
        ∙ (reads_texts i.bytes c).1 s in
        let both = sym failed ∙ read in
        absurd (cc)

-- where no read fails, the text is read to its end
pub never_unread : (F : Form) (old : Option Output) (source : Option Input) (e : TextError)
    → e ≡ error.Read → IfKnown source (λ i. Fails e (certificate_read (text_of i)))
    → IfWhole source (λ bytes. ShowsText F (text_spelling bytes) old old (Err Read))
never_unread F old None e is h = tt
never_unread F old (Some i) e is h = λ short whole. (true_not_false (sym (failed (h short)) ∙ whole), stays old)
  where
    failed : Fails e (certificate_read (text_of i)) → i.fails ≡ true
    failed f = item_faults.certificate.failure (text_of i) (subst (λ y. Fails y (certificate_read (text_of i))) is f)
