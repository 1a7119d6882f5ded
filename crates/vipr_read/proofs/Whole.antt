-- What a source gives, as a text that is read
use Rattle.std.proofs.Common.{arith, ◌≡◌, ◌⊎◌, false, List, ℕ, Option, Some, None, Result, Ok, Err}
use Rattle.std.proofs.Common.{IfOk, ap, subst, ◌∙◌}
use Rattle.vipr_spec.specs.Certificate.{Certificate}
use Rattle.vipr_spec.specs.Reading.{Rest, Fault, ◌>>=◌, problem_read, certificate_read}
use Rattle.vipr_spec.specs.{Grammar.Spells, GrammarLaws.whole_text, Input.Input}
use Rattle.vipr_spec.proofs.Laws.{reads_texts}
use Rattle.vipr_bytes.specs.Known.{text_of, IfKnown, IfWhole}
use Rattle.vipr_read.proofs.Binding.{bind_assoc}
use Rattle.vipr_read.specs.Whole.{IsRead, items_behind}
use Rattle.vipr_scan.specs.declared.error.TextError.{TextError}
use Rattle.vipr_scan.specs.{Faults.IsFaultOf, declared.error.ScanError.ScanError}
use Rattle.vipr_scan.specs.declared.error.TextError.TheVariants as error

pub known_by : (o : Option Input) (P Q : Input → Type 0) → ((i : Input) → P i → Q i) → IfKnown o P
    → IfKnown o Q
known_by None P Q k h = tt
known_by (Some i) P Q k h = λ short. k i (h short)

pub whole_by : (o : Option Input) (P : Input → Type 0) (Q : List ℕ → Type 0)
    → ((i : Input) → P i → i.fails ≡ false → Q i.bytes) → IfKnown o P → IfWhole o Q
whole_by None P Q k h = tt
whole_by (Some i) P Q k h = λ short whole. k i (h short) whole

pub whole_is : (i : Input) → i.fails ≡ false → text_of i ≡ whole_text i.bytes
whole_is i e = ap (λ b. text_of (record { bytes = i.bytes; fails = b })) e

-- what was read is spelled
pub spelled_by : (i : Input) (x : Result Certificate TextError)
    → IsRead (λ c. c) x (certificate_read (text_of i)) → i.fails ≡ false
    → IfOk x (λ c. Spells i.bytes c)
spelled_by i (Ok c) h e = (reads_texts i.bytes c).0 (subst (λ r. certificate_read r ≡ Ok c) (whole_is i e) h)
spelled_by i (Err f) h e = tt

one_read : (r : Result Certificate Fault) (x : Result Certificate TextError) (c : Certificate)
    → r ≡ Ok c → IsRead (λ d. d) x r → (x ≡ Ok c) ⊎ (x ≡ Err error.Memory)
one_read r x c e h = grind arith

-- what is spelled is read
pub only_by : (i : Input) (x : Result Certificate TextError)
    → IsRead (λ c. c) x (certificate_read (text_of i)) → i.fails ≡ false → (c : Certificate)
    → Spells i.bytes c → (x ≡ Ok c) ⊎ (x ≡ Err error.Memory)
only_by i x h e c s = one_read (certificate_read (text_of i)) x c
    (ap certificate_read (whole_is i e) ∙ (reads_texts i.bytes c).1 s) h

-- ---- the parts of a certificate, one after the other

-- a fault is that of what goes on after it
pub fails_first : {X Y : Type 0} (e : ScanError) (r : Result X Fault) (f : X → Result Y Fault)
    → IsFaultOf e r → IsFaultOf e (r >>= f)
fails_first e r f h = grind arith

-- a certificate is a problem, and what stands behind it
pub certificate_parts : (r : Rest)
    → certificate_read r ≡ problem_read r >>= λ p. items_behind p.0.0 p.0.1 p.1
unfolding certificate_read
certificate_parts r = simp bind_assoc
