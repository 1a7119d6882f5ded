-- What is handed over of a certificate that was read
use Rattle.std.proofs.Common.{◌≡◌, ℕ, ℤ, List, Ok, inl, inr, refl, subst, ◌∙◌}
use Rattle.vipr_spec.specs.{Certificate.Certificate, Grammar.Spells, Reading.certificate_read}
use Rattle.vipr_spec.proofs.Laws.{reads_texts}
use Rattle.vipr_bytes.specs.Known.{text_of, IfKnown, IfWhole}
use Rattle.vipr_write.specs.{Forms.text_in, declared.form.Form.Form}
use Rattle.vipr_c.specs.Written.{ReturnsText, WritesWhole}
use Rattle.vipr_c.specs.{AnswerOf.no_answer, Handed.in_memory, declared.answer.Answer.Answer}

spelled : (bytes : List ℕ) (c : Certificate)
    → IfKnown (in_memory bytes) (λ i. certificate_read (text_of i) ≡ Ok c)
    → IfWhole (in_memory bytes) (λ all. Spells all c)
spelled bytes c read = λ short whole. (reads_texts bytes c).0 (read short)

pub shown_by : (F : Form) (bytes whole : List ℕ) (c : Certificate) (status : ℤ) (text : List ℕ)
    → whole ≡ text_in F c → IfKnown (in_memory bytes) (λ i. certificate_read (text_of i) ≡ Ok c)
    → WritesWhole whole status text → ReturnsText F bytes status text no_answer
shown_by F bytes whole c status text is read (inl (ok, same)) =
    record { is = inl (c, read, spelled bytes c read, ok, same ∙ is, refl) }
shown_by F bytes whole c status text is read (inr lacks) = record { is = inr (inr (lacks, refl)) }

-- the form and the status under other names
pub renamed : (F G : Form) (bytes : List ℕ) (s t : ℤ) (text : List ℕ) (a : Answer) → F ≡ G → s ≡ t
    → ReturnsText F bytes s text a → ReturnsText G bytes t text a
renamed F G bytes s t text a form status h = subst (λ f. ReturnsText f bytes t text a) form
    (subst (λ n. ReturnsText F bytes n text a) status h)
