use Rattle.std.proofs.Common.{rules, Result, IfOk, Ok, Err, ◌≡◌, ◌⊎◌}
use Rattle.vipr_bytes.specs.Known.{text_of, IfKnown}
use Rattle.vipr_spec.specs.{Certificate.Certificate, Grammar.Spells, Reading.certificate_read}
use Rattle.vipr_scan.specs.declared.error.TextError.{TextError}
use Rattle.vipr_scan.specs.declared.error.TextError.TheVariants.{Memory}
use Rattle.vipr_read.specs.Whole.{IsRead}
use Rattle.vipr_read.proofs.Whole.{whole_by, spelled_by, only_by}
use Rattle.vipr_read.proofs.certificate.read_certificate.Goals as goal

pub returns-in-Ok-clause-spelled : goal.returns-in-Ok-clause-spelled
returns-in-Ok-clause-spelled g c =
    let source = g.R.Source.input c.args.source in
    let x : Result Certificate TextError = Ok c.in-Ok.certificate in
    let read : IfKnown source (λ i. IsRead (λ d. d) x (certificate_read (text_of i))) = search rules in
    whole_by source (λ i. IsRead (λ d. d) x (certificate_read (text_of i)))
    (λ bytes. IfOk x (λ d. Spells bytes d)) (λ i h e. spelled_by i x h e) read

pub returns-in-Ok-clause-only : goal.returns-in-Ok-clause-only
returns-in-Ok-clause-only g c =
    let source = g.R.Source.input c.args.source in
    let x : Result Certificate TextError = Ok c.in-Ok.certificate in
    let read : IfKnown source (λ i. IsRead (λ d. d) x (certificate_read (text_of i))) = search rules in
    whole_by source (λ i. IsRead (λ d. d) x (certificate_read (text_of i)))
    (λ bytes. (d : Certificate) → Spells bytes d → (x ≡ Ok d) ⊎ (x ≡ Err Memory))
    (λ i h e. only_by i x h e) read

pub returns-in-Err-clause-only : goal.returns-in-Err-clause-only
returns-in-Err-clause-only g c =
    let source = g.R.Source.input c.args.source in
    let x : Result Certificate TextError = Err c.from.result in
    let read : IfKnown source (λ i. IsRead (λ d. d) x (certificate_read (text_of i))) = search rules in
    whole_by source (λ i. IsRead (λ d. d) x (certificate_read (text_of i)))
    (λ bytes. (d : Certificate) → Spells bytes d → (x ≡ Ok d) ⊎ (x ≡ Err Memory))
    (λ i h e. only_by i x h e) read
