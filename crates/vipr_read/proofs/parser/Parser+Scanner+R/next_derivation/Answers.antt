use Rattle.std.proofs.Common.{Some, ap, sym, ◌∙◌}
use Rattle.vipr_read.specs.Parsing.{Parsing}
use Rattle.vipr_read.proofs.AtHand.{carried, went}
use Rattle.vipr_read.proofs.parser.Parser+Scanner+R.next_derivation.Goals as goal

pub returns-in-Ok : goal.returns-in-Ok
returns-in-Ok g c =
    let read = c.derivation_into-read.ensures in
    let rest = ap (λ (p : Parsing). p.rest) c.self.view_is in
    let variables = ap (λ (p : Parsing). p.variables) c.self.view_is in
    let home = ap (λ (p : Parsing). p.home) c.self.view_is in
    let rest' = ap (λ (p : Parsing). p.rest) c.parser.view_is in
    let variables' = ap (λ (p : Parsing). p.variables) c.parser.view_is in
    let home' = ap (λ (p : Parsing). p.home) c.parser.view_is in
    carried _ _ _ _ _ _ c.derivation_into-read.result (c.cursor.ensures.rest ∙ rest)
    (rw c.replace-marks.ensures.value variables)
    (went _ c.self.inside.scanner.hand c.left-left.result _ _ (home' ∙ read.kept.home ∙ ap Some c.cursor.ensures.hand)
    (sym rest' ∙ c.left-left.ensures.rest) c.go_to.ensures)
    variables' home c.in-Ok.is (record { read = read.read; kept = read.kept; derivation = read.derivation })
