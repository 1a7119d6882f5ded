-- The text of a certificate spells it, in either form
use Rattle.std.proofs.Common.{◌≡◌, All, sym, ap, ◌∙◌, subst}
use Rattle.vipr_spec.specs.{Certificate.Certificate, Grammar.SpelledBy, Grammar.Spells}
use Rattle.vipr_spec.specs.{Grammar.SpellsOnly, Shape.CanWrite, Tokens.IsToken, Tokens.text_tokens}
use Rattle.vipr_spec.proofs.Laws.{one_certificate}
use Rattle.vipr_write.specs.Laws.{SpellsItself, CompactSpellsItself}
use Rattle.vipr_write.specs.declared.form.Form.TheVariants.{Canonical, Compact}
use Rattle.vipr_write.specs.{Forms.certificate_lines_in, Forms.text_in, declared.form.Form.Form}
use Rattle.vipr_write.proofs.LineTokens.{bytes_of, words_of, lines_tokens, no_front}
use Rattle.vipr_write.proofs.Spelling.{Written}
use Rattle.vipr_write.proofs.SpelledParts.{Sections, certificate_part}

written : (form : Form) (c : Certificate) → CanWrite c
    → Written (Sections c) (words_of (certificate_lines_in form c))
written form c w = (certificate_part form c).written w

-- each word is a token
pub tokens_all : (form : Form) (c : Certificate) → CanWrite c
    → All IsToken (words_of (certificate_lines_in form c))
tokens_all form c w = (written form c w).tokens

tokens_are : (form : Form) (c : Certificate) → CanWrite c
    → bytes_of (text_tokens (text_in form c)) ≡ words_of (certificate_lines_in form c)
tokens_are form c w = ap bytes_of (no_front _) ∙ lines_tokens (certificate_lines_in form c) (written form c w).tokens 0

spells_itself : (form : Form) (c : Certificate) → CanWrite c → Spells (text_in form c) c
spells_itself form c w =
    let all = written form c w in
    let spelled : SpelledBy (words_of (certificate_lines_in form c)) c =
    record { short = λ k d l. (all.tokens k d l).short; sections = all.shape } in
    subst (λ ts. SpelledBy ts c) (sym (tokens_are form c w)) spelled

pub text_spells : (form : Form) (c : Certificate) → CanWrite c → SpellsOnly (text_in form c) c
text_spells form c w =
    let this = spells_itself form c w in
    record { this = this; no_other = λ d other. one_certificate (text_in form c) d c other this }

pub canonical_spells : SpellsItself
canonical_spells c w = text_spells Canonical c w

pub compact_spells : CompactSpellsItself
compact_spells c w = text_spells Compact c w
