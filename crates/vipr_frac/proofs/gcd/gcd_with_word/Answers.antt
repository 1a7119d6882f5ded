use Rattle.std.proofs.Common.{sym, ap, ◌∙◌, ◌%◌}
use Rattle.vipr_spec.specs.Gcd.{gcd}
use Rattle.vipr_frac.proofs.Steps.{gcd-end, gcd-rest}
use Rattle.vipr_frac.proofs.gcd.gcd_with_word.Goals as goal

pub returns-then-word-eq0 : goal.returns-then-word-eq0
returns-then-word-eq0 c = sym (gcd-end c.args.n c.args.word c.if-word-eq0.true)

pub returns : goal.returns
returns c =
    c.from-2.ensures ∙ c.word_gcd.ensures.value
    ∙ ap (λ n. gcd n c.args.word) (c.remainder-rest.ensures ∙ ap (λ n. c.args.n % n) c.from.ensures)
    ∙ gcd-rest c.args.n c.args.word
