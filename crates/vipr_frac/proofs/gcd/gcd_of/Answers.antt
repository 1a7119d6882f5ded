use Rattle.std.proofs.Common.{sym, ap, ◌∙◌, inl, inr}
use Rattle.vipr_spec.specs.Gcd.{gcd}
use Rattle.vipr_frac.proofs.Steps.{gcd-one, one-gcd, gcd-swap, gcd-some, gcd-at_most}
use Rattle.vipr_frac.proofs.gcd.gcd_of.Goals as goal

pub returns-then-b-eq1-clause-value : goal.returns-then-b-eq1-clause-value
returns-then-b-eq1-clause-value c = elim c.if-b-eq1.either [
  | inl a ↦ sym (ap (λ n. gcd n c.args.b) a ∙ one-gcd c.args.b)
  | inr b ↦ sym (ap (gcd c.args.a) b.1 ∙ gcd-one c.args.a)
]

pub returns-then-b-le-WORD-clause-some : goal.returns-then-b-le-WORD-clause-some
returns-then-b-le-WORD-clause-some c = gcd-some c.args.a c.args.b _ c.requires c.gcd_with_word.ensures

pub returns-then-b-le-WORD-clause-at_most : goal.returns-then-b-le-WORD-clause-at_most
returns-then-b-le-WORD-clause-at_most c = gcd-at_most c.args.a c.args.b _ c.requires c.gcd_with_word.ensures

pub returns-then-a-le-WORD-clause-value : goal.returns-then-a-le-WORD-clause-value
returns-then-a-le-WORD-clause-value c = c.gcd_with_word-then-a-le-WORD.ensures ∙ gcd-swap c.args.b c.args.a

pub returns-then-a-le-WORD-clause-some : goal.returns-then-a-le-WORD-clause-some
returns-then-a-le-WORD-clause-some c = gcd-some c.args.a c.args.b _ c.requires
    (c.gcd_with_word-then-a-le-WORD.ensures ∙ gcd-swap c.args.b c.args.a)

pub returns-then-a-le-WORD-clause-at_most : goal.returns-then-a-le-WORD-clause-at_most
returns-then-a-le-WORD-clause-at_most c = gcd-at_most c.args.a c.args.b _ c.requires
    (c.gcd_with_word-then-a-le-WORD.ensures ∙ gcd-swap c.args.b c.args.a)

pub returns-else-a-le-WORD-clause-some : goal.returns-else-a-le-WORD-clause-some
returns-else-a-le-WORD-clause-some c = gcd-some c.args.a c.args.b _ c.requires c.wide_gcd.ensures

pub returns-else-a-le-WORD-clause-at_most : goal.returns-else-a-le-WORD-clause-at_most
returns-else-a-le-WORD-clause-at_most c = gcd-at_most c.args.a c.args.b _ c.requires c.wide_gcd.ensures
