use Rattle.std.proofs.Common.{◌≡◌, ◌*◌, ◌%◌, ◌<◌, ◌^◌, ap, ap₂, sym, ◌∙◌, arith, pos_of_ne-zero}
use Rattle.std.proofs.Math.Nat.{mod-eq_of_lt}
use Rattle.std.specs.Int.{w64}
use Rattle.vipr_spec.specs.Gcd.{gcd}
use Rattle.vipr_frac.proofs.Steps.{zero-gcd, one-gcd, gcd-some, gcd-at_most}
use Rattle.vipr_frac.proofs.{Halving.odd_is, Halving.twos_back, gcd.word_gcd.Goals.After-min}
use Rattle.vipr_frac.proofs.gcd.word_gcd.Goals as goal

pub returns-then-a-eq0-clause-value : goal.returns-then-a-eq0-clause-value
returns-then-a-eq0-clause-value c = sym (ap (λ n. gcd n c.args.b) c.if-a-eq0.true ∙ zero-gcd c.args.b)

pub returns-then-a-eq1-clause-value : goal.returns-then-a-eq1-clause-value
returns-then-a-eq1-clause-value c = sym (ap (λ n. gcd n c.args.b) c.if-a-eq1.true ∙ one-gcd c.args.b)

pub odd_gcd-requires : goal.odd_gcd-requires
odd_gcd-requires c = odd_is w64 c.args.b c.requires c.ranges.b.fits

product_is : (c : After-min) → c.odd_gcd.result * 2 ^ c.min.result ≡ gcd c.args.a c.args.b
product_is c =
    ap₂ (λ g n. g * 2 ^ n) c.odd_gcd.ensures c.min.ensures
    ∙ twos_back w64 c.args.a c.args.b (pos_of_ne-zero c.if-a-eq0.false) c.ranges.a.fits c.requires c.ranges.b.fits

value_is : (c : After-min) → c.odd_gcd.result * 2 ^ c.min.result % 2 ^ 64 ≡ gcd c.args.a c.args.b
value_is c =
    let most = gcd-at_most c.args.a c.args.b _ c.requires (product_is c) in
    let small : c.args.b < 2 ^ 64 = c.ranges.b.fits in
    mod-eq_of_lt (omega (arith, most, small)) ∙ product_is c

pub returns-clause-value : goal.returns-clause-value
returns-clause-value c = value_is c

pub returns-clause-some : goal.returns-clause-some
returns-clause-some c = gcd-some c.args.a c.args.b _ c.requires (value_is c)

pub returns-clause-at_most : goal.returns-clause-at_most
returns-clause-at_most c = gcd-at_most c.args.a c.args.b _ c.requires (value_is c)
