use Rattle.std.proofs.Common.{◌≡◌, ℕ, ◌/◌, pos, sym, ap, ◌∙◌, to_z, of_z}
use Rattle.std.specs.{Int.w128, Prelude.int_div, Prelude.unsigned_abs}
use Rattle.std.proofs.lemmas.Int.{to_z-of_z}
use Rattle.vipr_spec.specs.{Fraction.over, Gcd.gcd}
use Rattle.vipr_frac.proofs.Views.{IsReduced-over, over-parts, over-self}
use Rattle.vipr_frac.proofs.frac.reduced.Goals as goal
use Rattle.vipr_frac.proofs.frac.reduced.Goals.{After-quotient}

g_is : (c : goal.After-quotient) → c.gcd_of-g.result ≡ gcd (unsigned_abs c.args.p) c.args.q
g_is c = c.gcd_of-g.ensures.value
    ∙ ap (λ n. gcd n c.args.q) (c.unsigned_abs.ensures.value
    ∙ ap unsigned_abs (to_z-of_z w128 c.args.p c.ranges.p))

p_is : (c : goal.After-quotient)
    → to_z w128 (of_z w128 c.divided.result) ≡ (over c.args.p c.args.q).numer
p_is c =
    to_z-of_z w128 c.divided.result (record { sfits = c.divided.type_inv })
    ∙ c.divided.ensures ∙ ap (λ z. int_div z (pos c.gcd_of-g.result)) (to_z-of_z w128 c.args.p c.ranges.p)
    ∙ ap (λ (n : ℕ). int_div c.args.p (pos n)) (g_is c) ∙ sym (over-parts c.args.p c.args.q c.requires.some).0

q_is : (c : goal.After-quotient) → c.quotient.result ≡ (over c.args.p c.args.q).denom
q_is c = c.quotient.ensures ∙ ap (λ n. c.args.q / n) (g_is c) ∙ sym (over-parts c.args.p c.args.q c.requires.some).1

pub of_parts-requires : goal.of_parts-requires
of_parts-requires c =
    rw (p_is c, q_is c)
    (IsReduced-over c.args.p c.args.q c.requires.some c.requires.numer c.requires.denom)

pub returns : goal.returns
returns c = c.of_parts.ensures
    ∙ rw (p_is (goal.at.returns c).After-quotient, q_is (goal.at.returns c).After-quotient)
    (over-self (over c.args.p c.args.q))
