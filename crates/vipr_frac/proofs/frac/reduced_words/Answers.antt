use Rattle.std.proofs.Common.{◌≡◌, ℕ, ◌/◌, ◌≤◌, pos, sym, ap, ◌∙◌, arith, to_z, of_z, lit≤}
use Rattle.std.proofs.{Math.Nat.le_trans, lemmas.Int.to_z-of_z}
use Rattle.std.specs.{Int.w64, Int.w128, Prelude.int_div, Prelude.unsigned_abs}
use Rattle.vipr_spec.specs.{Fraction.over, Fraction.most, Gcd.gcd}
use Rattle.vipr_frac.proofs.Views.{IsReduced-over, over-parts, over-self}
use Rattle.vipr_frac.proofs.frac.reduced_words.Goals.{After-from-3}
use Rattle.vipr_frac.proofs.{Steps.gcd-rest, Unreduced.word_abs}
use Rattle.vipr_frac.proofs.frac.reduced_words.Goals as goal

g_is : (c : After-from-3) → c.word_gcd-g.result ≡ gcd (unsigned_abs c.args.p) c.args.q
g_is c = c.word_gcd-g.ensures.value ∙ ap (λ n. gcd n c.args.q) c.word_rest.ensures
    ∙ gcd-rest _ c.args.q
    ∙ ap (λ n. gcd n c.args.q) (c.unsigned_abs.ensures.value
    ∙ ap unsigned_abs (to_z-of_z w64 c.args.p c.ranges.p))

quotient-is : (c : After-from-3) → c.from-2.result ≡ (over c.args.p c.args.q).numer
quotient-is c =
    c.from-2.ensures
    ∙ to_z-of_z w64 c.divided_word.result (record { sfits = c.divided_word.type_inv })
    ∙ c.divided_word.ensures ∙ ap (λ z. int_div z (pos c.word_gcd-g.result)) (to_z-of_z w64 c.args.p c.ranges.p)
    ∙ ap (λ (n : ℕ). int_div c.args.p (pos n)) (g_is c) ∙ sym (over-parts c.args.p c.args.q c.requires.some).0

p_is : (c : After-from-3) → to_z w128 (of_z w128 c.from-2.result) ≡ (over c.args.p c.args.q).numer
p_is c = to_z-of_z w128 c.from-2.result (record { sfits = c.from-2.type_inv }) ∙ quotient-is c

q_is : (c : After-from-3) → c.from-3.result ≡ (over c.args.p c.args.q).denom
q_is c = c.from-3.ensures ∙ c.word_quotient.ensures ∙ ap (λ n. c.args.q / n) (g_is c)
    ∙ sym (over-parts c.args.p c.args.q c.requires.some).1

pub of_parts-requires : goal.of_parts-requires
of_parts-requires c =
    let k = (goal.at.of_parts-requires c).After-from-3 in
    let numer : unsigned_abs c.args.p ≤ most = le_trans (word_abs c.args.p c.ranges.p) (lit≤ tt) in
    let denom : c.args.q ≤ most = let h = c.requires.denom in omega arith in
    rw (p_is k, q_is k) (IsReduced-over c.args.p c.args.q c.requires.some numer denom)

pub returns : goal.returns
returns c =
    let k = (goal.at.returns c).After-from-3 in
    c.of_parts.ensures ∙ rw (p_is k, q_is k) (over-self (over c.args.p c.args.q))
