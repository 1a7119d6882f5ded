use Rattle.std.proofs.Common.{◌≡◌, ℕ, ℤ, ◌≤◌, Bool, true, false, Ok, sym, ap, ◌∙◌, arith, to_z}
use Rattle.std.proofs.Common.{of_z}
use Rattle.std.proofs.{lemmas.Bool.Decides.nat_tests, lemmas.Int.ints}
use Rattle.std.specs.{Int.w128, Prelude.unsigned_abs}
use Rattle.vipr_spec.specs.Fraction.{most, over}
use Rattle.vipr_spec.specs.Number.{signed_integer, written_fraction}
use Rattle.vipr_frac.proofs.Views.{as-is}
use Rattle.vipr_frac.proofs.number.fraction.Goals as goal

signed_small : (m : Bool) (p : ℕ) → p ≤ most → unsigned_abs (signed_integer m p) ≤ most
signed_small true p h = omega (arith, ints)
signed_small false p h = h

kept : (m : Bool) (p : ℕ) (z : ℤ) → p ≤ most → z ≡ signed_integer m p
    → to_z w128 (of_z w128 z) ≡ signed_integer m p
kept m p z h e = rw e (as-is (signed_integer m p) (signed_small m p h))

at_value : (m : Bool) (p q : ℕ) → p ≤ most → q ≤ most → (q ≡ 0 → ⊥)
    → written_fraction m p q ≡ Ok (over (signed_integer m p) q)
at_value m p q h k some = grind (arith, nat_tests)

pub returns : goal.returns
returns c =
    let small : c.args.top ≤ most = omega arith in
    ap Ok (c.reduced.ensures ∙ ap (λ z. over z c.args.bottom) (kept _ _ _ small c.with_sign.ensures))
    ∙ sym (at_value c.args.is_negative c.args.top c.args.bottom small (omega arith) c.if-bottom-eq0.false)
