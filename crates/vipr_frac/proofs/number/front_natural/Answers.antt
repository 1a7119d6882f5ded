use Rattle.std.proofs.Common.{◌≡◌, ℕ, ◌+◌, ◌-◌, ◌*◌, ◌^◌, ◌<◌, ◌≤◌, List, Some, true, get_or, take}
use Rattle.std.proofs.Common.{drop, length, arith, sym, subst, ◌∙◌, inl, inr, ap, zero-lt-suc}
use Rattle.std.proofs.Common.{add-one}
use Rattle.std.proofs.lemmas.List.{length-take, get_or-take}
use Rattle.std.proofs.Math.Nat.{pow-le-pow_right, pow-suc}
use Rattle.std.proofs.{lemmas.Bool.cases_lt, lemmas.Bool.Decides.nat_tests}
use Rattle.vipr_spec.specs.Digits.{natural_after, is_digit}
use Rattle.vipr_spec.proofs.Laws.{next_digit, at_end}
use Rattle.vipr_frac.proofs.number.front_natural.Goals as goal

-- the digits so far write the value
reached : (value i : ℕ) (bs : List ℕ)
    → ((j : ℕ) → i ≤ j → natural_after value (drop i (take j bs)) ≡ natural_after 0 (take j bs))
    → natural_after 0 (take i bs) ≡ Some value
reached value i bs same = sym (same i (omega arith)) ∙ at_end value i (take i bs) (omega (arith, length-take i bs))

small : (value i : ℕ) → value < 10 ^ i → i ≤ 18 → value < 10 ^ 18
small value i h k = let p : 10 ^ i ≤ 10 ^ 18 = pow-le-pow_right (zero-lt-suc 9) k in omega arith

below : (value i : ℕ) → value < 10 ^ i → i < 18 → value < 10 ^ 17
below value i h k =
    let le : i ≤ 17 = omega arith in
    let p : 10 ^ i ≤ 10 ^ 17 = pow-le-pow_right (zero-lt-suc 9) le in
    omega arith

-- one digit further
next : (value i j : ℕ) (bs : List ℕ) → i < length bs → i < j → 48 ≤ get_or bs i 0
    → get_or bs i 0 ≤ 57
    → natural_after (value * 10 + (get_or bs i 0 - 48)) (drop (i + 1) (take j bs))
    ≡ natural_after value (drop i (take j bs))
next value i j bs within more low high =
    let at : get_or (take j bs) i 0 ≡ get_or bs i 0 = get_or-take j bs i 0 more in
    let h : i < length (take j bs) = omega (arith, length-take j bs) in
    let low' : 48 ≤ get_or (take j bs) i 0 = omega arith in
    let high' : get_or (take j bs) i 0 ≤ 57 = omega arith in
    ap (λ b. natural_after (value * 10 + (b - 48)) (drop (i + 1) (take j bs))) (sym at)
    ∙ next_digit value i (take j bs) h low' high'

digit : (b : ℕ) → 48 ≤ b → b ≤ 57 → is_digit b ≡ true
digit b low high = grind (arith, nat_tests)

pub returns-then-digit-gt9-clause-value : goal.returns-then-digit-gt9-clause-value
returns-then-digit-gt9-clause-value c = reached c.loop-i.value c.loop-i.i c.args.s.now c.loop-i.invariant.value

pub returns-then-digit-gt9-clause-small : goal.returns-then-digit-gt9-clause-small
returns-then-digit-gt9-clause-small c = small c.loop-i.value c.loop-i.i c.loop-i.invariant.small (omega arith)

pub overflow_mul-value : goal.overflow_mul-value
overflow_mul-value c = let b = below c.loop-i.value c.loop-i.i c.loop-i.invariant.small (omega arith) in omega arith

pub overflow_add-value : goal.overflow_add-value
overflow_add-value c = let b = below c.loop-i.value c.loop-i.i c.loop-i.invariant.small (omega arith) in omega arith

pub loop-i-preserved : goal.loop-i-preserved
loop-i-preserved c =
    let bs = c.args.s.now in
    let i : ℕ = c.loop-i.i in
    let n : ℕ = c.loop-i.value in
    let power : 10 ^ (i + 1) ≡ 10 ^ i * 10 = rw add-one (pow-suc 10 i) in
    let within : i < length bs = omega arith in
    let d = c.digit_of-digit.ensures.digit c.if-digit-gt9.false in
    let smaller = c.loop-i.invariant.small in record {
      small = omega arith;
      digits = λ k h. elim (cases_lt k i) [
        | inl l ↦ c.loop-i.invariant.digits k l
        | inr m ↦ let e : k ≡ i = omega arith in
            subst (λ j. is_digit (get_or bs j 0) ≡ true) (sym e) (digit (get_or bs i 0) d.0 d.1)
      ];
      value = λ j h. rw (c.from.ensures, d.2) (next n i j bs within (omega arith) d.0 d.1
          ∙ c.loop-i.invariant.value j (omega arith));
    }

pub returns-clause-value : goal.returns-clause-value
returns-clause-value c =
    let e : c.min-end.result ≡ c.loop-i.i = omega arith in
    rw e (reached c.loop-i.value c.loop-i.i c.args.s.now c.loop-i.invariant.value)

pub returns-clause-small : goal.returns-clause-small
returns-clause-small c = small c.loop-i.value c.loop-i.i c.loop-i.invariant.small (omega arith)
