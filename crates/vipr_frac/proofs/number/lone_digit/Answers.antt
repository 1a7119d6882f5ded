use Rattle.std.proofs.Common.{◌≡◌, ℕ, ◌+◌, ◌-◌, ◌*◌, ◌<◌, ◌≤◌, List, Some, true, get_or, take, drop}
use Rattle.std.proofs.Common.{length, arith, sym, ap, ◌∙◌}
use Rattle.std.proofs.lemmas.List.{length-take, get_or-take}
use Rattle.std.proofs.lemmas.Bool.Decides.{nat_tests}
use Rattle.vipr_spec.specs.Digits.{natural_after, is_digit}
use Rattle.vipr_spec.proofs.Laws.{next_digit, at_end}
use Rattle.vipr_frac.proofs.number.lone_digit.Goals as goal

digit : (b : ℕ) → 48 ≤ b → b ≤ 57 → is_digit b ≡ true
digit b low high = grind (arith, nat_tests)

value : (s : List ℕ) (d : ℕ) → 0 < length s → 48 ≤ get_or s 0 0 → get_or s 0 0 ≤ 57
    → d ≡ get_or s 0 0 - 48 → natural_after 0 (take 1 s) ≡ Some d
value s d some low high is =
    let at : get_or (take 1 s) 0 0 ≡ get_or s 0 0 = get_or-take 1 s 0 0 (omega arith) in
    let h : 0 < length (take 1 s) = omega (arith, length-take 1 s) in
    let low' : 48 ≤ get_or (take 1 s) 0 0 = omega arith in
    let high' : get_or (take 1 s) 0 0 ≤ 57 = omega arith in
    let same : 0 * 10 + (get_or (take 1 s) 0 0 - 48) ≡ d = omega arith in
    sym (next_digit 0 0 (take 1 s) h low' high') ∙ ap (λ n. natural_after n (drop 1 (take 1 s))) same
    ∙ at_end d 1 (take 1 s) (omega (arith, length-take 1 s))

pub returns-else-digit-gt9 : goal.returns-else-digit-gt9
returns-else-digit-gt9 c =
    let d = c.digit_of-digit.ensures.digit c.if-digit-gt9.false in
    record {
      within = omega arith;
      digit = digit _ d.0 d.1;
      value = value c.args.s.now _ (omega arith) d.0 d.1 d.2;
      small = omega arith;
      space = omega arith;
    }
