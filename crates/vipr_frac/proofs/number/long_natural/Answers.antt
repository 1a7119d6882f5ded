use Rattle.std.proofs.Common.{rules, ◌≡◌, ◌≢◌, ◌⊎◌, ℕ, ◌+◌, ◌-◌, ◌*◌, ◌^◌, ◌<◌, ◌≤◌, min, get_or}
use Rattle.std.proofs.Common.{length, drop, Some, false, arith, refl, sym, subst, ◌∙◌, ap, inl, inr}
use Rattle.std.proofs.{Math.Nat.min_comm, lemmas.List.length-drop, lemmas.List.get_or-drop}
use Rattle.std.specs.Option.{option_map}
use Rattle.vipr_spec.specs.{Digits.natural_after, Digits.is_digit, Fraction.most}
use Rattle.vipr_spec.proofs.Laws.{natural_of_empty, natural_of_some, next_digit, next_other, at_end}
use Rattle.vipr_frac.proofs.Fronts.{behind, onward, other, part_fits}
use Rattle.vipr_frac.proofs.number.long_natural.Goals as goal
use Rattle.vipr_frac.proofs.number.long_natural.Goals.{then-b-lt48-via-then-b-lt48}
use Rattle.vipr_frac.proofs.number.long_natural.Goals.{then-b-lt48-via-else-b-lt48+then-b-gt57}
use Rattle.vipr_frac.proofs.number.long_natural.Goals.{then-value-2, else-value-2}

nothing : (i : ℕ) → i + 0 ≡ i
nothing i = omega arith

pub returns-then-is_empty : goal.returns-then-is_empty
returns-then-is_empty c =
    let e : length c.args.s.now ≡ 0 = search rules in
    sym (ap (option_map (min (most + 1))) (natural_of_empty c.args.s.now e))

pub loop-from-init : goal.loop-from-init
loop-from-init c =
    let e : length c.args.s.now ≢ 0 = search rules in record {
      within = omega arith;
      exact = (0, refl, natural_of_some c.args.s.now e);
    }

pub returns-then-len-eq0 : goal.returns-then-len-eq0
returns-then-len-eq0 c =
    let bs = c.args.s.now in
    let i : ℕ = c.loop-from.from in
    let some : 0 < length (drop i bs) = omega (arith, length-drop i bs) in
    let stop : is_digit (get_or (drop i bs) 0 0) ≡ false =
    rw (onward i bs, c.if-len-eq0.true) at c.front_natural-part.ensures.longest (omega arith)
    (omega arith) in
    let at : get_or (drop i bs) 0 0 ≡ get_or bs i 0 = get_or-drop i bs 0 0 ∙ ap (λ k. get_or bs k 0) (nothing i) in
    sym (ap (option_map (min (most + 1))) (sym c.loop-from.invariant.exact.2
    ∙ next_other c.loop-from.invariant.exact.0 i bs (omega arith)
    (subst (λ b. (b < 48) ⊎ (57 < b)) at (other (get_or (drop i bs) 0 0) stop))))

pub overflow_mul-value : goal.overflow_mul-value
overflow_mul-value c =
    let fits = part_fits c.loop-from.value c.front_natural-part.result.1
    c.front_natural-part.result.0 (omega arith) c.front_natural-part.ensures.few
    c.front_natural-part.ensures.small in
    let power : c.from.result ≡ 10 ^ c.front_natural-part.result.1 = c.from.ensures ∙ c.pow-power.ensures in
    rw power (omega arith)

pub overflow_add-value : goal.overflow_add-value
overflow_add-value c =
    let fits = part_fits c.loop-from.value c.front_natural-part.result.1
    c.front_natural-part.result.0 (omega arith) c.front_natural-part.ensures.few
    c.front_natural-part.ensures.small in
    let power : c.from.result ≡ 10 ^ c.front_natural-part.result.1 = c.from.ensures ∙ c.pow-power.ensures in
    rw (power, c.from-in-loop-from.ensures) (omega arith)

pub loop-from-preserved : goal.loop-from-preserved
loop-from-preserved c =
    let bs = c.args.s.now in
    let i : ℕ = c.loop-from.from in
    let n : ℕ = c.loop-from.invariant.exact.0 in
    let len : ℕ = c.front_natural-part.result.1 in
    let part : ℕ = c.front_natural-part.result.0 in
    let plain : c.loop-from.value ≡ n = let e = c.loop-from.invariant.exact.1 in omega arith in
    let power : c.from.result ≡ 10 ^ len = c.from.ensures ∙ c.pow-power.ensures in
    let more : natural_after n (drop i bs) ≡ natural_after (n * 10 ^ len + part)
    (drop (i + len) bs) =
    behind n part i len bs (rw (onward i bs) at c.front_natural-part.ensures.within)
    (rw (onward i bs) at c.front_natural-part.ensures.value) in
    record {
      within =
          let w : len ≤ length (drop i bs) = rw (onward i bs) at c.front_natural-part.ensures.within in
          omega (arith, length-drop i bs);
      exact = (
        n * 10 ^ len + part,
        rw (c.min-value.ensures, power, c.from-in-loop-from.ensures, plain)
            (min_comm (n * 10 ^ len + part) (most + 1)),
        sym more ∙ c.loop-from.invariant.exact.2,
      );
    }

pub returns-then-b-lt48 : goal.returns-then-b-lt48
returns-then-b-lt48 c =
    let bs = c.args.s.now in
    let i : ℕ = c.loop-i.i in
    elim c.then-b-lt48.branch [
      | then-b-lt48-via-then-b-lt48 w ↦
          sym (ap (option_map (min (most + 1))) (sym c.loop-i.invariant.2
          ∙ next_other c.loop-i.invariant.0 i bs (omega arith) (inl (omega arith))))
      | then-b-lt48-via-else-b-lt48+then-b-gt57 w ↦
          sym (ap (option_map (min (most + 1))) (sym c.loop-i.invariant.2
          ∙ next_other c.loop-i.invariant.0 i bs (omega arith) (inr (omega arith))))
    ]

pub loop-i-preserved : goal.loop-i-preserved
loop-i-preserved c =
    let bs = c.args.s.now in
    let i : ℕ = c.loop-i.i in
    let n : ℕ = c.loop-i.invariant.0 in
    let e = c.loop-i.invariant.1 in (
      n * 10 + (get_or bs i 0 - 48),
      elim c.if-value-2.branch [ then-value-2 w ↦ omega arith | else-value-2 w ↦ omega arith ],
      next_digit n i bs (omega arith) (omega arith) (omega arith) ∙ c.loop-i.invariant.2,
    )

pub returns : goal.returns
returns c = ap Some c.loop-i.invariant.1
    ∙ ap (option_map (min (most + 1)))
    (sym (at_end c.loop-i.invariant.0 c.loop-i.i c.args.s.now (omega arith)) ∙ c.loop-i.invariant.2)
