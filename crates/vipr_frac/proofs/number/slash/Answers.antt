use Rattle.std.proofs.Common.{◌≡◌, ℕ, ◌≤◌, cond, ltb, length, Some, None, ap, ◌∙◌, arith}
use Rattle.std.proofs.{lemmas.Bool.Decides.nat_tests, lemmas.List.Sums.prefix_len-le-length}
use Rattle.std.specs.{Option.unwrap_or, Prelude.not}
use Rattle.vipr_spec.specs.Number.{is_slash, slash_place}
use Rattle.vipr_frac.proofs.number.slash.Goals as goal

place-or_end : (p k : ℕ) → p ≤ k → unwrap_or (cond (ltb p k) (Some p) None) k ≡ p
place-or_end p k h = grind (arith, nat_tests)

pub returns-clause-value : goal.returns-clause-value
returns-clause-value c =
    let s = c.args.s.now in
    c.unwrap_or.ensures ∙ ap (λ o. unwrap_or o (length s)) c.find_slash.ensures
    ∙ place-or_end (slash_place s) (length s) (prefix_len-le-length (λ x. not (is_slash x)) s)
