use Rattle.std.proofs.Common.{◌≡◌, ◌∙◌, sym, eq-eqb, eqb, rules, tests}
use Rattle.std.specs.Prelude.{IsTrue}
use Rattle.vipr_frac.proofs.{Sums.denom-whole, Sums.is-whole, Views.facts_of, Views.Facts}
use Rattle.vipr_frac.proofs.frac.Frac.is_whole.Goals as goal

pub returns : goal.returns
returns c =
    let eq : IsTrue (eqb c.parts.result.1 1) → c.parts.result.1 ≡ 1 = λ t. search (rules, tests) in
    let f : Facts c.args.self c.parts.result.0 c.parts.result.1 =
    facts_of _ _ _ c.parts.ensures.numer c.parts.ensures.denom c.parts.ensures.reduced in
    record {
      denominator = (λ t. sym f.denom ∙ eq t, λ e. eq-eqb _ _ (f.denom ∙ e));
      value = (
        λ t. (c.args.self.numer, is-whole c.args.self (sym f.denom ∙ eq t)),
        λ w. eq-eqb _ _ (f.denom ∙ denom-whole c.args.self w),
      );
    }
