use Rattle.std.proofs.{Common.ℕ, Common.refl, Common.subst, lemmas.List.Elements.All-more}
use Rattle.vipr_spec.specs.Fraction.{ℚ}
use Rattle.vipr_write.specs.StepReasons.{IsShort}
use Rattle.vipr_write.proofs.StepReasons.{one_more}
use Rattle.vipr_write.proofs.step_reason.short_entries.Goals as goal

pub loop-index-preserved : goal.loop-index-preserved
loop-index-preserved c =
    let all = c.args.entries.now in
    let i = c.loop-index.index-index in
    let x = c.loop-index-item.result in
    let so_far = c.loop-index.invariant in
    record {
      entries = one_more c.loop-index.short.items _ all i c.in-Some.entry x c.loop-index-test.true
          c.loop-index-item.is c.in_ok-push-in-Some.ensures.items c.in-Some.ensures.entry
          so_far.entries;
      are_short = All-more (λ (e : ℕ × ℚ). IsShort e.1) all i x c.loop-index-test.true
          so_far.are_short
          (subst (λ (e : ℕ × ℚ). IsShort e.1) c.loop-index-item.is
          (c.in-Some.ensures.short.0 refl));
    }
