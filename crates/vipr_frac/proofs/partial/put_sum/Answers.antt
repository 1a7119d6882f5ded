use Rattle.std.proofs.{Common.◌≡◌, Common.◌*◌, Common.◌∙◌, Common.arith, lemmas.Int.to_z-of_z}
use Rattle.std.specs.Int.{w64}
use Rattle.vipr_spec.specs.Fraction.{over}
use Rattle.vipr_frac.proofs.Unreduced.{put_value, sum-swap, turned}
use Rattle.vipr_frac.proofs.partial.put_sum.Goals as goal

pub returns-then-s-eq1 : goal.returns-then-s-eq1
returns-then-s-eq1 c =
    let times : c.args.q ≡ c.args.q * c.args.s = rw c.if-s-eq1.true (omega arith) in
    let h = c.raised_sum-then-s-eq1.ensures.value c.args.s c.requires.right.some times in
    let sum = rw (to_z-of_z w64 c.args.p c.ranges.p, to_z-of_z w64 c.args.r c.ranges.r) at h in
    let both = put_value c.raised_sum-then-s-eq1.result c.put-then-s-eq1.result _ _ _
    c.put-then-s-eq1.ensures (turned _ (over c.args.p c.args.q) (over c.args.r c.args.s) sum) in
    record { sum = both.0; kept = both.1 }

pub returns-else-q-s : goal.returns-else-q-s
returns-else-q-s c =
    let h = rw (to_z-of_z w64 c.args.p c.ranges.p, to_z-of_z w64 c.args.r c.ranges.r) at
    c.put_ordered-else-q-s.ensures.sum in
    record {
      sum = λ t. h t ∙ sum-swap (over c.args.r c.args.s) (over c.args.p c.args.q);
      kept = c.put_ordered-else-q-s.ensures.kept;
    }
