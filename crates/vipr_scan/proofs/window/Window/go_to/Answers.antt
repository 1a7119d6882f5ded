use Rattle.std.proofs.Common.{◌≡◌, ℕ, ◌-◌, ◌≤◌, length, ap, arith}
use Rattle.vipr_scan.specs.{Hand.at_hand, View.source_left}
use Rattle.vipr_scan.proofs.{Hands.ready_within, Hands.gone, State.part_short}
use Rattle.vipr_scan.proofs.window.Window.go_to.Goals as goal

pub returns : goal.returns
returns g c =
    let t = c.args.self.now in
    let n : ℕ = length (at_hand c.args.self.now) - c.args.left in
    let m : ℕ = length c.hand.result.now - c.args.left in
    let e : length c.hand.result.now ≡ length (at_hand c.args.self.now) = ap length c.hand.ensures in
    let short : length (at_hand c.args.self.now) ≤ c.args.self.now.ready - c.args.self.now.start = part_short _ _ _ in
    let within : c.args.self.now.ready ≤ c.args.self.now.end = ready_within c.args.self.now in
    let ordered = c.args.self.now.ordered in
    gone c.args.self.now.place c.args.self.now.buf.value c.args.self.now.start c.args.self.now.end
    c.args.self.now.offset m n (source_left g.R.Source.input c.args.self.now) (omega arith)
    (omega arith)
