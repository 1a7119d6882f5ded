use Rattle.std.proofs.Common.{◌≡◌, ℕ, ◌+◌, ◌-◌, length, drop, ap, arith}
use Rattle.std.proofs.lemmas.List.{length-drop, length-take}
use Rattle.vipr_scan.specs.Meaning.{IsInFront}
use Rattle.vipr_scan.proofs.Hands.{passed_on}
use Rattle.vipr_scan.proofs.cursor.Cursor.pass.Goals as goal

pub returns-clause-read : goal.returns-clause-read
returns-clause-read g c =
    let bytes = c.args.self.now.bytes.now in
    let k : ℕ = c.args.len + 1 in
    let behind = c.args.bytes.now in
    let token : IsInFront (drop c.args.gap c.args.self.now.bytes.now) c.args.len =
    rw c.requires.bytes at c.requires.token in
    let a = length-drop k behind in
    let b = length-take (length behind - k) (drop k behind) in
    let d = length-drop c.args.gap bytes in
    let e : length c.args.bytes.now ≡ length (drop c.args.gap c.args.self.now.bytes.now) = ap length c.requires.bytes in
    let more = token.within in
    passed_on g.R.Source.input c.args.self.now.window.now bytes _ c.args.gap c.args.len
    c.args.self.now.part c.requires.gap token (omega (arith, a, b, d, e))
