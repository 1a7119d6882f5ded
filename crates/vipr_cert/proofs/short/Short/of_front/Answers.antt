use Rattle.std.proofs.Common.{◌≡◌, ◌∙◌, take, ap, arith}
use Rattle.std.proofs.lemmas.List.{take-take}
use Rattle.vipr_cert.proofs.short.Short.of_front.Goals as goal

pub returns : goal.returns
returns c =
    let same : c.copy_from_slice.new.self ≡ take 30 c.args.bytes.now = c.copy_from_slice.ensures.after in
    ap (take c.args.len) same ∙ take-take c.args.len 30 c.args.bytes.now (omega arith)
