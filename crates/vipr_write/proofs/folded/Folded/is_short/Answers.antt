use Rattle.std.proofs.Common.{◌≡◌, ◌*◌, length, rules, ap, ◌∙◌, arith}
use Rattle.vipr_write.proofs.Unfolding.{short_by}
use Rattle.vipr_write.proofs.folded.Folded.is_short.Goals as goal

pub returns-in-Some-matches : goal.returns-in-Some-matches
returns-in-Some-matches c =
    let f = c.args.self.now in
    let marks : c.len-marks.result ≡ length f.gaps.items = search rules in
    let row : c.len.result ≡ length f.spelled.items = search rules in
    let text = ap length c.as_slice.ensures in
    let short = c.in-Some-matches.ensures.0 in
    λ is. short_by f c.in-Some.n c.requires (c.in-Some.ensures.1 ∙ ap (λ n. n * c.len.result) marks
    ∙ ap (λ n. length f.gaps.items * n) row) (omega arith)
