use Rattle.std.proofs.Common.{◌≡◌, ◌∙◌, ap, sym, arith}
use Rattle.std.specs.FinSet.{from_list, union}
use Rattle.vipr_table.proofs.BitsLemmas.{lower, lowest_moved, zero_word}
use Rattle.vipr_table.proofs.SetLemmas.{union_none}
use Rattle.vipr_table.proofs.assumptions.page.add_ones.Goals as goal

pub loop-left-smaller : goal.loop-left-smaller
loop-left-smaller c = lower c.loop-left.left (omega arith) (omega arith)

pub loop-left-preserved : goal.loop-left-preserved
loop-left-preserved c =
    lowest_moved c.args.number c.loop-left.left _ c.loop-left.indices.items c.push.new.self.items
    (omega arith) (omega arith) c.in_ok-push.ensures.items c.loop-left.invariant

pub returns : goal.returns
returns c =
    let zero : c.loop-left.left ≡ 0 = omega arith in
    let so_far = from_list c.loop-left.indices.items in
    union_none so_far ∙ ap (union so_far) (sym (zero_word c.args.number c.loop-left.left zero))
    ∙ c.loop-left.invariant
