use Rattle.std.proofs.Common.{subst, sym, ◌∙◌}
use Rattle.vipr_command.specs.Answer.{HasRead, ReadsOn}
use Rattle.vipr_command.proofs.ReadingLemmas.{nothing_read, of_known, went_on, not_known}
use Rattle.vipr_command.proofs.in_memory.read_all.Goals as goal

pub returns-in_err-buffer : goal.returns-in_err-buffer
returns-in_err-buffer g c = nothing_read (g.R.Source.input c.args.source.now) c.from_residual.result
    _ _ c.from_residual.ensures.1

pub returns-then-not-branch : goal.returns-then-not-branch
returns-then-not-branch g c =
    let l = c.loop-text in
    let new = c.read_more.new in
    of_known (g.R.Source.input c.args.source.now) (λ i. HasRead i (g.R.Source.input l.source) l.text.bytes.items) _
    (λ i h. sym (subst
    (ReadsOn i (g.R.Source.input new.source) new.self.bytes.items new.self.has_failed)
    c.if-not-branch.true (c.in_ok-read_more.ensures.read i h l.invariant.working)))
    l.invariant.read

pub returns-then-is_enough : goal.returns-then-is_enough
returns-then-is_enough g c =
    let l = c.loop-text.invariant in
    not_known _ _ _ _
    (went_on _ _ _ _ _ _ _ l.read (λ i h. c.in_ok-read_more.ensures.read i h l.working)
    c.if-not-branch.false) (c.is_enough.ensures.unknown c.if-is_enough.true)

pub loop-text-preserved : goal.loop-text-preserved
loop-text-preserved g c =
    let l = c.loop-text.invariant in
    let read = c.in_ok-read_more.ensures in
    record {
      read = went_on _ _ _ _ _ _ _ l.read (λ i h. read.read i h l.working)
          c.if-not-branch.false;
      working = read.working c.if-not-branch.false ∙ l.working;
    }

pub loop-text-preserved-else-is_enough : goal.loop-text-preserved-else-is_enough
loop-text-preserved-else-is_enough g c =
    let l = c.loop-text.invariant in
    let read = c.in_ok-read_more.ensures in
    record {
      read = went_on _ _ _ _ _ _ _ l.read (λ i h. read.read i h l.working)
          c.if-not-branch.false;
      working = read.working c.if-not-branch.false ∙ l.working;
    }
