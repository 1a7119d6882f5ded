use Rattle.std.proofs.Common.{◌≡◌, ℕ, ◌+◌, ◌-◌, ◌<◌, ◌≤◌, List, false, length, drop, take, min, ◌^◌}
use Rattle.std.proofs.Common.{refl, ap, ◌∙◌, arith, slice_range}
use Rattle.std.proofs.lemmas.List.{length-drop}
use Rattle.vipr_scan.specs.View.{unread, front_offset, source_left, view_of_found}
use Rattle.vipr_scan.specs.declared.window.Found.{Found}
use Rattle.vipr_scan.proofs.State.{narrowed, part_front, part_short, passed_answer, passed_left}
use Rattle.vipr_scan.proofs.Wanted.{short_known}
use Rattle.vipr_scan.proofs.window.Window.pass.Goals as goal

-- the token's place in the buffer
placed : (buf : List ℕ) (start end gap len : ℕ) → gap ≤ length (slice_range buf start end)
    → len < length (drop gap (slice_range buf start end)) →
    slice_range buf (start + gap) (start + gap + len)
    ≡ take len (drop gap (slice_range buf start end))
placed buf start end gap len within more =
    let short : length (slice_range buf start end) ≤ end - start = part_short buf start end in
    let size : length (drop gap (slice_range buf start end)) ≡ length (slice_range buf start end) -
    gap = length-drop gap (slice_range buf start end) in
    part_front buf (start + gap) end len (omega arith) ∙ ap (take len) (narrowed buf start end gap (omega arith))

-- what is left behind it and the white space that ends it
cut : (buf : List ℕ) (start end gap len : ℕ) → gap ≤ length (slice_range buf start end)
    → len < length (drop gap (slice_range buf start end)) →
    slice_range buf (start + gap + len + 1) end
    ≡ drop (len + 1) (drop gap (slice_range buf start end))
cut buf start end gap len within more =
    let short : length (slice_range buf start end) ≤ end - start = part_short buf start end in
    let size : length (drop gap (slice_range buf start end)) ≡ length (slice_range buf start end) -
    gap = length-drop gap (slice_range buf start end) in
    let e : start + gap + len + 1 ≡ start + gap + (len + 1) = omega arith in
    rw e (narrowed buf (start + gap) end (len + 1) (omega arith))
    ∙ ap (drop (len + 1)) (narrowed buf start end gap (omega arith))

pub returns-clause-bytes : goal.returns-clause-bytes
returns-clause-bytes g c = placed c.args.self.now.buf.value c.args.self.now.start
    c.args.self.now.end c.args.gap c.args.len c.requires.gap.within c.requires.token.within

pub returns-clause-read : goal.returns-clause-read
returns-clause-read g c =
    let buf = c.args.self.now.buf.value in
    let start : ℕ = c.args.self.now.start in
    let end : ℕ = c.args.self.now.end in
    let short : length (slice_range buf start end) ≤ end - start = part_short buf start end in
    let offset = c.saturating_add-offset.result in
    let moved : ℕ = min (c.args.self.now.offset + (start + c.args.gap + c.args.len + 1)) (2 ^ 64 - 1) in
    let at : offset ≡ min (front_offset c.args.self.now + c.args.gap) (2 ^ 64 - 1) =
    omega (arith, c.saturating_add-offset.ensures) in
    let past : moved ≡ min (offset + (c.args.len + 1)) (2 ^ 64 - 1) = omega (arith, c.saturating_add-offset.ensures) in
    let found : Found = record {
      start = start + c.args.gap;
      len = c.args.len;
      offset = c.saturating_add-offset.result;
      long = false;
    } in
    let behind = cut buf start end c.args.gap c.args.len c.requires.gap.within c.requires.token.within in
    let source = source_left g.R.Source.input c.args.self.now in
    rw c.requires.gap.place (short_known _ _ (view_of_found buf found)
    (rw (placed buf start end c.args.gap c.args.len c.requires.gap.within c.requires.token.within)
    (passed_answer source (front_offset c.args.self.now) c.saturating_add-offset.result
    (unread c.args.self.now) c.args.gap c.args.len
    c.requires.gap.within c.requires.gap.tokens c.requires.token (omega arith) at)) refl
    (passed_left source (front_offset c.args.self.now) c.saturating_add-offset.result moved
    (unread c.args.self.now) _ c.args.gap c.args.len
    c.requires.gap.within c.requires.gap.tokens c.requires.token (omega arith) at past behind))
