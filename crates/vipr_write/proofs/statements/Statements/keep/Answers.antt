use Rattle.std.proofs.Common.{◌≡◌, List, ℕ, ◌∷◌, [], ◌++◌, cond, length, refl, ap, ◌∙◌}
use Rattle.vipr_cert.specs.Items.{derivation_of}
use Rattle.vipr_write.specs.declared.statements.Statement.{Statement}
use Rattle.vipr_write.specs.declared.statements.Statements.{Statements}
use Rattle.vipr_write.specs.{Canonical.words_after_spaces, Folded.stated_words, Forms.row_words}
use Rattle.vipr_write.specs.{Lines.words_text, declared.statements.Step.Step}
use Rattle.vipr_bytes.proofs.Laws.{grown, puts_then}
use Rattle.vipr_write.proofs.Kept.{kept_more, words_are}
use Rattle.vipr_write.proofs.statements.Statements.keep.Goals as goal

pub returns-clause-kept : goal.returns-clause-kept
returns-clause-kept c = λ ss ds kept.
    let t = c.args.self.now in
    let d = derivation_of c.args.derivation.now in
    let u : Statements = record {
      form = t.form;
      objective = t.objective;
      spelled = t.spelled;
      text = c.put_other_row-is_cut.new.text;
      ends = c.push.new.self;
    } in
    let is_cut = c.put_other_row-is_cut.result in
    let first = words_text (stated_words d.name d.stated) in
    let row = cond is_cut [] (words_after_spaces (row_words t.form t.objective d.stated.row)) in
    let place : Statement = record { index = c.in-Ok.index; is_cut = is_cut } in
    let s : Step = record { stated = place; reason = c.in_ok-of.field-0; last = c.args.derivation.now.last } in
    let text = (grown t.text u.text (first ++ row)
    (puts_then c.put_start.ensures c.put_other_row-is_cut.ensures.text) (cc)).1 in
    let ends : u.ends ≡ t.ends ++ length u.text.bytes.items ∷ [] = c.in_ok-push.ensures
    ∙ ap (λ (l : List ℕ). t.ends ++ length l ∷ []) c.as_slice.ensures in
    let index : c.in-Ok.index ≡ length t.ends = c.in-Ok.ensures.1 ∙ c.len.ensures in
    kept_more t u (first ++ row) s d ss ds refl refl refl text ends index
    (λ spelled. words_are t.form t.objective t.spelled.items d.name d.stated is_cut spelled
    (λ is. ap (row_words t.form t.objective) (c.put_other_row-is_cut.ensures.row is)))
    c.in_ok-of.ensures.reason refl kept
