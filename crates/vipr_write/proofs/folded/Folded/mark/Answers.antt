use Rattle.std.proofs.Common.{◌≡◌, ◌++◌, ◌∷◌, [], ◌-◌, length, rules, refl, ap, ◌∙◌, arith}
use Rattle.vipr_bytes.proofs.Laws.{puts_same}
use Rattle.vipr_write.proofs.Folding.{folds_mark, folds_text}
use Rattle.vipr_write.proofs.folded.Folded.mark.Goals as goal

pub returns-in-Ok : goal.returns-in-Ok
returns-in-Ok c =
    let f = c.args.self.now in
    let gap : c.in-Ok.gap ≡ length c.as_slice-end.result.now - f.marked =
    omega (arith, c.in-Ok.ensures.1, c.saturating_sub.ensures) in
    let pushed : c.push.new.self.items ≡ f.gaps.items ++ c.in-Ok.gap ∷ [] = search (rules) in
    folds_mark f _ (length c.as_slice-end.result.now) (ap length c.as_slice-end.ensures) refl
    (pushed ∙ ap (λ n. f.gaps.items ++ n ∷ []) gap) refl refl refl refl

pub returns-in-Err : goal.returns-in-Err
returns-in-Err c =
    puts_same c.deref.ensures.value
    (folds_text c.args.self.now _ _ refl refl refl refl refl c.put.ensures)
