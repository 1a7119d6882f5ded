-- A text with marks that grows
use Rattle.std.proofs.Common.{◌≡◌, ℕ, ◌-◌, false, List, [], ◌∷◌, ◌++◌, length, refl, sym}
use Rattle.std.proofs.Common.{append_assoc, length-append, arith, Result, OnOk, OnErr, rules}
use Rattle.std.proofs.lemmas.List.Sums.{sum_by_push}
use Rattle.std.proofs.{lemmas.Grind.common_steps, lemmas.List.append-nil}
use Rattle.vipr_bytes.proofs.Laws.{grown}
use Rattle.vipr_bytes.specs.{Grown.GrowsBy, Puts.Puts}
use Rattle.vipr_spec.specs.Constraint.{Row}
use Rattle.vipr_write.specs.Folded.{IsFolded, IsIntact, KeepsOrEmpties, FoldsBy, Begun, begun}
use Rattle.vipr_write.specs.Folded.{with_more_bytes, with_no_bytes, full}
use Rattle.vipr_write.specs.declared.folded.Folded.{Folded}
use Rattle.vipr_write.proofs.Expanding.{behind, marked_here}

-- by bytes behind the last mark
longer : (f g : Folded) (more : List ℕ) → IsFolded f → g.gaps.items ≡ f.gaps.items
    → g.marked ≡ f.marked → g.form ≡ f.form → g.objective ≡ f.objective → g.spelled ≡ f.spelled
    → g.text.bytes.items ≡ f.text.bytes.items ++ more
    → IsFolded g × (full g ≡ full f ++ more)
longer f g more is gaps marked form objective spelled text = search (rules, length-append, behind)

-- one step more
pub folds : (f g : Folded) (more : List ℕ) → g.form ≡ f.form → g.objective ≡ f.objective
    → g.spelled ≡ f.spelled
    → (g.text.failed ≡ false
    → (f.text.failed ≡ false) × (IsFolded f → IsFolded g × (full g ≡ full f ++ more)))
    → Puts FoldsBy f g more
folds f g more form objective spelled step = search (rules, append_assoc)

-- the text behind the last mark grew
pub folds_text : (f g : Folded) (more : List ℕ) → g.gaps.items ≡ f.gaps.items
    → g.marked ≡ f.marked → g.form ≡ f.form → g.objective ≡ f.objective → g.spelled ≡ f.spelled
    → Puts GrowsBy f.text g.text more → Puts FoldsBy f g more
folds_text f g more gaps marked form objective spelled grows = search (rules, folds, grown, longer)

pub folds_mark : (f g : Folded) (end : ℕ) → end ≡ length f.text.bytes.items → g.text ≡ f.text
    → g.gaps.items ≡ f.gaps.items ++ (end - f.marked) ∷ [] → g.marked ≡ end → g.form ≡ f.form
    → g.objective ≡ f.objective → g.spelled ≡ f.spelled → Puts FoldsBy f g f.spelled.items
folds_mark f g end whole text gaps marked form objective spelled = grind (arith, folds, sum_by_push, marked_here)

-- ---- what was put
none_more : (f : Folded) → FoldsBy f [] f
none_more f = record {
  form = refl;
  objective = refl;
  spelled = refl;
  bytes = λ whole. (whole, λ is. (is, sym (append-nil (full f))));
}

pub put_folded : (f g : Folded) (more : List ℕ) → Puts FoldsBy f g more → FoldsBy f more g
put_folded f g more p = p.law f [] (none_more f)

-- the same bytes, if marks mean what they should
pub folds_as : (f g : Folded) (xs ys : List ℕ) → (IsFolded f → xs ≡ ys) → Puts FoldsBy f g xs
    → Puts FoldsBy f g ys
folds_as f g xs ys same p = grind (arith, common_steps, put_folded, folds)

-- the view of it: these bytes more
pub intact_more : (f g : Folded) (more : List ℕ) (b : Begun) → Puts FoldsBy f g more → IsIntact f
    → begun f ≡ b → g.text.failed ≡ false → IsIntact g × (begun g ≡ with_more_bytes b more)
intact_more f g more b p is seen whole = search (rules, put_folded)

-- or none, if a growth was refused
pub pushed : {A E : Type 0} (f g h : Folded) (objective : Row) (more : List ℕ) (b : Begun)
    (r : Result A E) → Puts FoldsBy f g more → IsIntact f → objective ≡ f.objective
    → begun f ≡ b → KeepsOrEmpties g h r → (IsIntact h × (objective ≡ h.objective))
    × OnOk r (begun h ≡ with_more_bytes b more) × OnErr r (begun h ≡ with_no_bytes b)
pushed f g h objective more b r p is same seen kept = grind (arith, put_folded)
