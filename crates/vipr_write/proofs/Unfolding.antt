-- A text with marks that is put with what they mean
use Rattle.std.proofs.Common.{◌≡◌, ℕ, ◌+◌, ◌*◌, ◌<◌, ◌≤◌, List, ◌++◌, length, drop}
use Rattle.std.proofs.Common.{sum, slice_range, ◌∙◌, append_assoc, drop-cons, arith}
use Rattle.std.proofs.lemmas.Grind.{common_steps}
use Rattle.std.proofs.{lemmas.List.drop-drop, lemmas.List.Sums.sum_by-cons}
use Rattle.std.specs.Prelude.{slice_index_or}
use Rattle.vipr_bytes.specs.Puts.{Puts}
use Rattle.vipr_bytes.proofs.Laws.{puts_then, puts_same}
use Rattle.vipr_write.specs.Folded.{IsFolded, expanded, full}
use Rattle.vipr_write.specs.declared.folded.Folded.{Folded}
use Rattle.vipr_write.proofs.Expanding.{long}

-- a text whose length can be counted
pub short_by : (f : Folded) (n : ℕ) → IsFolded f → n ≡ length f.gaps.items * length f.spelled.items
    → n + length f.text.bytes.items < 18446744073709551616 → length (full f) < 18446744073709551616
short_by f n is counted short =
    let w = is.within in
    let m = is.marks in
    let l = long f.spelled.items f.gaps.items f.text.bytes.items (omega arith) in
    omega arith

-- of the whole text the tail isn't put yet
pub record PutUpTo {S : Type 0} (carries : S → List ℕ → S → Type 0) (first now : S)
    (tail whole : List ℕ) : Type 0 where
  pub front : List ℕ
  pub parts : front ++ tail ≡ whole
  pub puts : Puts carries first now front

module _ {S : Type 0} {carries : S → List ℕ → S → Type 0} {first now : S} {whole : List ℕ} where
  pub up_to_more : {new : S} (piece tail : List ℕ) → PutUpTo carries first now (piece ++ tail) whole
      → Puts carries now new piece → PutUpTo carries first new tail whole
  up_to_more piece tail up more = record {
    front = up.front ++ piece;
    parts = append_assoc up.front piece tail ∙ up.parts;
    puts = puts_then up.puts more;
  }

  pub up_to_end : {new : S} {tail : List ℕ} → PutUpTo carries first now tail whole
      → Puts carries now new tail → Puts carries first new whole
  up_to_end up more = puts_same up.parts (puts_then up.puts more)

-- the text up to the next mark, and the row
pub next_gap : (part ns text xs t p : List ℕ) (i at : ℕ) → xs ≡ ns → t ≡ text → p ≡ part
    → i < length xs → at + sum (drop i ns) ≤ length text →
    (expanded part (drop i ns) (drop at text) ≡ slice_range t at (at + slice_index_or xs i 0)
    ++ (p ++ expanded part (drop (i + 1) ns) (drop (at + slice_index_or xs i 0) text)))
    × (at + slice_index_or xs i 0 + sum (drop (i + 1) ns) ≤ length text)
next_gap part ns text xs t p i at e s q l h =
    grind (arith, common_steps, drop-cons, slice_range, drop-drop, sum_by-cons)
