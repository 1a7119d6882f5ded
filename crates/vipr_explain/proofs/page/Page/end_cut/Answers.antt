use Rattle.std.proofs.Common.{◌≡◌, ℕ, ◌+◌, ◌≤◌, true, Bool, cond, List, ◌++◌, length}
use Rattle.std.proofs.Common.{refl, sym, subst, ap, arith, rules}
use Rattle.std.proofs.Common.{false, codes}
use Rattle.std.proofs.lemmas.List.{length-append, length-take}
use Rattle.std.proofs.lemmas.List.Elements.{All-append, All-take}
use Rattle.std.proofs.lemmas.List.Sums.{AllPass-from_list_all}
use Rattle.std.specs.List.{All}
use Rattle.vipr_explain.specs.Page.{IsPage, is_shown}
use Rattle.vipr_explain.proofs.page.Page.end_cut.Goals as goal

abbrev cut_line : List ℕ
cut_line = codes ".. the rest is left out\n"

-- with the last line behind them, or without it, bytes of a page are a page
cut_page : (is_whole : Bool) (front text : List ℕ) → All (λ b. is_shown b ≡ true) front → length front + 24 ≤ 65536
    → text ≡ cond is_whole (front ++ cut_line) front → IsPage text
cut_page true front text shown room e =
    let size : length cut_line ≡ 24 = refl in
    subst IsPage (sym e) (record {
      short = omega (arith, length-append front cut_line, size);
      shown = All-append (λ b. is_shown b ≡ true) front cut_line shown (AllPass-from_list_all is_shown cut_line refl);
    })
cut_page false front text shown room e = subst IsPage (sym e) (record { short = omega arith; shown = shown })

pub invariant_of-self : goal.invariant_of-self
invariant_of-self c =
    let before : IsPage c.args.self.now.bytes.items = search rules in
    let front = c.truncate.new.self.items in
    let shown : All (λ b. is_shown b ≡ true) front =
    rw c.truncate.ensures.items (All-take (λ b. is_shown b ≡ true) _ _ before.shown) in
    record {
      is_page =
          cut_page _ front _ shown
          (omega (
            arith,
            ap length c.truncate.ensures.items,
            length-take {A = ℕ},
            c.lines_end-end.ensures,
          ))
          (rw c.as_bytes.ensures.value at c.extend_from_slice.ensures.items);
    }
