use Rattle.std.proofs.Common.{◌≡◌, ◌||◌, ◌-◌, ℕ, Bool, true, false, List, take, drop, length, subst}
use Rattle.std.proofs.Common.{sym, ap, ◌∙◌, refl, nat_eq}
use Rattle.std.proofs.{lemmas.List.take-append-drop, lemmas.List.Folds.list_any-append}
use Rattle.vipr_table.specs.Rising.{has}
use Rattle.vipr_table.proofs.RisingLemmas.{to_end}
use Rattle.vipr_table.proofs.assumptions.merge.has_all.Goals as goal

-- what is at the front of a list, or at its end, is in it
front : (n q : ℕ) (xs : List ℕ) → has (take n xs) q ≡ true → has xs q ≡ true
front n q xs h = subst (λ l. has l q ≡ true) (take-append-drop n xs)
    (list_any-append (λ x. nat_eq x q) (take n xs) (drop n xs) ∙ ap (λ b. b || has (drop n xs) q) h)

or_true : (b : Bool) → (b || true) ≡ true
or_true true = refl
or_true false = refl

back : (n q : ℕ) (xs : List ℕ) → has (drop n xs) q ≡ true → has xs q ≡ true
back n q xs h = subst (λ l. has l q ≡ true) (take-append-drop n xs)
    (list_any-append (λ x. nat_eq x q) (take n xs) (drop n xs) ∙ ap (λ b. has (take n xs) q || b) h
    ∙ or_true (has (take n xs) q))

pub returns-then-is_same : goal.returns-then-is_same
returns-then-is_same c = λ _ q h.
    let xs = c.args.xs.now in
    let ys = c.args.ys.now in
    let same : take (length ys) xs ≡ ys = c.is_same.ensures c.if-is_same.true in
    front (length ys) q xs (subst (λ l. has l q ≡ true) (sym same) h)

pub returns-then-is_same-2 : goal.returns-then-is_same-2
returns-then-is_same-2 c = λ _ q h.
    let xs = c.args.xs.now in
    let ys = c.args.ys.now in
    let n = length xs - length ys in
    let same : drop n xs ≡ ys = sym (to_end n xs) ∙ c.is_same-2.ensures c.if-is_same-2.true in
    back n q xs (subst (λ l. has l q ≡ true) (sym same) h)
