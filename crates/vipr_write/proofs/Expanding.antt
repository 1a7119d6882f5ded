-- A text with the objective's row at each mark
use Rattle.std.proofs.Common.{◌≡◌, ℕ, ◌+◌, ◌-◌, ◌*◌, ◌≤◌, List, [], ◌∷◌, ◌++◌, length, take, drop}
use Rattle.std.proofs.Common.{sum, refl, ap, ◌∙◌, append_assoc, length-append, arith}
use Rattle.std.proofs.lemmas.List.{append-nil, take-append-le, drop-append-le, length-drop}
use Rattle.std.proofs.lemmas.List.{length-take-le}
use Rattle.std.proofs.{Math.Seq.take-length, Math.Seq.drop-length, lemmas.List.Sums.sum_by-cons}
use Rattle.vipr_write.specs.Folded.{expanded}

sum_is : (n : ℕ) (ns : List ℕ) → sum (n ∷ ns) ≡ n + sum ns
sum_is n ns = sum_by-cons (λ x. x) n ns

first_fits : (n : ℕ) (ns text : List ℕ) → sum (n ∷ ns) ≤ length text → n ≤ length text
first_fits n ns text h = omega (arith, sum_is n ns)

rest_fits : (n : ℕ) (ns text : List ℕ) → sum (n ∷ ns) ≤ length text → sum ns ≤ length (drop n text)
rest_fits n ns text h = omega (arith, sum_is n ns, length-drop n text)

rest_gap : (n : ℕ) (ns text : List ℕ) → length text - sum (n ∷ ns) ≡ length (drop n text) - sum ns
rest_gap n ns text = omega (arith, sum_is n ns, length-drop n text)

-- what is appended behind the last mark
pub behind : (part : List ℕ) (ns : List ℕ) (text more : List ℕ) → sum ns ≤ length text
    → expanded part ns (text ++ more) ≡ expanded part ns text ++ more
behind part [] text more h = refl
behind part (n ∷ ns) text more h =
    let fits = first_fits n ns text h in
    let rest = rest_fits n ns text h in
    ap (λ t. t ++ (part ++ expanded part ns (drop n (text ++ more)))) (take-append-le n text more fits)
    ∙ ap (λ t. take n text ++ (part ++ expanded part ns t)) (drop-append-le n text more fits)
    ∙ ap (λ t. take n text ++ (part ++ t)) (behind part ns (drop n text) more rest)
    ∙ simp append_assoc

-- a mark at the end
pub marked_here : (part : List ℕ) (ns : List ℕ) (text : List ℕ) → sum ns ≤ length text
    → expanded part (ns ++ (length text - sum ns) ∷ []) text ≡ expanded part ns text ++ part
marked_here part [] text h =
    let whole : length text - sum [] ≡ length text = omega arith in
    ap (λ k. take k text ++ (part ++ drop k text)) whole
    ∙ ap (λ t. t ++ (part ++ drop (length text) text)) (take-length text)
    ∙ ap (λ t. text ++ (part ++ t)) (drop-length text)
    ∙ ap (λ t. text ++ t) (append-nil part)
marked_here part (n ∷ ns) text h =
    let rest = rest_fits n ns text h in
    let gap = rest_gap n ns text in
    ap (λ k. take n text ++ (part ++ expanded part (ns ++ k ∷ []) (drop n text))) gap
    ∙ ap (λ t. take n text ++ (part ++ t)) (marked_here part ns (drop n text) rest)
    ∙ simp append_assoc

-- how long it is
pub long : (part : List ℕ) (ns : List ℕ) (text : List ℕ) → sum ns ≤ length text
    → length (expanded part ns text) ≡ length ns * length part + length text
long part [] text h = omega arith
long part (n ∷ ns) text h =
    grind (
      arith,
      first_fits n ns text h,
      long part ns (drop n text) (rest_fits n ns text h),
      length-append,
      length-drop,
      length-take-le,
    )
