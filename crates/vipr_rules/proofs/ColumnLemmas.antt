-- The columns of a problem, entry by entry, and sums over the listed variables of a solution
use Rattle.std.proofs.Common.{◌≡◌, ◌≢◌, ℕ, zero, suc, ◌+◌, ◌<◌, ◌≤◌, ◌⊎◌, inl, inr, List, [], ◌∷◌}
use Rattle.std.proofs.Common.{◌++◌, length, get_or, map, replicate, All, Vec, arith, refl, sym, ◌∙◌}
use Rattle.std.proofs.Common.{ap, subst, add-one, nat_cmp, Bool, true, rules}
use Rattle.std.proofs.lemmas.List.{get_or-set_same, get_or-set_other, get_or_default, get_or-map}
use Rattle.std.proofs.lemmas.List.{get_or_append_left, get_or_push, length_push, length-set}
use Rattle.std.proofs.lemmas.List.{length-map, map-set, get_or_past, get_or-replicate}
use Rattle.std.proofs.lemmas.List.{length-replicate}
use Rattle.std.proofs.{lemmas.Bool.cases_eq, lemmas.Bool.cases_lt, lemmas.Simd.map-map}
use Rattle.std.specs.Prelude.{slice_set, Result, Ok, Err, IsOk, IsErr, OnOk, OnErr}
use Rattle.std.specs.FinMap.{empty, entries, len-entries, len-empty}
use Rattle.std.specs.{Global.Global, Result.is_ok}
use Rattle.vipr_spec.specs.Fraction.{ℚ, zero_ℚ, ◌+ℚ◌, ◌*ℚ◌, IsBounded}
use Rattle.vipr_spec.specs.Constraint.{Constraint, Row, Point, at, value, ValueFits, NamesBelow}
use Rattle.vipr_spec.specs.Constraint.{Compares}
use Rattle.vipr_spec.specs.Certificate.{Problem, variables}
use Rattle.vipr_spec.specs.{MoreEntries.TermFits, Shape.CanWriteProblem}
use Rattle.vipr_spec.proofs.Laws.{nothing_more, sum_bounded, value_gap, zero_bounded, add-zero_ℚ}
use Rattle.vipr_spec.proofs.Laws.{zero-mul_ℚ, mul-zero_ℚ, zero_or_not}
use Rattle.vipr_linear.specs.declared.constraint.Constraint.{Constraint as Item}
use Rattle.vipr_linear.specs.{Accumulator.with_term, Constraint.constraint_of, Row.RisesFrom}
use Rattle.vipr_linear.proofs.Laws.{coefficient, coefficient_at, absent, at_place, names_known}
use Rattle.vipr_cert.specs.{Items.named_of, declared.items.Named.Named}
use Rattle.vipr_spec.specs.Certificate as is
use Rattle.vipr_rules.specs.Solution.{PassesAll, tests_at, tests_below}
use Rattle.vipr_rules.specs.declared.bounds.Bounds.{Bounds}
use Rattle.vipr_rules.specs.declared.coefficient.Coefficient.{Coefficient}
use Rattle.vipr_rules.specs.declared.coefficient.Coefficient.TheVariants.{Short, Listed}
use Rattle.vipr_rules.specs.Columns.{given_in, nth, given_of, OccursFrom, HasRow, IsPlace}
use Rattle.vipr_rules.specs.Columns.{IsCoefficientOf, IsCoefficientIn, ColumnEntry, no_entry}
use Rattle.vipr_rules.specs.Columns.{ArePlaces, column_at, AreColumns, IsSummed, IsCounted, AreSums}
use Rattle.vipr_rules.specs.Columns.{AreFalseAtZero, IsMet, AreMet, LiesWithin, AreBounds}
use Rattle.vipr_rules.proofs.SolutionLemmas.{TrueUpTo, true_next, all_true, given_below}
use Rattle.vipr_rules.proofs.ValueLemmas.{value_same, fits_same}

-- ---- places of lists
pub there : {A : Type 0} → (xs : List A) (k : ℕ) (d x : A) → k < length xs → x ≡ get_or xs k x
    → get_or xs k d ≡ x
there xs k d x l e = get_or_default xs k d x l ∙ sym e

module _ {A : Type 0} (number : A → ℕ) (d : A) where
  pub none_occur : (xs : List A) (c i : ℕ) → length xs ≤ c → OccursFrom number d c xs i → ⊥
  none_occur xs c i past s =
      let a : c ≤ s.0 = s.1 in
      let b : s.0 < length xs = s.2 in
      absurd (omega (arith, past, a, b))

  pub occurs_later : (xs : List A) (c i : ℕ) → number (get_or xs c d) ≢ i
      → OccursFrom number d c xs i → OccursFrom number d (c + 1) xs i
  occurs_later xs c i n s = search (rules, cases_eq)

-- ---- a row's entries
at_least_low : (low : ℕ) (es : List (ℕ × ℚ)) (k : ℕ) (d : ℕ × ℚ) → RisesFrom low es → k < length es
    → low + k ≤ (get_or es k d).0
at_least_low low [] k d r l = absurd (omega arith)
at_least_low low (e ∷ es) zero d r l = let h : low ≤ e.0 = r.0 in omega (arith, h)
at_least_low low (e ∷ es) (suc k) d r l =
    let h = at_least_low (e.0 + 1) es k d r.2 (omega arith) in
    let m : low ≤ e.0 = r.0 in
    omega (arith, h, m)

pub rank : (es : List (ℕ × ℚ)) (k : ℕ) (d : ℕ × ℚ) → RisesFrom 0 es → k < length es
    → k ≤ (get_or es k d).0
rank es k d r l = let h = at_least_low 0 es k d r l in omega (arith, h)

rising_from : (low : ℕ) (es : List (ℕ × ℚ)) (a b : ℕ) (d : ℕ × ℚ) → RisesFrom low es → a < b
    → b < length es → (get_or es a d).0 < (get_or es b d).0
rising_from low [] a b d r less l = absurd (omega arith)
rising_from low (e ∷ es) a zero d r less l = absurd (omega arith)
rising_from low (e ∷ es) zero (suc b) d r less l =
    let h = at_least_low (e.0 + 1) es b d r.2 (omega arith) in
    omega (arith, h)
rising_from low (e ∷ es) (suc a) (suc b) d r less l = rising_from (e.0 + 1) es a b d r.2 (omega arith) (omega arith)

apart_each : (e : ℕ × ℚ) (es : List (ℕ × ℚ)) (d : ℕ × ℚ) (j : ℕ) → e.0 ≢ j
    → ((k : ℕ) → k < length es → (get_or es k d).0 ≢ j) → (k : ℕ) → k < length (e ∷ es)
    → (get_or (e ∷ es) k d).0 ≢ j
apart_each e es d j apart h zero l = apart
apart_each e es d j apart h (suc k) l = h k (omega arith)

occurs_or_not : (es : List (ℕ × ℚ)) (d : ℕ × ℚ) (j : ℕ)
    → OccursFrom (λ (e : ℕ × ℚ). e.0) d 0 es j ⊎ ((k : ℕ) → k < length es → (get_or es k d).0 ≢ j)
occurs_or_not [] d j = inr (λ k l. absurd (omega arith))
occurs_or_not (e ∷ es) d j = elim (cases_eq e.0 j) [
  | inl same ↦ inl (0, omega arith, omega arith, same)
  | inr apart ↦ elim (occurs_or_not es d j) [
    | inl s ↦ let l : s.0 < length es = s.2 in inl (suc s.0, omega arith, omega (arith, l), s.3)
    | inr none ↦ inr (apart_each e es d j apart none)
  ]
]

module _ (row : Row) (es : List (ℕ × ℚ)) (list : es ≡ entries row) (r : RisesFrom 0 es) where
  listed_rise : RisesFrom 0 (entries row)
  listed_rise = subst (RisesFrom 0) list r

  coefficient_is : (j : ℕ) → coefficient es j ≡ at row j
  coefficient_is j = ap (λ xs. coefficient xs j) list ∙ coefficient_at row listed_rise j

  pub at_entry : (k : ℕ) (d : ℕ × ℚ) → k < length es → at row (get_or es k d).0 ≡ (get_or es k d).1
  at_entry k d l = sym (coefficient_is (get_or es k d).0) ∙ at_place 0 es k d r l

  pub zero_or_occurs : (j : ℕ) → (at row j ≡ zero_ℚ) ⊎ OccursFrom (λ (e : ℕ × ℚ). e.0) (0, zero_ℚ) 0 es j
  zero_or_occurs j = elim (occurs_or_not es (0, zero_ℚ) j) [
    | inl s ↦ inr s
    | inr none ↦ inl (sym (coefficient_is j) ∙ absent es j (0, zero_ℚ) none)
  ]

  pub entry_below : (n k : ℕ) (d : ℕ × ℚ) → NamesBelow n (at row) → k < length es → (get_or es k d).0 < n
  entry_below n k d names l = subst (λ xs. (get_or xs k d).0 < n) (sym list)
      ((names_known row n listed_rise).1 names k d (subst (λ xs. k < length xs) list l))

-- ---- where a variable stands
later : (cs : List Constraint) (i j : ℕ) (e : ColumnEntry) → IsPlace cs i j e → IsPlace cs (i + 1) j e
later cs i j e h = let l : e.0 < i = h.0 in (omega (arith, l), h.1)

module _ (o : Row) (cs : List Constraint) (i j : ℕ) (places : List ColumnEntry) (is : ArePlaces o cs i j places) where
  pub places_same : HasRow o (nth cs i) ⊎ (at (nth cs i).row j ≡ zero_ℚ) → ArePlaces o cs (i + 1) j places
  places_same none = search (rules, later, cases_lt)

  module _ (a : Coefficient) where
    left : (m : ℕ) → m < length places → get_or (places ++ (i, a) ∷ []) m no_entry ≡ get_or places m no_entry
    left m l = get_or_append_left places ((i, a) ∷ []) no_entry m l

    last : (m : ℕ) → m < length (places ++ (i, a) ∷ []) → length places ≤ m
        → get_or (places ++ (i, a) ∷ []) m no_entry ≡ (i, a)
    last m l past =
        get_or_push places (i, a) no_entry m (let n = length_push places (i, a) in omega (arith, n, l, past))

    pub places_more : IsCoefficientIn (nth cs i) j a → ArePlaces o cs (i + 1) j (places ++ (i, a) ∷ [])
    places_more is_in = search (rules, cases_lt, left, later, last, length_push)

-- ---- columns
abbrev pub Columns : Type 0
Columns = List (Vec ColumnEntry Global)

module _ (columns : Columns) (v : ℕ) (l : v < length columns) where
  pub column_read : (y : Vec ColumnEntry Global) → y ≡ get_or columns v y → column_at columns v ≡ y.items
  column_read y e = get_or-map (λ (w : Vec ColumnEntry Global). w.items) columns v y [] l
      ∙ ap (λ (w : Vec ColumnEntry Global). w.items) (sym e)

  module _ (y : Vec ColumnEntry Global) where
    set_is : map (λ (w : Vec ColumnEntry Global). w.items) (slice_set columns v y) ≡ slice_set
        (map (λ (w : Vec ColumnEntry Global). w.items) columns) v y.items
    set_is = map-set (λ (w : Vec ColumnEntry Global). w.items) columns v y

    column_here : column_at (slice_set columns v y) v ≡ y.items
    column_here = search (rules, set_is, get_or-set_same, length-map)

    column_other : (j : ℕ) → j ≢ v → column_at (slice_set columns v y) j ≡ column_at columns j
    column_other j n = ap (λ xs. get_or xs j []) set_is
        ∙ get_or-set_other (map (λ (w : Vec ColumnEntry Global). w.items) columns) v j y.items [] n

-- entries from place c of constraint i on are still to be added to their columns
pub record AreHalf (o : Row) (cs : List Constraint) (i : ℕ) (es : List (ℕ × ℚ)) (c : ℕ)
    (columns : Columns) : Type 0 where
  pub before : (k : ℕ) → c ≤ k → k < length es → ArePlaces o cs i (get_or es k (0, zero_ℚ)).0
      (column_at columns (get_or es k (0, zero_ℚ)).0)
  pub after : (j : ℕ) → ArePlaces o cs (i + 1) j (column_at columns j)
      ⊎ OccursFrom (λ (e : ℕ × ℚ). e.0) (0, zero_ℚ) c es j

-- no entry of a constraint that has the row o is added
pub columns_same : (o : Row) (cs : List Constraint) (i : ℕ) (columns : Columns)
    → HasRow o (nth cs i) → AreColumns o cs i columns → AreColumns o cs (i + 1) columns
columns_same o cs i columns same all j = places_same o cs i j (column_at columns j) (all j) (inl same)

module _ (o : Row) (cs : List Constraint) (i : ℕ) (row : Row) (same : (nth cs i).row ≡ row)
    (es : List (ℕ × ℚ)) (list : es ≡ entries row) (r : RisesFrom 0 es) where
  pub half_start : (columns : Columns) → AreColumns o cs i columns → AreHalf o cs i es 0 columns
  half_start columns all = search (rules, zero_or_occurs, places_same)

  module _ (columns : Columns) (c : ℕ) (p : ℕ × ℚ) (l : c < length es) (e : p ≡ get_or es c p)
      (within : p.0 < length columns) (y : Vec ColumnEntry Global) (a : Coefficient)
      (is_of : IsCoefficientOf p.1 c a) (pushed : y.items ≡ column_at columns p.0 ++ (i, a) ∷ []) where
    here : get_or es c (0, zero_ℚ) ≡ p
    here = there es c (0, zero_ℚ) p l e

    in_row : get_or (entries (nth cs i).row) c (0, zero_ℚ) ≡ (p.0, at (nth cs i).row p.0)
    in_row = search (rules, here, at_entry)

    in_length : c < length (entries (nth cs i).row)
    in_length = subst (λ xs. c < length xs) (list ∙ ap entries (sym same)) l

    in_constraint : (b : Coefficient) → IsCoefficientOf p.1 c b → IsCoefficientIn (nth cs i) p.0 b
    in_constraint (Short x) is = is
        ∙ sym (subst (λ (q : ℕ × ℚ). at row q.0 ≡ q.1) here (at_entry row es list r c (0, zero_ℚ) l))
        ∙ ap (λ (w : Row). at w p.0) (sym same)
    in_constraint (Listed k) is = subst (λ m. IsCoefficientIn (nth cs i) p.0 (Listed m)) (sym is) (in_length, in_row)

    pub half_next : AreHalf o cs i es c columns → AreHalf o cs i es (c + 1) (slice_set columns p.0 y)
    half_next half = record {
      before = λ k f b.
          let less = rising_from 0 es c k (0, zero_ℚ) r (omega (arith, f)) b in
          let apart : (get_or es k (0, zero_ℚ)).0 ≢ p.0 =
          λ q. absurd (let h = ap (λ (x : ℕ × ℚ). x.0) here in omega (arith, q, h, less)) in
          subst (ArePlaces o cs i (get_or es k (0, zero_ℚ)).0)
          (sym (column_other columns p.0 within y _ apart))
          (half.before k (omega (arith, f)) b);
      after = λ j. elim (cases_eq j p.0) [
        | inl q ↦ inl (subst (λ v. ArePlaces o cs (i + 1) v (column_at (slice_set columns p.0 y) v)) (sym q) now)
        | inr apart ↦ elim (half.after j) [
          | inl h ↦ inl (subst (ArePlaces o cs (i + 1) j) (sym (column_other columns p.0 within y j apart)) h)
          | inr s ↦ inr
              (occurs_later (λ (x : ℕ × ℚ). x.0) (0, zero_ℚ) es c j
              (λ q. apart (sym (sym (ap (λ (x : ℕ × ℚ). x.0) here) ∙ q))) s)
        ]
      ];
    }
      where
        was : ArePlaces o cs i p.0 (column_at columns p.0)
        was = subst (λ (q : ℕ × ℚ). ArePlaces o cs i q.0 (column_at columns q.0)) here (half.before c (omega arith) l)

        now : ArePlaces o cs (i + 1) p.0 (column_at (slice_set columns p.0 y) p.0)
        now = subst (ArePlaces o cs (i + 1) p.0) (sym (column_here columns p.0 within y ∙ pushed))
            (places_more o cs i p.0 (column_at columns p.0) was a (in_constraint a is_of))

-- ---- one more variable
module _ (row : Row) (x : Point) where
  value_bounded : (n : ℕ) → ValueFits n (at row) x → IsBounded (value n (at row) x)
  value_bounded zero h = zero_bounded
  value_bounded (suc n) h = sum_bounded (value n (at row) x) (at row n *ℚ x n) (h n (omega arith)).1

  fits_next : (n : ℕ) → ValueFits n (at row) x → TermFits (value n (at row) x) (at row n) (x n)
      → ValueFits (suc n) (at row) x
  fits_next n h t j l = search (rules, cases_eq)

  no_product : (n : ℕ) → (at row n ≡ zero_ℚ) ⊎ (x n ≡ zero_ℚ) → at row n *ℚ x n ≡ zero_ℚ
  no_product n h = grind (arith, zero-mul_ℚ, mul-zero_ℚ)

  sum_same_suc : (n : ℕ) (sum : ℚ) → (at row n ≡ zero_ℚ) ⊎ (x n ≡ zero_ℚ) → IsSummed row x n sum
      → IsSummed row x (suc n) sum
  sum_same_suc n sum none h = search (rules, fits_next, nothing_more, value_bounded, no_product, add-zero_ℚ)

  pub sum_same : (n : ℕ) (sum : ℚ) → (at row n ≡ zero_ℚ) ⊎ (x n ≡ zero_ℚ) → IsSummed row x n sum
      → IsSummed row x (n + 1) sum
  sum_same n sum none h = subst (λ k. IsSummed row x k sum) (sym (add-one n)) (sum_same_suc n sum none h)

  pub sum_more : (n : ℕ) (old new : ℚ) (a c : ℚ) → a ≡ at row n → x n ≡ c → TermFits old a c
      → new ≡ old +ℚ a *ℚ c → IsSummed row x n old → IsSummed row x (n + 1) new
  sum_more n old new a c same coordinate fits sum h = search (rules, fits_next)

  pub sum_gap : (sum : ℚ) (a b : ℕ) → a ≤ b → ((j : ℕ) → a ≤ j → j < b → x j ≡ zero_ℚ)
      → IsSummed row x a sum → IsSummed row x b sum
  sum_gap sum a zero le none h = let e : a ≡ 0 = omega (arith, le) in subst (λ k. IsSummed row x k sum) e h
  sum_gap sum a (suc b) le none h = elim (cases_eq a (suc b)) [
    | inl e ↦ subst (λ k. IsSummed row x k sum) e h
    | inr apart ↦
        let less : a ≤ b = omega (arith, le, apart) in
        sum_same_suc b sum (inr (none b less (omega arith)))
        (sum_gap sum a b less (λ j p q. none j p (omega (arith, q))) h)
  ]

-- over no variables each sum is 0
pub sums_start : (o : Row) (cs : List Constraint) (x : Point) (sums : List ℚ) (n : ℕ)
    → sums ≡ replicate n zero_ℚ → AreSums o cs x 0 sums
sums_start o cs x sums n zeros i l = search (rules, get_or-replicate, length-replicate)

-- a sum that is counted moves on by what is so of each sum
pub counted_by : (o : Row) (cs : List Constraint) (x : Point) (a b i : ℕ) (old new : List ℚ)
    → (IsSummed (nth cs i).row x a (get_or old i zero_ℚ)
    → IsSummed (nth cs i).row x b (get_or new i zero_ℚ)) → IsCounted o cs x a old i
    → IsCounted o cs x b new i
counted_by o cs x a b i old new f h = elim h [ inl same ↦ inl same | inr is ↦ inr (f is) ]

pub sums_gap : (o : Row) (cs : List Constraint) (x : Point) (sums : List ℚ) (a b : ℕ) → a ≤ b
    → ((j : ℕ) → a ≤ j → j < b → x j ≡ zero_ℚ) → AreSums o cs x a sums → AreSums o cs x b sums
sums_gap o cs x sums a b le none all i l = counted_by o cs x a b i sums sums
    (sum_gap (nth cs i).row x (get_or sums i zero_ℚ) a b le none) (all i l)

-- ---- one more column
-- the product is added to the sum of each constraint but of those that stand from place c on
pub record AreHalfSums (o : Row) (cs : List Constraint) (x : Point) (j : ℕ) (places : List ColumnEntry)
    (c : ℕ) (sums : List ℚ) : Type 0 where
  pub before : (k : ℕ) → c ≤ k → k < length places → IsCounted o cs x j sums (get_or places k no_entry).0
  pub after : (i : ℕ) → i < length sums → IsCounted o cs x (j + 1) sums i
      ⊎ OccursFrom (λ (e : ColumnEntry). e.0) no_entry c places i

module _ (o : Row) (cs : List Constraint) (x : Point) (j n : ℕ) (places : List ColumnEntry)
    (is : ArePlaces o cs n j places) where
  pub half_sums_start : (sums : List ℚ) → length sums ≡ n → AreSums o cs x j sums → AreHalfSums o cs x j places 0 sums
  half_sums_start sums many all = grind (arith, sum_same)

  pub half_sums_end : (sums : List ℚ) (c : ℕ) → length places ≤ c
      → AreHalfSums o cs x j places c sums → AreSums o cs x (j + 1) sums
  half_sums_end sums c past half i l = search (rules, none_occur)

  module _ (sums : List ℚ) (c : ℕ) (p : ColumnEntry) (l : c < length places) (e : p ≡ get_or places c p)
      (within : p.0 < length sums) (a b : ℚ) (coefficient_read : a ≡ at (nth cs p.0).row j)
      (coordinate : x j ≡ b) (fits : TermFits (get_or sums p.0 zero_ℚ) a b) where
    here_place : get_or places c no_entry ≡ p
    here_place = there places c no_entry p l e

    abbrev new : ℚ
    new = get_or sums p.0 zero_ℚ +ℚ a *ℚ b

    other : (i : ℕ) → i ≢ p.0 → (m : ℕ) → IsCounted o cs x m sums i → IsCounted o cs x m (with_term sums a (p.0, b)) i
    other i apart m h = counted_by o cs x m m i sums (with_term sums a (p.0, b))
        (subst (IsSummed (nth cs i).row x m) (sym (get_or-set_other sums p.0 i new zero_ℚ apart))) h

    pub half_sums_next : AreHalfSums o cs x j places c sums
        → AreHalfSums o cs x j places (c + 1) (with_term sums a (p.0, b))
    half_sums_next half = record {
      before = λ k f m.
          let less = is.rising c k (omega (arith, f)) m in
          let apart : (get_or places k no_entry).0 ≢ p.0 =
          λ q. absurd (let h = ap (λ (y : ColumnEntry). y.0) here_place in omega (arith, q, h, less))
          in
          other (get_or places k no_entry).0 apart j (half.before k (omega (arith, f)) m);
      after = λ i m. elim (cases_eq i p.0) [
        | inl q ↦ inl (subst (IsCounted o cs x (j + 1) (with_term sums a (p.0, b))) (sym q) now)
        | inr apart ↦ elim (half.after i (let s = length-set sums p.0 new in omega (arith, m, s))) [
          | inl h ↦ inl (other i apart (j + 1) h)
          | inr s ↦ inr
              (occurs_later (λ (y : ColumnEntry). y.0) no_entry places c i
              (λ q. apart (sym (sym (ap (λ (y : ColumnEntry). y.0) here_place) ∙ q))) s)
        ]
      ];
    }
      where
        was : IsCounted o cs x j sums p.0
        was = subst (λ (q : ColumnEntry). IsCounted o cs x j sums q.0) here_place (half.before c (omega arith) l)

        now : IsCounted o cs x (j + 1) (with_term sums a (p.0, b)) p.0
        now = counted_by o cs x j (j + 1) p.0 sums (with_term sums a (p.0, b))
            (λ h. subst (IsSummed (nth cs p.0).row x (j + 1))
            (sym (get_or-set_same sums p.0 new zero_ℚ within))
            (sum_more (nth cs p.0).row x j (get_or sums p.0 zero_ℚ) new a b coefficient_read
            coordinate fits refl h)) was

-- ---- the listed variables of a solution, one after the other
-- the variables from low on are 0 or listed from place c on
pub record IsReached (s : Row) (es : List (ℕ × ℚ)) (c low : ℕ) : Type 0 where
  pub above : (k : ℕ) → c ≤ k → k < length es → low ≤ (get_or es k (0, zero_ℚ)).0
  pub rest : (j : ℕ) → low ≤ j → (at s j ≡ zero_ℚ) ⊎ OccursFrom (λ (e : ℕ × ℚ). e.0) (0, zero_ℚ) c es j

module _ (s : Row) (es : List (ℕ × ℚ)) (list : es ≡ entries s) (r : RisesFrom 0 es) where
  pub reached_start : IsReached s es 0 0
  reached_start = record { above = λ k a l. omega arith; rest = λ j a. zero_or_occurs s es list r j }

  pub reached_end : (c low : ℕ) → length es ≤ c → IsReached s es c low → (j : ℕ) → low ≤ j → at s j ≡ zero_ℚ
  reached_end c low past h j a =
      elim (h.rest j a) [
        | inl z ↦ z
        | inr t ↦
            absurd (none_occur (λ (e : ℕ × ℚ). e.0) (0, zero_ℚ) es c j past t)
      ]

  module _ (c : ℕ) (p : ℕ × ℚ) (l : c < length es) (e : p ≡ get_or es c p) where
    here_entry : get_or es c (0, zero_ℚ) ≡ p
    here_entry = there es c (0, zero_ℚ) p l e

    first_here : (get_or es c (0, zero_ℚ)).0 ≡ p.0
    first_here = ap (λ (y : ℕ × ℚ). y.0) here_entry

    pub coordinate_is : at s p.0 ≡ p.1
    coordinate_is = subst (λ (q : ℕ × ℚ). at s q.0 ≡ q.1) here_entry (at_entry s es list r c (0, zero_ℚ) l)

    -- the entries that are left are of this variable and later ones
    pub left_from : (k : ℕ) → c ≤ k → k < length es → p.0 ≤ (get_or es k (0, zero_ℚ)).0
    left_from k a b = elim (cases_eq k c) [
      | inl q ↦ let h = ap (λ (y : ℕ × ℚ). y.0) (ap (λ m. get_or es m (0, zero_ℚ)) q ∙ here_entry) in omega (arith, h)
      | inr apart ↦ let less = rising_from 0 es c k (0, zero_ℚ) r (omega (arith, a, apart)) b in
          let h = first_here in
          omega (arith, h, less)
    ]

    module _ (low : ℕ) (h : IsReached s es c low) where
      pub reached_low : low ≤ p.0
      reached_low = let b = h.above c (omega arith) l in let q = first_here in omega (arith, b, q)

      pub reached_zeros : (j : ℕ) → low ≤ j → j < p.0 → at s j ≡ zero_ℚ
      reached_zeros j a m =
          elim (h.rest j a) [
            | inl z ↦ z
            | inr t ↦
                absurd (let f = left_from t.0 t.1 t.2 in let q = t.3 in omega (arith, f, q, m))
          ]

      pub reached_next : IsReached s es (c + 1) (p.0 + 1)
      reached_next = record {
        above = λ k a b. let less = rising_from 0 es c k (0, zero_ℚ) r (omega (arith, a)) b in
            let q = first_here in
            omega (arith, q, less);
        rest = grind (arith, first_here);
      }

-- the sums over the variables below some number up to n, from which on the others are listed
abbrev pub Summed : Row → List Constraint → Row → ℕ → List (ℕ × ℚ) → ℕ → List ℚ → Type 0
Summed o cs s n es c sums = (low : ℕ) × (low ≤ n) × IsReached s es c low × AreSums o cs (at s) low sums

module _ (o : Row) (cs : List Constraint) (s : Row) (n : ℕ) (es : List (ℕ × ℚ))
    (list : es ≡ entries s) (r : RisesFrom 0 es) where
  pub summed_start : (sums : List ℚ) → AreSums o cs (at s) 0 sums → Summed o cs s n es 0 sums
  summed_start sums all = (0, omega arith, reached_start s es list r, all)

  -- no listed variable is left below n
  pub summed_end : (sums : List ℚ) (c : ℕ)
      → ((k : ℕ) → c ≤ k → k < length es → n ≤ (get_or es k (0, zero_ℚ)).0)
      → Summed o cs s n es c sums → AreSums o cs (at s) n sums
  summed_end sums c past h = sums_gap o cs (at s) sums h.0 n h.1
      (λ j a l. elim (h.2.rest j a) [
        | inl z ↦ z
        | inr t ↦
            absurd (let f = past t.0 t.1 t.2 in let q = t.3 in omega (arith, f, l, q))
      ]) h.3

  module _ (c : ℕ) (p : ℕ × ℚ) (l : c < length es) (e : p ≡ get_or es c p) where
    pub rest_past : n ≤ p.0 → (k : ℕ) → c ≤ k → k < length es → n ≤ (get_or es k (0, zero_ℚ)).0
    rest_past past k a b = let h = left_from s es list r c p l e k a b in omega (arith, h, past)

    pub summed_here : (sums : List ℚ) → Summed o cs s n es c sums → AreSums o cs (at s) p.0 sums
    summed_here sums h = sums_gap o cs (at s) sums h.0 p.0 (reached_low s es list r c p l e h.0 h.2)
        (reached_zeros s es list r c p l e h.0 h.2) h.3

    pub summed_next : (old sums : List ℚ) → p.0 < n → Summed o cs s n es c old
        → AreSums o cs (at s) (p.0 + 1) sums → Summed o cs s n es (c + 1) sums
    summed_next old sums within h all = (p.0 + 1, omega (arith, within), reached_next s es list r c p l e h.0 h.2, all)

-- ---- the value of a row, over the listed variables
abbrev pub SummedRow : Row → Row → List (ℕ × ℚ) → ℕ → ℚ → Type 0
SummedRow row s es c v = (low : ℕ) × IsReached s es c low × IsSummed row (at s) low v

module _ (row s : Row) (es : List (ℕ × ℚ)) (list : es ≡ entries s) (r : RisesFrom 0 es) where
  pub row_start : (v : ℚ) → v ≡ zero_ℚ → SummedRow row s es 0 v
  row_start v e = (0, reached_start s es list r, ((λ j l. absurd (omega arith)), e))

  module _ (c : ℕ) (p : ℕ × ℚ) (l : c < length es) (e : p ≡ get_or es c p) (v a : ℚ)
      (read : a ≡ at row p.0) (h : SummedRow row s es c v) where
    row_here : IsSummed row (at s) p.0 v
    row_here = sum_gap row (at s) v h.0 p.0 (reached_low s es list r c p l e h.0 h.1)
        (reached_zeros s es list r c p l e h.0 h.1) h.2

    pub row_next : (new : ℚ) → TermFits v a p.1 → new ≡ v +ℚ a *ℚ p.1 → SummedRow row s es (c + 1) new
    row_next new fits sum = (
      p.0 + 1,
      reached_next s es list r c p l e h.0 h.1,
      sum_more row (at s) p.0 v new a p.1 read
          (coordinate_is s es list r c p l e) fits sum row_here,
    )

    pub row_refused : (n : ℕ) → NamesBelow n (at row) → ValueFits n (at row) (at s) → TermFits v a p.1
    row_refused n names fits = search (rules, row_here, coordinate_is, cases_lt, nothing_more, value_bounded)

  pub row_end : (c : ℕ) (v : ℚ) (n : ℕ) → length es ≤ c → NamesBelow n (at row)
      → SummedRow row s es c v → IsSummed row (at s) n v
  row_end c v n past names h = elim (cases_lt n h.0) [
    | inl over ↦ (
      λ j l. h.2.0 j (omega (arith, l, over)),
      h.2.1
          ∙ value_gap n h.0 (at row) (at s) (omega (arith, over)) (λ j a b. names j a),
    )
    | inr within ↦ sum_gap row (at s) v h.0 n within (λ j a b. reached_end s es list r c h.0 past h.1 j a) h.2
  ]

-- ---- constraints of a problem
pub given_nth : (cons : List (Named Item)) (i : ℕ) (n : Named Item) → i < length cons
    → n ≡ get_or cons i n → nth (given_of cons) i ≡ constraint_of n.item
given_nth cons i n l e = get_or-map (λ (m : Named Item). constraint_of m.item) cons i n _ l
    ∙ ap (λ (m : Named Item). constraint_of m.item) (sym e)

-- ---- constraints that are false at 0
module _ (o : Row) (cs : List Constraint) (n : ℕ) (indices : List ℕ) (is : AreFalseAtZero o cs n indices) where
  pub false_next : HasRow o (nth cs n) ⊎ Compares (nth cs n).sense zero_ℚ (nth cs n).bound
      → AreFalseAtZero o cs (n + 1) indices
  false_next there_or_same = search (rules, cases_lt)

  pub false_more : AreFalseAtZero o cs (n + 1) (indices ++ n ∷ [])
  false_more = record {
    within = λ k l. elim (cases_lt k (length indices)) [
      | inl below ↦ let h = is.within k below in
          let e = get_or_append_left indices (n ∷ []) 0 k below in
          omega (arith, h, e)
      | inr past ↦ let e = get_or_push indices n 0 k (let m = length_push indices n in omega (arith, m, l, past)) in
          omega (arith, e)
    ];
    listed = λ i l. elim (cases_lt i n) [
      | inl below ↦ elim (is.listed i below) [
        | inl same ↦ inl same
        | inr some ↦ elim some [
          | inl t ↦ inr (inl t)
          | inr s ↦ let m : s.0 < length indices = s.2 in
              inr (inr (
                s.0,
                s.1,
                (let q = length_push indices n in omega (arith, m, q)),
                get_or_append_left indices (n ∷ []) 0 s.0 m ∙ s.3,
              ))
        ]
      ]
      | inr past ↦
          inr (inr (
            length indices,
            omega arith,
            (let q = length_push indices n in omega (arith, q)),
            get_or_push indices n 0 (length indices) refl
                ∙ (let e : n ≡ i = omega (arith, l, past) in e),
          ))
    ];
  }

pub given_entries : (cons : List (Named Item)) (i : ℕ) (n : Named Item) → i < length cons
    → n ≡ get_or cons i n → (es : List (ℕ × ℚ)) → es ≡ entries (get_or cons i n).item.row
    → entries (nth (given_of cons) i).row ≡ es
given_entries cons i n l e es list = ap (λ (c : Constraint). entries c.row) (given_nth cons i n l e)
    ∙ ap (λ (m : Named Item). entries m.item.row) e ∙ sym list

-- what an entry of a column has
pub short_place : (cs : List Constraint) (n j : ℕ) (e : ColumnEntry) (a : ℚ) → e.1 ≡ Short a
    → IsPlace cs n j e → a ≡ at (nth cs e.0).row j
short_place cs n j e a is h = subst (IsCoefficientIn (nth cs e.0) j) is h.1

pub listed_place : (cs : List Constraint) (n j : ℕ) (e : ColumnEntry) (k : ℕ) → e.1 ≡ Listed k
    → IsPlace cs n j e → IsCoefficientIn (nth cs e.0) j (Listed k)
listed_place cs n j e k is h = subst (IsCoefficientIn (nth cs e.0) j) is h.1

-- sums stay as many if a product is added or refused
pub added_length : {E : Type 0} (r : Result (Unit {0}) E) (xs ys : List ℚ) (a : ℚ) (t : ℕ × ℚ)
    → OnOk r (ys ≡ with_term xs a t) → OnErr r (ys ≡ xs) → length ys ≡ length xs
added_length (Ok u) xs ys a t sum kept = ap length sum ∙ length-set xs t.0 _
added_length (Err e) xs ys a t sum kept = ap length kept

pub listed_read : (c : Constraint) (j k : ℕ) → IsCoefficientIn c j (Listed k) → (es : List (ℕ × ℚ))
    → entries c.row ≡ es → (p : ℕ × ℚ) → p ≡ get_or es k p → p.1 ≡ at c.row j
listed_read c j k h es same p is = search (rules, there)

pub as_many : (cons : List (Named Item)) → length (given_of cons) ≡ length cons
as_many cons = length-map cons (λ (m : Named Item). constraint_of m.item)

-- a constraint that has an entry is one of the list
pub has_entries : (cs : List Constraint) (i k : ℕ) → k < length (entries (nth cs i).row)
    → i < length cs
has_entries cs i k l =
    grind (
      arith,
      get_or_past cs i,
      len-entries (empty {K = ℕ} {X = ℚ} {R = nat_cmp}),
      len-empty nat_cmp ℚ,
    )

-- ---- all constraints
module _ (o : Row) (cs : List Constraint) (n : ℕ) (x : Point) (sums : List ℚ) (indices : List ℕ) where
  pub met : length sums ≡ length cs → AreSums o cs x n sums
      → AreFalseAtZero o cs (length cs) indices → All (λ i. get_or sums i zero_ℚ ≢ zero_ℚ) indices
      → ((i : ℕ) → get_or sums i zero_ℚ ≢ zero_ℚ → Compares (nth cs i).sense (get_or sums i zero_ℚ)
      (nth cs i).bound) → AreMet o cs n x
  met many all at_zero nonzero true_there i l = grind (arith, zero_or_not (get_or sums i zero_ℚ))

pub all_within : (o : Row) (cs : List Constraint) (n : ℕ) (indices : List ℕ)
    → AreFalseAtZero o cs n indices → All (λ i. i < n) indices
all_within o cs n indices is k d l = subst (λ i. i < n) (get_or_default indices k 0 d l) (is.within k l)

pub known_ok : {A E : Type 0} → (r : Result A E) (P : Type 0) (b : Bool) → b ≡ is_ok r → b ≡ true
    → OnOk r P → P
known_ok r P b e t h = grind arith

pub refused_or_ok : {A E : Type 0} → (r : Result A E) → IsErr r → IsOk r → ⊥
refused_or_ok r e o = grind arith

-- ---- a problem and its constraints
module _ (p : Problem) (cons : List (Named Item)) (same : map (named_of constraint_of) cons ≡ p.constraints) where
  pub given_same : given_of cons ≡ given_in p
  given_same = sym (map-map (λ (n : is.Named Constraint). n.item) (named_of constraint_of) cons)
      ∙ ap (map (λ (n : is.Named Constraint). n.item)) same

  pub count_same : length cons ≡ length p.constraints
  count_same = sym (length-map cons (named_of constraint_of)) ∙ ap length same

  pub names_within : CanWriteProblem p → (k : ℕ) (d : Named Item) → k < length cons
      → NamesBelow (variables p) (at (get_or cons k d).item.row)
  names_within writes k d l = given_below p cons same k (get_or cons k d) l
      (get_or_default cons k d (get_or cons k d) l) writes

module _ (p : Problem) (s : Row) (meets : AreMet p.objective (given_in p) (variables p) (at s))
    (fits : ValueFits (variables p) (at p.objective) (at s)) (b : Bounds)
    (bounds : AreBounds p.objective (given_in p) (length p.constraints) b)
    (within : LiesWithin b (value (variables p) (at p.objective) (at s))) where
  each : (i : ℕ) → i < length p.constraints → IsMet (variables p) (at s) (nth (given_in p) i)
  each i l = elim (meets i
      (subst (λ n. i < n) (sym (length-map p.constraints (λ (n : is.Named Constraint). n.item))) l)) [
        | inl same ↦ (
          fits_same (variables p) (at s) (at p.objective) (at (nth (given_in p) i).row) (λ j. sym (same j)) fits,
          subst (λ v. Compares (nth (given_in p) i).sense v (nth (given_in p) i).bound)
              (value_same (variables p) (at s) (at p.objective) (at (nth (given_in p) i).row)
              (λ j. sym (same j))) ((bounds _).0 within i l same),
        )
        | inr h ↦ h
      ]

  met_here : (i : ℕ) → i < length p.constraints → PassesAll p s (tests_at i)
  met_here i l = let h = each i l in inl (h.0, inl (h.1, refl))

  met_up_to : (i : ℕ) → i ≤ length p.constraints → TrueUpTo p s i
  met_up_to zero l = refl
  met_up_to (suc i) l = subst (TrueUpTo p s) (add-one i)
      (true_next p s i (omega arith) (met_up_to i (omega arith)) (met_here i (omega arith)))

  pub all_met : PassesAll p s (tests_below (length p.constraints))
  all_met = all_true p s (length p.constraints) (omega arith) (met_up_to (length p.constraints) (omega arith))
