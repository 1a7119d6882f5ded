-- All tests of a step pass exactly where it is good
use Rattle.std.proofs.Common.{◌≡◌, ◌≢◌, ℕ, ◌<◌, ◌⊎◌, Bool, true, false, List, [], ◌∷◌, ◌++◌}
use Rattle.std.proofs.Common.{slice_index_or, None, pos, All, Contains, arith, refl, sym, ◌∙◌, ap}
use Rattle.std.proofs.Common.{subst, append_assoc, inl, inr, zero-lt-suc, append-nil, lit<}
use Rattle.std.proofs.lemmas.List.Elements.{All-from_recursion, recursion_from_All, All-nil}
use Rattle.std.proofs.lemmas.List.Elements.{All-cons, All-head, All-tail, All-append, All-weaker}
use Rattle.std.proofs.lemmas.List.Elements.{All-contains, Contains-get_or}
use Rattle.std.proofs.{lemmas.Bool.Decides.Decides-int_eq, lemmas.Int.ints, lemmas.List.map-append}
use Rattle.std.specs.Prelude.{◌↔◌, flat_map, IsTrue, not, if◌then◌else◌}
use Rattle.std.specs.{List.AllByRecursion as ByRecursion, Ordering.int_eq}
use Rattle.vipr_spec.specs.{ℚ, zero_ℚ, Profile, Sense, Condition, Entry, HasSense, SumOfFits}
use Rattle.vipr_spec.specs.{Reason, asm, lin, rnd, uns, sol, constraint_at, entries, is_live, count}
use Rattle.vipr_spec.specs.{IsGoodStep, is_nonzero, StepTest, earlier, live, suitable, fitting}
use Rattle.vipr_spec.specs.{roundable, listed, by_sum, by_rounding, PassesStep, reference_tests}
use Rattle.vipr_spec.specs.{entry_tests, sum_tests, step_tests, FirstFailing}
use Rattle.vipr_spec.specs.Certificate.{Certificate}
use Rattle.vipr_spec.proofs.Fractions.{is_zero, Is, zero_from_numer}
use Rattle.vipr_spec.proofs.MoreEntries.{suitable_front, fitting_front}
use Rattle.vipr_spec.proofs.FirstFailing.{none_all, all_none, all_parts}
use Rattle.vipr_spec.proofs.EachTests.{flat_all_of, flat_all}

-- ---- what multiplier is 0
numer_zero : (x : ℚ) → x ≡ zero_ℚ → x.numer ≡ pos 0
numer_zero x e =
    let z = subst (λ z. Is z (pos 0) 1) (sym e) (is_zero 1 (zero-lt-suc 0)) in
    let c = z.cross in
    omega (arith, ints)

pub nonzero_or_zero : (e : ℕ × ℚ)
    → ((is_nonzero e ≡ true) × (e.1 ≢ zero_ℚ)) ⊎ ((is_nonzero e ≡ false) × (e.1 ≡ zero_ℚ))
nonzero_or_zero e = by (int_eq e.1.numer (pos 0)) refl
  where
    by : (b : Bool) → int_eq e.1.numer (pos 0) ≡ b → ((not b ≡ true) × (e.1 ≢ zero_ℚ))
        ⊎ ((not b ≡ false) × (e.1 ≡ zero_ℚ))
    by true h = inr (refl, zero_from_numer e.1 ((Decides-int_eq e.1.numer (pos 0)).0 h))
    by false h = inl (refl, λ z. let t = (Decides-int_eq e.1.numer (pos 0)).1 (numer_zero e.1 z) in absurd (cc))

abbrev IsSuitable : List Entry → Type 0
IsSuitable es = (s : Sense) × HasSense es s

abbrev SomeNonzero : List (ℕ × ℚ) → ℕ → Type 0
SomeNonzero es i = (m : ℚ) × Contains es (i, m) × (m ≢ zero_ℚ)

module _ (P : Profile) (c : Certificate) (d : Condition) where
  abbrev T : StepTest → Type 0
  T = PassesStep P c d

  -- ---- the references of a sum
  abbrev IsNamed : ℕ × ℚ → Type 0
  IsNamed e = (e.0 < count c) × (e.1 ≢ zero_ℚ → IsTrue (is_live c (count c) e.0))

  reference_by : (e : ℕ × ℚ) (b : Bool) → ((b ≡ true) × (e.1 ≢ zero_ℚ))
      ⊎ ((b ≡ false) × (e.1 ≡ zero_ℚ))
      → ByRecursion T (if b then earlier e.0 ∷ live e.0 ∷ [] else earlier e.0 ∷ []) ↔ IsNamed e
  reference_by e b h = grind arith

  reference : (e : ℕ × ℚ) → All T (reference_tests e) ↔ IsNamed e
  reference e =
      let r = reference_by e (is_nonzero e) (nonzero_or_zero e) in
      (λ a. r.0 (recursion_from_All T (reference_tests e) a), λ n. All-from_recursion T (reference_tests e) (r.1 n))

  -- ---- the sums of a sum's first entries
  entries_pass : (front es : List (ℕ × ℚ)) → IsSuitable (entries c (front ++ es))
      → SumOfFits (entries c (front ++ es)) → All T (entry_tests front es)
  unfolding entry_tests
  entries_pass front [] s f = All-nil T
  entries_pass front (e ∷ es) s f =
      let one = front ++ e ∷ [] in
      let e1 : entries c (front ++ e ∷ es) ≡ entries c (one ++ es) =
      ap (entries c) (sym (append_assoc front (e ∷ []) es)) in
      let two : entries c (front ++ e ∷ es) ≡ entries c one ++ entries c es = e1
      ∙ map-append (λ (e : ℕ × ℚ). (e.1, constraint_at c e.0)) one es in
      All-cons T (suitable one) (fitting one ∷ entry_tests one es)
      (suitable_front (entries c one) (entries c es) (subst IsSuitable two s))
      (All-cons T (fitting one) (entry_tests one es)
      (fitting_front (entries c one) (entries c es) (subst SumOfFits two f))
      (entries_pass one es (subst IsSuitable e1 s) (subst SumOfFits e1 f)))

  entries_fit : (front es : List (ℕ × ℚ)) → SumOfFits (entries c front)
      → All T (entry_tests front es) → SumOfFits (entries c (front ++ es))
  unfolding entry_tests
  entries_fit front [] f a = subst (λ l. SumOfFits (entries c l)) (sym (append-nil front)) f
  entries_fit front (e ∷ es) f a =
      let one = front ++ e ∷ [] in
      let rest = All-tail T (suitable one) (fitting one ∷ entry_tests one es) a in
      subst (λ l. SumOfFits (entries c l)) (append_assoc front (e ∷ []) es)
      (entries_fit one es (All-head T (fitting one) (entry_tests one es) rest)
      (All-tail T (fitting one) (entry_tests one es) rest))

  -- ---- every reason
  abbrev Good : Reason → Type 0
  Good r = IsGoodStep P c (count c) r d

  -- a sum's entries name earlier constraints, those that count live ones, and the sum fits
  abbrev IsReady : List (ℕ × ℚ) → Type 0
  IsReady es = All (λ e. e.0 < count c) es
      × ((i : ℕ) → SomeNonzero es i → IsTrue (is_live c (count c) i)) × SumOfFits (entries c es)

  sum_of : (es : List (ℕ × ℚ)) (ts : List StepTest) → All T (sum_tests es ++ ts) → IsReady es × ByRecursion T ts
  sum_of es ts a =
      let r = all_parts T (sum_tests es) ts a in
      let s = all_parts T (flat_map reference_tests es) (entry_tests [] es) r.0 in
      let n = flat_all_of T reference_tests IsNamed (λ e. (reference e).0) es s.0 in (
        (
          All-weaker IsNamed (λ (e : ℕ × ℚ). e.0 < count c) (λ e n. n.0) es n,
          λ i h. (All-contains IsNamed es (i, h.0) n h.1).1 h.2,
          entries_fit [] es (λ j. (All-nil _, tt), (All-nil _, tt)) s.1,
        ),
        recursion_from_All T ts r.1,
      )

  sum_in : (es : List (ℕ × ℚ)) (ts : List StepTest) → IsReady es → IsSuitable (entries c es)
      → ByRecursion T ts → All T (sum_tests es ++ ts)
  sum_in es ts n s a = All-append T (sum_tests es) ts
      (All-append T (flat_map reference_tests es) (entry_tests [] es)
      (flat_all T reference_tests IsNamed (λ e. (reference e).1) es
      (λ i e l. (n.0 i e l, λ z. n.1 _ (_, Contains-get_or es i e l, z))))
      (entries_pass [] es s n.2))
      (All-from_recursion T ts a)

  good_of_tests : (r : Reason) → All T (step_tests r) → Good r
  good_of_tests asm a = record { earlier = tt; follows = tt; fits = tt; references = λ i h. absurd h }
  good_of_tests (lin es) a =
      let s = sum_of es (by_sum es ∷ []) a in
      record { earlier = s.0.0; follows = s.1.0; fits = s.0.2; references = s.0.1 }
  good_of_tests (rnd es) a =
      let s = sum_of es (roundable es ∷ by_rounding es ∷ []) a in
      record { earlier = s.0.0; follows = s.1.1.0; fits = s.0.2; references = s.0.1 }
  good_of_tests (uns i1 l1 i2 l2) a = record {
    earlier = (pass 0 (lit< tt), pass 2 (lit< tt), pass 4 (lit< tt), pass 6 (lit< tt));
    follows = (pass 8 (lit< tt), pass 9 (lit< tt), (pass 10 (lit< tt), pass 11 (lit< tt), pass 12 (lit< tt)));
    fits = tt;
    references =
        λ i h. elim h [
          | inl e ↦ at e (pass 1 (lit< tt))
          | inr h ↦
              elim h [
                | inl e ↦ at e (pass 3 (lit< tt))
                | inr h ↦
                    elim h [ inl e ↦ at e (pass 5 (lit< tt)) | inr e ↦ at e (pass 7 (lit< tt)) ]
              ]
        ];
  }
    where
      pass : (n : ℕ) → n < 13 → T (slice_index_or (step_tests (uns i1 l1 i2 l2)) n listed)
      pass n h = a n listed h

      at : {i j : ℕ} → i ≡ j → IsTrue (is_live c (count c) j) → IsTrue (is_live c (count c) i)
      at e l = subst (λ n. IsTrue (is_live c (count c) n)) (sym e) l
  good_of_tests sol a =
      let s = recursion_from_All T (step_tests sol) a in
      record { earlier = tt; follows = s.1.0; fits = tt; references = λ i h. absurd h }

  tests_of_good : (r : Reason) → Good r → All T (step_tests r)
  tests_of_good asm g = All-nil T
  tests_of_good (lin es) g = sum_in es (by_sum es ∷ []) (g.earlier, g.references, g.fits)
      (g.follows.0, g.follows.1) (g.follows, tt)
  tests_of_good (rnd es) g = sum_in es (roundable es ∷ by_rounding es ∷ [])
      (g.earlier, g.references, g.fits) (g.follows.0, g.follows.1)
      ((g.follows.0, g.follows.1, g.follows.2), (g.follows, tt))
  tests_of_good (uns i1 l1 i2 l2) g =
      let e = g.earlier in
      let f = g.follows in
      let live = g.references in
      All-from_recursion T (step_tests (uns i1 l1 i2 l2)) (
        e.0,
        (
          live i1 (inl refl),
          (
            e.1,
            (
              live l1 (inr (inl refl)),
              (
                e.2,
                (
                  live i2 (inr (inr (inl refl))),
                  (e.3, (live l2 (inr (inr (inr refl))), (f.0, (f.1, (f.2.0, (f.2.1, (f.2.2, tt))))))),
                ),
              ),
            ),
          ),
        ),
      )
  tests_of_good sol g = All-from_recursion T (step_tests sol) (let h = g.follows.1.0.1 in omega arith, (g.follows, tt))

  pub no_test_fails : (r : Reason) → FirstFailing (PassesStep P c d) (step_tests r) None ↔ IsGoodStep P c (count c) r d
  no_test_fails r = (
    λ f. good_of_tests r (none_all T (step_tests r) f),
    λ g. all_none T (step_tests r) (tests_of_good r g),
  )
