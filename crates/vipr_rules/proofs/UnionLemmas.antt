-- What a sum's entries rest on, one entry after another.
use Rattle.std.proofs.Common.{◌≡◌, ◌≢◌, ℕ, zero, suc, ◌<◌, ◌⊎◌, Bool, true, false, ◌||◌, List, []}
use Rattle.std.proofs.Common.{◌∷◌, ◌++◌, get_or, Contains, refl, sym, ◌∙◌, subst, inl, inr, arith}
use Rattle.std.specs.FinSet.{FinSet, contains, union, empty, contains-union, contains-empty}
use Rattle.std.specs.{Cmp.nat_cmp_total, Ordering.nat_cmp, Prelude.◌↔◌, Prelude.IsTrue}
use Rattle.std.proofs.lemmas.List.Elements.{Contains-append_left, Contains-append_right}
use Rattle.std.proofs.lemmas.List.Elements.{Contains-append_cases}
use Rattle.vipr_spec.specs.Certificate.{Certificate, RestsOn}
use Rattle.vipr_spec.specs.{Fraction.ℚ, Fraction.zero_ℚ, Steps.SomeRestsOn}
use Rattle.vipr_rules.specs.Context.{IsSetOfAll}

-- the set has the assumptions that constraint i rests on
abbrev pub IsSetOf : Certificate → ℕ → FinSet nat_cmp → Type 0
IsSetOf c i s = (a : ℕ) → IsTrue (contains s a) ↔ RestsOn c i a

none_in_empty : (a : ℕ) → ¬ IsTrue (contains {R = nat_cmp} empty a)
none_in_empty a t = let e = contains-empty nat_cmp a in cc

pub IsSetOfAll-none : (c : Certificate) → IsSetOfAll c [] empty
IsSetOfAll-none c a = (λ t. absurd (none_in_empty a t), λ (e, h, n, r). absurd (let lt = h.1 in omega arith))

pub in_union : (s t : FinSet nat_cmp) (a : ℕ)
    → IsTrue (contains (union s t) a) ↔ (IsTrue (contains s a) ⊎ IsTrue (contains t a))
in_union s t a = (
  λ h. out (contains s a) (contains t a) (sym (contains-union nat_cmp_total s t a) ∙ h),
  λ h. contains-union nat_cmp_total s t a ∙ back (contains s a) (contains t a) h,
)
  where
    out : (b d : Bool) → (b || d) ≡ true → (b ≡ true) ⊎ (d ≡ true)
    out true d h = inl refl
    out false d h = inr h

    back : (b d : Bool) → (b ≡ true) ⊎ (d ≡ true) → (b || d) ≡ true
    back b d h = grind arith

module _ (c : Certificate) (before : List (ℕ × ℚ)) (e : ℕ × ℚ) (s : FinSet nat_cmp)
    (so_far : IsSetOfAll c before s) where
  earlier : (a : ℕ) → SomeRestsOn c before a → SomeRestsOn c (before ++ e ∷ []) a
  earlier a (d, h, m, r) = (d, Contains-append_left before (e ∷ []) d h, m, r)

  only : (d : ℕ × ℚ) → Contains (e ∷ []) d → d ≡ e
  only d (k, lt, at) = first k lt (sym at)
    where
      first : (k : ℕ) → k < 1 → d ≡ get_or (e ∷ []) k d → d ≡ e
      first zero lt at = at
      first (suc k) lt at = absurd (omega arith)

  -- an entry with the multiplier 0 adds nothing, nor does one whose constraint rests on nothing
  pub without_it : (e.1 ≢ zero_ℚ → (a : ℕ) → ¬ RestsOn c e.0 a) → IsSetOfAll c (before ++ e ∷ []) s
  without_it none a = (
    λ t. earlier a ((so_far a).0 t),
    λ (d, h, m, r). (so_far a).1 (sooner d m r (Contains-append_cases before (e ∷ []) d h)),
  )
    where
      sooner : (d : ℕ × ℚ) → d.1 ≢ zero_ℚ → RestsOn c d.0 a
          → Contains before d ⊎ Contains (e ∷ []) d → SomeRestsOn c before a
      sooner d m r (inl h) = (d, h, m, r)
      sooner d m r (inr h) =
          let same = only d h in
          absurd (none (subst (λ (p : ℕ × ℚ). p.1 ≢ zero_ℚ) same m) a (subst (λ (p : ℕ × ℚ). RestsOn c p.0 a) same r))

  -- another one adds what its constraint rests on
  pub with_it : e.1 ≢ zero_ℚ → (t : FinSet nat_cmp) → IsSetOf c e.0 t → IsSetOfAll c (before ++ e ∷ []) (union s t)
  with_it some t of a = (
    λ h. out ((in_union s t a).0 h),
    λ (d, h, m, r). (in_union s t a).1
        (back d m r (Contains-append_cases before (e ∷ []) d h)),
  )
    where
      out : IsTrue (contains s a) ⊎ IsTrue (contains t a) → SomeRestsOn c (before ++ e ∷ []) a
      out (inl h) = earlier a ((so_far a).0 h)
      out (inr h) = (e, Contains-append_right before (e ∷ []) e (zero, omega arith, refl), some, (of a).0 h)

      back : (d : ℕ × ℚ) → d.1 ≢ zero_ℚ → RestsOn c d.0 a → Contains before d ⊎ Contains (e ∷ []) d
          → IsTrue (contains s a) ⊎ IsTrue (contains t a)
      back d m r (inl h) = inl ((so_far a).1 (d, h, m, r))
      back d m r (inr h) = inr ((of a).1 (subst (λ (p : ℕ × ℚ). RestsOn c p.0 a) (only d h) r))
