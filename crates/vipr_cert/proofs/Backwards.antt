-- Derivations that name earlier constraints alone, one after the other and all at once
use Rattle.std.proofs.Common.{◌≡◌, ℕ, ◌+◌, ◌-◌, ◌<◌, ◌≤◌, List, [], ◌∷◌, ◌++◌, map, length, get_or}
use Rattle.std.proofs.Common.{Option, Some, None, arith, refl, sym, ap, subst, ◌∙◌}
use Rattle.std.proofs.lemmas.List.{get_or-map, length-map, get_or_past}
use Rattle.std.proofs.{Math.ListN.get_or-append, Math.Seq.get_or-append_right}
use Rattle.std.specs.{FinMap.empty, Prelude.◌↔◌}
use Rattle.vipr_spec.specs.Certificate as is
use Rattle.vipr_spec.specs.{Certificate.NamesEarlier, Fraction.zero_ℚ, Steps.RefersBack}
use Rattle.vipr_spec.specs.Constraint as linear
use Rattle.vipr_spec.proofs.Laws.{reasons_listed}
use Rattle.vipr_cert.specs.{Earlier.reason_in, Earlier.NameEarlierFrom, Items.reason_of}
use Rattle.vipr_cert.specs.{Items.derivation_of, declared.items.Derivation.Derivation}

pub reason_is : (ds : List Derivation) (i : ℕ) (d : Derivation) → i < length ds → d ≡ get_or ds i d
    → reason_in ds i ≡ Some (reason_of d.reason)
reason_is ds i d l is = get_or-map (λ (d : Derivation). Some (reason_of d.reason)) ds i d None l
    ∙ ap (λ (d : Derivation). Some (reason_of d.reason)) (sym is)

pub none_yet : (from : ℕ) (ds : List Derivation) → NameEarlierFrom from ds 0
none_yet from ds k l = absurd (omega (arith, l))

module _ (from : ℕ) (ds : List Derivation) (i : ℕ) (d : Derivation) (l : i < length ds) (is : d ≡ get_or ds i d) where
  pub one_earlier : NameEarlierFrom from ds i → NamesEarlier (from + i) (Some (reason_of d.reason))
      → NameEarlierFrom from ds (i + 1)
  one_earlier before this k less = grind (arith, reason_is)

  pub this_one : NameEarlierFrom from ds (length ds) → NamesEarlier (from + i) (Some (reason_of d.reason))
  this_one all = subst (NamesEarlier (from + i)) (reason_is ds i d l is) (all i l)

pub up_to : (from : ℕ) (ds : List Derivation) (i : ℕ) → length ds ≤ i → NameEarlierFrom from ds i
    → NameEarlierFrom from ds (length ds)
up_to from ds i far all k l = all k (omega (arith, far, l))

-- the whole certificate
module _ (c : is.Certificate) (ds : List Derivation) (seen : c.derivations ≡ map derivation_of ds) where
  abbrev given : List (Option is.Reason)
  given = map (λ a. None) c.problem.constraints

  size : length given ≡ length c.problem.constraints
  size = length-map c.problem.constraints (λ a. None)

  derived : map (λ (d : is.Derivation). Some d.reason) c.derivations ≡ map (λ d. Some (reason_of d.reason)) ds
  derived = ap (map (λ (d : is.Derivation). Some d.reason)) seen ∙ twice ds
    where
      twice : (ds : List Derivation) → map (λ (d : is.Derivation). Some d.reason)
          (map derivation_of ds) ≡ map (λ d. Some (reason_of d.reason)) ds
      twice [] = refl
      twice (d ∷ ds) = ap (λ l. Some (reason_of d.reason) ∷ l) (twice ds)

  listed : (k : ℕ)
      → is.reason_at c k ≡ get_or
      (given ++ map (λ (d : is.Derivation). Some d.reason) c.derivations) k None
  listed k = reasons_listed c k

  abbrev derived_in : ℕ → Option is.Reason
  derived_in i = get_or (map (λ (d : is.Derivation). Some d.reason) c.derivations) i None

  reason_behind : (k : ℕ) → length given ≤ k → is.reason_at c k ≡ derived_in (k - length given)
  reason_behind k h = listed k
      ∙ get_or-append_right given (map (λ (d : is.Derivation). Some d.reason) c.derivations) k None
      h

  same_in : (i : ℕ) → derived_in i ≡ reason_in ds i
  same_in i = ap (λ l. get_or l i None) derived

  given_none : (k : ℕ) → k < length given → is.reason_at c k ≡ None
  given_none k h = listed k
      ∙ get_or-append given (map (λ (d : is.Derivation). Some d.reason) c.derivations) None k h
      ∙ get_or-map (λ (a : is.Named linear.Constraint). None) c.problem.constraints k
      (record { name = []; item = record { row = empty; sense = linear.equal; bound = zero_ℚ } })
      None (let s = size in omega (arith, h, s))

  past : (k : ℕ) → length given + length ds ≤ k → is.reason_at c k ≡ None
  past k h =
      let e = size in
      let n : length (map (λ d. Some (reason_of d.reason)) ds) ≡ length ds =
      length-map ds (λ d. Some (reason_of d.reason)) in
      reason_behind k (omega (arith, h)) ∙ same_in (k - length given)
      ∙ get_or_past (map (λ d. Some (reason_of d.reason)) ds) (k - length given) None
      (omega (arith, h, n))

  from_here : (k : ℕ) → length given ≤ k → NamesEarlier (length given + (k - length given))
      (reason_in ds (k - length given)) → NamesEarlier k (is.reason_at c k)
  from_here k h n = grind (arith, reason_behind, same_in)

  earlier_all : NameEarlierFrom (length given) ds (length ds) → RefersBack c
  earlier_all all k = grind (arith, given_none, from_here, past)

  earlier_each : RefersBack c → NameEarlierFrom (length given) ds (length ds)
  earlier_each refers k l = grind (arith, reason_behind (length given + k) (omega arith), same_in k)

  pub back : NameEarlierFrom (length c.problem.constraints) ds (length ds) ↔ RefersBack c
  back = subst (λ n. NameEarlierFrom n ds (length ds) ↔ RefersBack c) size (earlier_all, earlier_each)
