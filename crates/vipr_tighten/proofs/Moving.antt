-- A list whose element at a place is moved behind its first `kept`
use Rattle.std.proofs.Common.{◌≡◌, ℕ, ◌+◌, ◌-◌, ◌<◌, ◌≤◌, List, [], ◌∷◌, ◌++◌, take, drop, map}
use Rattle.std.proofs.Common.{length, get_or, None, arith, refl, sym, ◌∙◌, ap, ap₂, length-append}
use Rattle.std.proofs.Math.ListN.{set, length-set}
use Rattle.std.proofs.Math.Seq.{get_or-append_right, take-append-add}
use Rattle.std.proofs.lemmas.List.{get_or-take, get_or-drop, get_or-set_other, get_or_read_under}
use Rattle.std.proofs.lemmas.List.{length-drop, length-take-le, map_push, same_lists}
use Rattle.std.specs.List.{SwappedAt}
use Rattle.vipr_spec.specs.Certificate.{Derivation}
use Rattle.vipr_spec.specs.Tightened.{refers_to, referred_by, with_new_indices}
use Rattle.vipr_tighten.specs.Passes.{index_by, TakesOver}

with_first : {A : Type 0} (moved : A) (l : List A) → 0 < length l → set l 0 moved ≡ moved ∷ drop 1 l
with_first moved l h = grind arith

module _ {A : Type 0} (old now : List A) (kept place : ℕ) (behind : kept ≤ place)
    (there : place < length old) (size : length now ≡ length old)
    (swapped : SwappedAt old now kept place) where
  pub front_same : take kept now ≡ take kept old
  front_same = grind (arith, length-take-le, same_lists, get_or-take)

  pub found : (x : A) → x ≡ get_or (drop kept now) 0 x → x ≡ get_or old place x
  found x e = e ∙ get_or-drop kept now 0 x ∙ ap (λ n. get_or now n x) {x = kept + 0} {y = kept}
      (omega arith) ∙ swapped.0 x

  module _ (changed : List A) (moved : A) (as_long : length changed ≡ kept) where
    abbrev after : List A
    after = changed ++ set (drop kept now) 0 moved

    some : 0 < length (drop kept now)
    some = let e = length-drop kept now in omega arith

    pub after_front : take (kept + 1) after ≡ changed ++ moved ∷ []
    after_front =
        grind (
          arith,
          with_first moved (drop kept now) some,
          take-append-add changed (moved ∷ drop 1 (drop kept now)) 1,
        )

    pub after_left : drop (place + 1) after ≡ drop (place + 1) old
    after_left = grind (
      arith,
      length-drop,
      same_lists,
      get_or-drop,
      get_or-append_right,
      get_or-set_other,
      length-append,
      length-set,
    )

-- what is kept then
pub taken_over : {D : Type 0} (derived : D → Derivation) (first : ℕ) (table : List ℕ)
    (old now : List D) (kept place : ℕ) → kept ≤ place → place < length old
    → length now ≡ length old → SwappedAt old now kept place → (was moved : D)
    → was ≡ get_or (drop kept now) 0 was → derived moved
    ≡ record (with_new_indices (index_by first table) (derived was)) { last = None }
    → (changed : List D) → length changed ≡ kept → map derived changed ≡ referred_by
    (refers_to (derived moved).reason) (first + kept) first (map derived (take kept now))
    → (x : D) → x ≡ get_or old place x
    → TakesOver (with_new_indices (index_by first table) (derived x)) (first + kept) first
    (map derived (take kept old)) (map derived (take (kept + 1) (changed ++ set (drop kept now) 0 moved)))
taken_over derived first table old now kept place behind there size swapped was moved is_was d changed as_long r x e =
    let same : was ≡ x = found old now kept place behind there size swapped was is_was
    ∙ sym (get_or_read_under old place (length old) x was e there refl) in
    let is : derived moved ≡ record (with_new_indices (index_by first table) (derived x))
    { last = None } = grind arith in
    ap (map derived)
    (after_front old now kept place behind there size swapped changed moved as_long)
    ∙ map_push derived changed moved
    ∙ ap₂ (λ l y. l ++ y ∷ [])
    (r ∙ ap₂ (λ (y : Derivation) l. referred_by (refers_to y.reason) (first + kept) first
    (map derived l)) is (front_same old now kept place behind there size swapped)) is
