-- Short entries
use Rattle.std.proofs.Common.{◌≡◌, ℕ, suc, ◌+◌, ◌*◌, ◌<◌, ℤ, pos, Bool, List, [], ◌∷◌, ◌++◌, map, take}
use Rattle.std.proofs.Common.{length, get_or, arith, sym, ap, ap₂, ◌∙◌, rules}
use Rattle.std.specs.{Ordering.int_eq}
use Rattle.std.proofs.lemmas.List.{length-map, map_push, take_more}
use Rattle.vipr_spec.specs.{Certificate.by_entries, Fraction.ℚ, Fraction.over, Number.number_text}
use Rattle.vipr_spec.proofs.Laws.{is_one, is_over, is_self, parts_of}
use Rattle.vipr_write.specs.{Canonical.reference_words, Lines.parts_text, StepReasons.multiplier_of}
use Rattle.vipr_write.specs.{StepReasons.entry_of, declared.short_entry.ShortEntry.ShortEntry}
use Rattle.vipr_write.proofs.Weighing.{pairs_length}

over_self : (x : ℚ) → over x.numer x.denom ≡ x
over_self x = is_one _ _ _ _ (is_over x.numer x.denom x.lowest.positive) (is_self x)

-- these are its parts
pub short_is : (x : ℚ) (p : ℤ) (q : ℕ) → p ≡ x.numer → q ≡ x.denom → over p q ≡ x
short_is x p q n d = ap₂ over n d ∙ over_self x

-- a multiplier is 0 where its numerator is
pub zero_short : (e : ShortEntry) (b : Bool) → b ≡ int_eq e.numer (pos 0)
    → b ≡ int_eq (multiplier_of e).numer (pos 0)
zero_short e b t = t ∙ ap (λ n. int_eq n (pos 0)) (sym (parts_of e.numer e.denom e.lowest).0)

-- its text is that of its parts
pub short_text : (e : ShortEntry) → parts_text e.numer e.denom ≡ number_text (multiplier_of e)
short_text e = let parts = parts_of e.numer e.denom e.lowest in sym (ap₂ parts_text parts.0 parts.1)

-- the words of a count and of short entries
pub short_length : (es : List ShortEntry)
    → 2 + 2 * length es ≡ suc (length (reference_words (by_entries (map entry_of es))))
short_length es = let p = pairs_length (map entry_of es) in let s = length-map es entry_of in omega (arith, p, s)

-- one more of the short entries
pub one_more : (short new : List ShortEntry) (es : List (ℕ × ℚ)) (i : ℕ) (e : ShortEntry)
    (x : ℕ × ℚ) → i < length es → x ≡ get_or es i x → new ≡ short ++ e ∷ [] → entry_of e ≡ x
    → map entry_of short ≡ take i es → map entry_of new ≡ take (i + 1) es
one_more short new es i e x h is longer of so_far = search (rules, map_push, take_more)
