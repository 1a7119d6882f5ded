-- What the parts of a text give is what is read from it, and what it spells.
use Rattle.std.proofs.Common.{arith, ◌≡◌, ℕ, Bool, List, Result, Ok, sym, ◌∙◌, ap}
use Rattle.std.specs.{Prelude.◌↔◌, Str.Parse.starts_with_minus, Str.Parse.without_leading_sign}
use Rattle.vipr_spec.specs.Number.{SpellsNumber, number_read, of_parts, top_of, bottom_of}
use Rattle.vipr_spec.specs.{Digits.natural_of, Fraction.ℚ}
use Rattle.vipr_spec.proofs.Laws.{number_sound, number_complete}
use Rattle.vipr_frac.specs.{Reading.as_read, declared.number.NumberError.NumberError}

pub read_parts : (bs cs : List ℕ) (is_negative : Bool) (r : Result ℚ NumberError)
    → is_negative ≡ starts_with_minus bs → cs ≡ without_leading_sign bs
    → as_read r ≡ of_parts is_negative (natural_of (top_of cs)) (natural_of (bottom_of cs))
    → as_read r ≡ number_read bs
unfolding number_read
read_parts bs cs is_negative r e f h = grind arith

same_number : (r : Result ℚ NumberError) (x : ℚ) → as_read r ≡ Ok x → r ≡ Ok x
same_number r x e = grind arith

pub spelled : (bs : List ℕ) (r : Result ℚ NumberError) → as_read r ≡ number_read bs → (x : ℚ)
    → (r ≡ Ok x) ↔ SpellsNumber bs x
spelled bs r h x = (λ e. number_sound bs x (sym h ∙ ap as_read e), λ s. same_number r x (h ∙ number_complete bs x s))
