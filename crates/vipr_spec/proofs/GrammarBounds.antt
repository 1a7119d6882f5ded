-- Numbers, and the bounds of a claim
use Rattle.std.proofs.Common.{rules, ◌≡◌, ℕ, Bool, true, false, if◌then◌else◌, List, Option, Some}
use Rattle.std.proofs.Common.{None, Ok, Err, codes, refl, ap, arith}
use Rattle.std.specs.Str.{bytes_eq}
use Rattle.vipr_spec.specs.{ℚ, natural_after, natural_of, SpellsNumber, not_a_number}
use Rattle.vipr_spec.specs.{number_read, some_of, or_cause, number_of, bound_of, ReadsKind}
use Rattle.vipr_spec.specs.{KindsOfNumber, Grammar.SpellsBound}
use Rattle.vipr_spec.proofs.NumberReads.{number_sound, number_complete}
use Rattle.vipr_spec.proofs.GrammarSteps.{same_ok}
use Rattle.vipr_spec.proofs.GrammarTokens.{same_bytes, bytes_same}

pub number_is : ReadsKind number_of SpellsNumber
number_is t x = (λ e. number_sound t x (grind (arith, same_ok)), λ h. ap or_cause (number_complete t x h))

-- what is no number
abbrev pub IsNoNumber : List ℕ → Type 0
IsNoNumber t = number_read t ≡ Err not_a_number

pub no_lower : IsNoNumber (codes "-inf")
unfolding number_read natural_of natural_after
no_lower = refl

pub no_upper : IsNoNumber (codes "inf")
unfolding number_read natural_of natural_after
no_upper = refl

module _ (infinite : List ℕ) (none : IsNoNumber infinite) where
  bound_sound : (t : List ℕ) (o : Option ℚ) → bound_of infinite t ≡ Ok o → SpellsBound infinite t o
  unfolding bound_of
  bound_sound t o e = search (rules, number_is)

  bound_other : (t : List ℕ) (x : ℚ) → SpellsNumber t x → (b : Bool) → bytes_eq t infinite ≡ b
      → (if b then Ok None else some_of (number_of t)) ≡ Ok (Some x)
  bound_other t x h true e = grind (arith, same_bytes t infinite e, number_complete t x h)
  bound_other t x h false e = ap some_of ((number_is t x).1 h)

  bound_complete : (t : List ℕ) (o : Option ℚ) → SpellsBound infinite t o → bound_of infinite t ≡ Ok o
  unfolding bound_of
  bound_complete t o e = grind (arith, bytes_same, bound_other)

  pub bound_is : ReadsKind (bound_of infinite) (SpellsBound infinite)
  bound_is t o = (bound_sound t o, bound_complete t o)

pub kinds_of_number : KindsOfNumber
kinds_of_number = record {
  number = number_is;
  lower = bound_is (codes "-inf") no_lower;
  upper = bound_is (codes "inf") no_upper;
}
