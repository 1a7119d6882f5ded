-- The texts of the example
use Rattle.std.proofs.Common.{◌≡◌, [], ◌∷◌, pos, negsuc}
use Rattle.std.specs.FinMap.{entries, entries-from_sorted}
use Rattle.std.specs.{FinSet.contains-from_list_nat, Fmt.digits, Ordering.nat_cmp}
use Rattle.vipr_spec.specs.{Fraction.over, Fraction.whole, Gcd.gcd}
use Rattle.vipr_write.specs.Example.{nothing, second, two_terms, sample, sample_text}
use Rattle.vipr_write.specs.Example.{sample_compact}
use Rattle.vipr_write.specs.{Canonical.canonical_text, Forms.compact_text}

no_entries : entries nothing ≡ []
unfolding nothing
no_entries = entries-from_sorted nat_cmp [] tt

one_entry : entries second ≡ (1, whole (pos 1)) ∷ []
unfolding second
one_entry = entries-from_sorted nat_cmp ((1, whole (pos 1)) ∷ []) tt

two_entries : entries two_terms ≡ (0, over (pos 2) 4) ∷ (1, whole (negsuc 2)) ∷ []
unfolding two_terms
two_entries = entries-from_sorted nat_cmp ((0, over (pos 2) 4) ∷ (1, whole (negsuc 2)) ∷ []) tt

pub example_is : canonical_text sample ≡ sample_text
unfolding over gcd digits
example_is = simp (no_entries, one_entry, two_entries, contains-from_list_nat)

pub compact_is : compact_text sample ≡ sample_compact
unfolding over gcd digits
compact_is = simp (no_entries, one_entry, two_entries, contains-from_list_nat)
