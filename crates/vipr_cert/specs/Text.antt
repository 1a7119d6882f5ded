-- How claims and names are printed
use Rattle.std.specs.Prelude.{ℕ, List, ◌++◌, Option, Some, None, codes, encode_utf8_all}
use Rattle.bstr.specs.Escape.{escaped}
use Rattle.vipr_spec.specs.{Fraction.ℚ, Number.number_text}
use Rattle.vipr_cert.specs.declared.items.Claim.{Claim}
use Rattle.vipr_cert.specs.declared.items.Claim.TheVariants.{Infeas, Range}

-- a bound, and the word for one that is infinite
abbrev pub bound_text : List ℕ → Option ℚ → List ℕ
bound_text infinite None = infinite
bound_text infinite (Some x) = number_text x

abbrev pub claim_text : Claim → List ℕ
claim_text Infeas = codes "infeas"
claim_text (Range lower upper) = codes "range "
    ++ (bound_text (codes "-inf") lower ++ (codes " " ++ bound_text (codes "inf") upper))

-- printable bytes as they are, and others escaped
abbrev pub name_text : List ℕ → List ℕ
name_text name = encode_utf8_all (escaped name)
