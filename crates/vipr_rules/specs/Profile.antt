-- The profile of the program as that of the definitions, and a code for the latter
use Rattle.std.specs.Prelude.{◌≡◌, Bool, true, false, refl}
use Rattle.std.specs.Coded.{Coded, code_by, coded_bool}
use Rattle.vipr_spec.specs.Constraint as is
use Rattle.vipr_rules.specs.declared.profile.Profile.{Profile}
use Rattle.vipr_rules.specs.declared.profile.Profile.TheVariants.{One, Two}

abbrev pub profile_of : Profile → is.Profile
profile_of One = is.one
profile_of Two = is.two

abbrev is_one : is.Profile → Bool
is_one is.one = true
is_one is.two = false

abbrev profile_from : Bool → is.Profile
profile_from true = is.one
profile_from false = is.two

pub profile_again : (P : is.Profile) → profile_from (is_one P) ≡ P
profile_again is.one = refl
profile_again is.two = refl

abbrev pub profile_code : Coded is.Profile
profile_code = code_by Bool coded_bool is_one profile_from profile_again
