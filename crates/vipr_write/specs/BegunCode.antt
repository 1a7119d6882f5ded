-- The beginning of a text is stored as the tuple of its parts
use Rattle.std.specs.Prelude.{ℕ, List, ◌≡◌, refl, Bool, true, false}
use Rattle.std.specs.Coded.{Coded, code_by, coded×, coded_ℕ, coded_bool, coded_list}
use Rattle.std.proofs.Common.{ap}
use Rattle.vipr_spec.specs.Constraint.{Row}
use Rattle.vipr_cert.specs.Codes.{row_code}
use Rattle.vipr_write.specs.declared.form.Form.TheVariants.{Canonical, Compact}
use Rattle.vipr_write.specs.{Folded.Begun, declared.form.Form.Form}

abbrev is_compact : Form → Bool
is_compact Canonical = false
is_compact Compact = true

abbrev form_from : Bool → Form
form_from false = Canonical
form_from true = Compact

pub form_again : (f : Form) → form_from (is_compact f) ≡ f
form_again Canonical = refl
form_again Compact = refl

abbrev parts_of : Begun → Bool × (Row × List ℕ)
parts_of b = (is_compact b.form, (b.objective, b.bytes))

abbrev begun_from : Bool × (Row × List ℕ) → Begun
begun_from p = record { form = form_from p.0; objective = p.1.0; bytes = p.1.1 }

pub begun_again : (b : Begun) → begun_from (parts_of b) ≡ b
begun_again b = ap (λ (f : Form). record b { form = f }) (form_again b.form)

abbrev pub begun_code : Coded Begun
begun_code =
    code_by (Bool × (Row × List ℕ)) (coded× coded_bool (coded× row_code (coded_list coded_ℕ)))
    parts_of begun_from begun_again
