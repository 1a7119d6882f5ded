-- What is known of an input.
use Rattle.std.specs.Prelude.{⊤, ◌≡◌, Option, Result}
use Rattle.vipr_spec.specs.Verdict.{IsAnswer, IsExplained}
use Rattle.vipr_spec.specs.{Constraint.Profile, Input.Input, Reading.certificate_read}
use Rattle.vipr_bytes.specs.Known.{IfKnown, text_of}
use Rattle.vipr_check.specs.View.{IfVerified, IsOfProof, Says}
use Rattle.vipr_check.specs.{Run.SaysInDetail, Run.verdict_in, declared.detail.Detail.Detail}
use Rattle.vipr_check.specs.{declared.verdict.Fault.Fault, declared.verdict.Verdict.Verdict}
use Rattle.vipr_tighten.specs.Tightens.{KindOfText, any_kind, kind_read}
use Rattle.vipr_command.specs.Show.{Kind, any_text, text_read}

-- What it can give, which verdict it can have by a profile, and with which detail, which
-- certificate it can spell, and of which proof by a profile it can be.
pub record KnownInput : Type 1 where
  pub Gives : Input → Type 0
  pub Checked : Profile → Result Verdict Fault → Type 0
  pub Explained : Profile → Result (Verdict × Detail) Fault → Type 0
  pub kind : Kind
  pub proof : Profile → KindOfText

-- an input of which nothing is known: what is verified is the report of some proof
abbrev pub unknown_input : KnownInput
unknown_input = record {
  Gives = λ _. ⊤;
  Checked = λ P r. IfVerified r (IsOfProof P);
  Explained = λ P r. IfVerified (verdict_in r) (IsOfProof P);
  kind = any_text;
  proof = λ _. any_kind;
}

-- one that gives these bytes
abbrev pub known_by : Input → KnownInput
known_by i =
    record {
      Gives = λ j. j ≡ i;
      Checked = λ P. Says (IsAnswer P (text_of i));
      Explained = λ P. SaysInDetail (IsExplained P (text_of i));
      kind = text_read (certificate_read (text_of i));
      proof = λ P. kind_read P (text_of i);
    }

-- This is so of an input of which nothing is known, and so of a source's bytes if they are known.
abbrev pub OfInput : Option Input → (KnownInput → Type 0) → Type 0
OfInput source P = P unknown_input × IfKnown source (λ i. P (known_by i))
