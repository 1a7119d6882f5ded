-- What a verdict on bytes in memory says of them.
use Rattle.std.proofs.Common.{◌≡◌, ◌↔◌, ◌<◌, ◌^◌, ℕ, List, length, Result, Ok, Err, Some, Bool, false}
use Rattle.std.proofs.Common.{IfOk, IsTrue, refl, subst}
use Rattle.vipr_check.specs.declared.verdict.Verdict.TheVariants.{Verified, Refused}
use Rattle.vipr_check.specs.{Checks.Checks, Promises.SpellsProof, Promises.SpellsTruth}
use Rattle.vipr_check.specs.{declared.verdict.Fault.Fault, declared.verdict.Refusal.Refusal}
use Rattle.vipr_check.specs.{declared.verdict.Report.Report, declared.verdict.Verdict.Verdict}
use Rattle.vipr_spec.specs.Certificate.{Certificate, IsProof}
use Rattle.vipr_spec.specs.{Constraint.Profile, Constraint.one, Grammar.Spells, Short.Means}

abbrev pub Answers : List ℕ → Result Verdict Fault → Type 0
Answers bytes result = Checks (Some (record { bytes = bytes; fails = false })) result

-- the answer on the bytes, as the one that was matched
abbrev pub on : (text bytes : List ℕ) (r : Result Verdict Fault) (v w : Verdict) → bytes ≡ text
    → r ≡ Ok v → v ≡ w
    → Checks (Some (record { bytes = bytes; fails = false })) r → Answers text (Ok w)
on text bytes r v w same is_v is_w c =
    let as_v = subst (λ x. Answers bytes x) is_v c in
    let as_w = subst (λ x. Answers bytes (Ok x)) is_w as_v in
    subst (λ x. Answers x (Ok w)) same as_w

pub verified : (bytes : List ℕ) (report : Report) → length bytes < 2 ^ 64
    → Answers bytes (Ok (Verified report)) → SpellsProof bytes
verified bytes report short c = let p = c.proof short refl in (p.0, p.1.this, p.2)

pub true_claim : (bytes : List ℕ) (report : Report) → length bytes < 2 ^ 64
    → Answers bytes (Ok (Verified report)) → SpellsTruth bytes
true_claim bytes report short c = c.sound short refl

pub refused : (bytes : List ℕ) (refusal : Refusal) → length bytes < 2 ^ 64
    → Answers bytes (Ok (Refused refusal)) → SpellsProof bytes → ⊥
refused bytes refusal short c p = c.every short refl p.0 p.1 p.2

-- what a yes says, if it says that the bytes mean what they claim
pub if_yes : {E : Type 0} (bytes : List ℕ) (r : Result Bool E) (Q : Type 0)
    → ((P : Profile) (bytes : List ℕ) (c : Certificate) → Spells bytes c → IsProof P c → Means bytes)
    → (Means bytes → Q)
    → IfOk r (λ v. IsTrue v ↔ SpellsProof bytes) → IfOk r (λ v. IsTrue v → Q)
if_yes bytes (Ok v) Q mean follows h = λ t. let p = h.0 t in follows (mean one bytes p.0 p.1 p.2)
if_yes bytes (Err e) Q mean follows h = tt
