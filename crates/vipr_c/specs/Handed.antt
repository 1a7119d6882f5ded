-- What a call hands to a program in C: a status, and a text in a buffer
use Rattle.std.specs.Prelude.{◌≡◌, ◌⊎◌, ℕ, ℤ, pos, ◌==◌, if◌then◌else◌, List, [], ◌++◌, length}
use Rattle.std.specs.Prelude.{take, drop, Option, Some, None, Result, Ok, codes, false, set}
use Rattle.vipr_spec.specs.Constraint as is
use Rattle.vipr_spec.specs.{Input.Input, Verdict.IsExplained}
use Rattle.vipr_bytes.specs.Known.{text_of, IfKnown}
use Rattle.vipr_rules.specs.declared.profile.Profile.TheVariants.{One, Two}
use Rattle.vipr_rules.specs.{Profile.profile_of, declared.profile.Profile.Profile}
use Rattle.vipr_check.specs.{Checks.ChecksIn, Explanation.explained_text, Run.SaysInDetail}
use Rattle.vipr_check.specs.{Run.verdict_in, Text.verdict_text, declared.detail.Detail.Detail}
use Rattle.vipr_check.specs.{declared.verdict.Fault.Fault, declared.verdict.Verdict.Verdict}
use Rattle.vipr_explain.specs.Page.{IsPage}
use Rattle.vipr_c.specs.AnswerOf.{status_of, answer_of_verdict, no_answer}
use Rattle.vipr_c.specs.declared.answer.Answer.{Answer}

-- ---- the buffer

-- a buffer with the first bytes of a text in front, as many as there is room for, and what it held
-- behind them
abbrev pub filled : List ℕ → List ℕ → List ℕ
filled room text = take (length room) text ++ drop (length text) room

-- the text is in the buffer as far as there is room, and the length is that of the whole text
abbrev pub Fills : List ℕ → List ℕ → List ℕ → ℕ → Type 0
Fills text old new n = (new ≡ filled old text) × (n ≡ length text)

-- a buffer with a word in front as far as there is room, and a 0 behind it if there is room
abbrev pub ended : List ℕ → List ℕ → List ℕ
ended room word = set (filled room word) (length word) 0

-- ---- the profile

abbrev pub profile_numbered : ℕ → Option Profile
profile_numbered n = if n == 1 then Some One else (if n == 2 then Some Two else None)

-- ---- the lines

-- what is read: these bytes, and no read fails
abbrev pub in_memory : List ℕ → Option Input
in_memory bytes = Some (record { bytes = bytes; fails = false })

-- memory was refused: 3, and no text
abbrev pub HasNoMemory : ℤ → List ℕ → Type 0
HasNoMemory status text = (status ≡ pos 3) × (text ≡ [])

-- there is no such profile: 2, and no text
abbrev pub HasNoProfile : ℤ → List ℕ → Type 0
HasNoProfile status text = (status ≡ pos 2) × (text ≡ [])

abbrev pub report_lines : Verdict → List ℕ
report_lines v = verdict_text v ++ codes "\n"

-- the lines of the verdict on these bytes, with its status and its numbers
abbrev pub IsReport : List ℕ → is.Profile → ℤ → List ℕ → Answer → Type 0
IsReport bytes P status text answer = (v : Verdict) × ChecksIn P (in_memory bytes) (Ok v)
    × (status ≡ status_of (Ok v)) × (text ≡ report_lines v) × (answer ≡ answer_of_verdict (Ok v))

-- the lines of the verdict with those of its detail
abbrev pub IsExplanation : List ℕ → is.Profile → ℤ → List ℕ → Type 0
IsExplanation bytes P status text = (v : Verdict) × (x : Detail)
    × ChecksIn P (in_memory bytes) (Ok v)
    × IfKnown (in_memory bytes) (λ i. SaysInDetail (IsExplained P (text_of i)) (Ok (v, x)))
    × (status ≡ status_of (Ok v)) × (text ≡ explained_text v x)

-- these lines, and a page behind them
abbrev pub IsLong : List ℕ → is.Profile → ℤ → List ℕ → Type 0
IsLong bytes P status text = (lines more : List ℕ) × IsExplanation bytes P status lines
    × IsPage more × (text ≡ lines ++ more)

-- the verdict on these bytes with its detail, if memory isn't refused
pub record GivesDetail (bytes : List ℕ) (P : is.Profile) (r : Result (Verdict × Detail) Fault)
    : Type 0 where
  pub verdict : ChecksIn P (in_memory bytes) (verdict_in r)
  pub detail : IfKnown (in_memory bytes) (λ i. SaysInDetail (IsExplained P (text_of i)) r)

-- the lines, status and numbers by the rules of a profile
abbrev pub ReportsBy : Option Profile → List ℕ → ℤ → List ℕ → Answer → Type 0
ReportsBy (Some p) bytes status text answer = IsReport bytes (profile_of p) status text answer
    ⊎ (HasNoMemory status text × (answer ≡ no_answer))
ReportsBy None bytes status text answer = HasNoProfile status text × (answer ≡ no_answer)

-- the explanation and its status by the rules of a profile
abbrev pub ExplainsBy : Option Profile → List ℕ → ℤ → List ℕ → Type 0
ExplainsBy (Some p) bytes status text =
    IsExplanation bytes (profile_of p) status text ⊎ HasNoMemory status text
ExplainsBy None bytes status text = HasNoProfile status text

-- the same with a page behind it
abbrev pub ExplainsAtLength : Option Profile → List ℕ → ℤ → List ℕ → Type 0
ExplainsAtLength (Some p) bytes status text =
    IsLong bytes (profile_of p) status text ⊎ HasNoMemory status text
ExplainsAtLength None bytes status text = HasNoProfile status text
