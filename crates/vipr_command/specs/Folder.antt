-- What the files of a folder hold, before and after a text replaces one.
use Rattle.std.specs.Prelude.{⊤, ◌≡◌, ◌⊎◌, ℕ, Bool, true, false, List, [], length, Option, Some}
use Rattle.std.specs.Prelude.{None, IfSome, option_map, Result, Ok, Err}
use Rattle.std.specs.Option.{is_none}
use Rattle.vipr_spec.specs.Input.{Input}
use Rattle.vipr_bytes.specs.{Output.Output, declared.write.WriteFailed.WriteFailed}

-- what is known of the files of a folder
pub record Files : Type 0 where
  -- what a name holds, if that is known: a text, or nothing that can be opened
  pub holds : List ℕ → Option (Option Input)
  -- whether what replaces the text of the one name replaces that of the other
  pub same : List ℕ → List ℕ → Bool
  -- how many bytes a text for a name can have, if that is known
  pub room : List ℕ → Option ℕ
  -- whether a text for a name may be refused
  pub may_refuse : List ℕ → Bool
  -- whether it may be that the name has the text all the same, since its disk failed later
  pub may_fail_late : List ℕ → Bool

-- a text of which no read fails
abbrev pub whole_input : List ℕ → Input
whole_input text = record { bytes = text; fails = false }

-- the text that is known to be there
abbrev pub text_held : Option (Option Input) → Option Input
text_held None = None
text_held (Some held) = held

-- what was opened is the text, or nothing can be opened
abbrev pub IsFileOf : {S E : Type 0} → (S → Option Input) → Option Input → Result S E → Type 0
IsFileOf input (Some i) (Ok s) = input s ≡ Some i
IsFileOf input (Some i) (Err e) = ⊥
IsFileOf input None (Ok s) = ⊥
IsFileOf input None (Err e) = ⊤

-- a text that is begun for a name has nothing yet, if it is known what the name holds
abbrev pub begun_for : Files → List ℕ → Option Output
begun_for files name =
    option_map (λ _. record { accepted = []; room = files.room name }) (files.holds name)

-- each name holds what it held
abbrev pub Unchanged : Files → Files → Type 0
Unchanged old new = (n : List ℕ) → new.holds n ≡ old.holds n

-- each name of another file holds what it held
abbrev pub UnchangedBut : List ℕ → Files → Files → Type 0
UnchangedBut name old new = (n : List ℕ) → old.same name n ≡ false → new.holds n ≡ old.holds n

-- each name of this file holds the text, if it is known what it held
abbrev pub Gets : Files → Files → List ℕ → List ℕ → Type 0
Gets old new name text = (n : List ℕ) → old.same name n ≡ true
    → IfSome (old.holds n) (λ _. new.holds n ≡ Some (Some (whole_input text)))

-- the names of this file hold the accepted bytes, if these are known, and each other what it held
abbrev pub IsReplaced : Files → Files → List ℕ → Option Output → Type 0
IsReplaced old new name out = (old.same name name ≡ true)
    × IfSome out (λ o. Gets old new name o.accepted) × UnchangedBut name old new

-- what became of a text that was accepted whole: it was put there, or refused
abbrev pub Replaces : Files → Files → List ℕ → Option Output → Result (Unit {0}) WriteFailed
    → Type 0
Replaces old new name out (Ok u) = IsReplaced old new name out
Replaces old new name out (Err e) = IfSome out (λ o. e.accepted ≡ length o.accepted)
    × (((old.may_refuse name ≡ true) × Unchanged old new)
    ⊎ ((old.may_fail_late name ≡ true) × IsReplaced old new name out))

-- ---- two files, each under some names

-- the text of the file with a name, by whether the name is of each: one of both is the first one's
abbrev pub text_by : {A : Type 0} → Bool → Bool → A → A → Option A
text_by true _ first second = Some first
text_by false true first second = Some second
text_by false false first second = None

-- whether two names, of which the same is said, are of one file
abbrev pub is_same : Bool → Bool → Bool → Bool → Bool
is_same true _ true _ = true
is_same false true false true = true
is_same _ _ _ _ = false

-- these texts, of which no read fails, under the names that are theirs; there is no other
abbrev pub two_files : (List ℕ → Bool) → List ℕ → (List ℕ → Bool) → List ℕ → Files
two_files is_first first is_second second = record {
  holds = λ n. Some (option_map whole_input (text_by (is_first n) (is_second n) first second));
  same = λ m n. is_same (is_first m) (is_second m) (is_first n) (is_second n);
  room = λ _. None;
  may_refuse = λ n. is_none (text_by (is_first n) (is_second n) first second);
  may_fail_late = λ _. false;
}
