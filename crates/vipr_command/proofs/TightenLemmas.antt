-- What `tighten` answers
use Rattle.std.proofs.Common.{◌≡◌, Bor, List, ℕ, Option, Some, None, Result, Err, option_map}
use Rattle.std.proofs.Common.{refl, sym, subst}
use Rattle.vipr_spec.specs.{Constraint.Profile, Input.Input}
use Rattle.vipr_bytes.specs.Output.{Output}
use Rattle.vipr_tighten.specs.Tightens.{KindOfText, TightensAs, TightensText}
use Rattle.vipr_write.specs.declared.form.Form.{Form}
use Rattle.vipr_tighten.specs.declared.outcome.Outcome.{Outcome}
use Rattle.vipr_tighten.specs.declared.outcome.TightenFault.{TightenFault}
use Rattle.vipr_command.specs.Tighten.{EndsAs, Settles, WritesFile, WritesTightened}
use Rattle.vipr_command.specs.Tighten.{tighten_fault_for}
use Rattle.vipr_command.specs.{Folder.Files, Folder.begun_for, Known.OfInput, Run.PrintsTightened}
use Rattle.vipr_command.specs.{Run.Outside, Run.outside_of, declared.ending.Ending.Ending}
use Rattle.vipr_command.specs.{declared.fault.CommandFault.CommandFault}
use Rattle.vipr_command.proofs.{InputLemmas.of_input, ShowLemmas.stays}

module _ (P : Profile) (F : Form) (source : Option Input) where
  -- what is known of the text
  pub known : (old new : Option Output) (r : Result Outcome TightenFault)
      → TightensAs P F source old new r
      → OfInput source (λ k. TightensText P F (k.proof P) old new r)
  known old new r t = (t.written, t.exact)

  abbrev PrintedAt : Option (Bor (List ℕ)) → Outside → Outside → Result Ending CommandFault → Type 0
  PrintedAt path old new r = OfInput source (λ k. PrintsTightened P F (option_map (λ s. s.now) path) k old new r)

  -- to standard output
  pub printed_here : (path : Option (Bor (List ℕ))) (old new : Option Output) (files : Files)
      (r : Result Ending CommandFault) → path ≡ None
      → OfInput source (λ k. WritesTightened P F (k.proof P) old new r)
      → PrintedAt path (outside_of old files) (outside_of new files) r
  printed_here path old new files r is h =
      subst (λ p. PrintedAt p (outside_of old files) (outside_of new files) r) (sym is)
      (of_input source (λ k. WritesTightened P F (k.proof P) old new r)
      (λ k. PrintsTightened P F None k (outside_of old files) (outside_of new files) r)
      (λ k written. (written, λ n. refl)) h)

  -- to a file
  pub written_there : (path : Option (Bor (List ℕ))) (file : Bor (List ℕ)) (old : Option Output)
      (was is : Files) (r : Result Ending CommandFault) → path ≡ Some file
      → OfInput source (λ k. WritesFile P F (k.proof P) was is file.now r)
      → PrintedAt path (outside_of old was) (outside_of old is) r
  written_there path file old was is r named h =
      subst (λ p. PrintedAt p (outside_of old was) (outside_of old is) r) (sym named)
      (of_input source (λ k. WritesFile P F (k.proof P) was is file.now r)
      (λ k. PrintsTightened P F (Some file.now) k (outside_of old was) (outside_of old is) r)
      (λ k written. (written, stays old)) h)

  -- what became of a text that was tightened to a file
  pub settled : (was is : Files) (name : List ℕ) (before after : Option Output)
      (x : Result Outcome TightenFault) (r : Result Outcome CommandFault)
      (e : Result Ending CommandFault) → before ≡ begun_for was name
      → TightensAs P F source before after x → Settles x was is name after r → EndsAs r e
      → OfInput source (λ k. WritesFile P F (k.proof P) was is name e)
  settled was is name before after x r e begins tight settles ends =
      of_input source (λ k. TightensText P F (k.proof P) before after x)
      (λ k. WritesFile P F (k.proof P) was is name e)
      (λ k t. (
        x,
        after,
        r,
        subst (λ o. TightensText P F (k.proof P) o after x) begins t,
        settles,
        ends,
      )) (known before after x tight)

-- nothing was written
pub unwritten : (P : Profile) (F : Form) (k : KindOfText) (files : Files) (name : List ℕ)
    (e : TightenFault) → TightensText P F k (begun_for files name) (begun_for files name) (Err e)
    → WritesFile P F k files files name (Err (tighten_fault_for e))
unwritten P F k files name e t = (Err e, begun_for files name, Err (tighten_fault_for e), t, (refl, λ n. refl), refl)
