use Rattle.std.proofs.Common.{◌≡◌, ◌∙◌, ap, subst, sym, map, true, false, codes, refl, List, []}
use Rattle.std.proofs.Common.{Some}
use Rattle.clap.specs.Words.{App, Kinds, HasKind, fault_of, found_of, is_simple, is_simple_and_free}
use Rattle.clap.specs.Words.{Row, Text, rows_of, subcommand_of, takes}
use Rattle.clap.proofs.WalkLemmas.{first_value-rows}
use Rattle.vipr_command.specs.Args.{file_named, form_asked, is_set, line, profile_named}
use Rattle.vipr_command.proofs.ArgsLemmas.{clap_fault, entered_is, failed_on, handed_on, is_asked}
use Rattle.vipr_command.proofs.ArgsLemmas.{is_free_line, is_simple_line, never_other}
use Rattle.vipr_command.proofs.ArgsLemmas.{never_accepted, never_without, profile_fine}
use Rattle.vipr_command.proofs.ArgsLemmas.{profile_wrong, accepted_by_clap}
use Rattle.vipr_command.proofs.args.job_by.Goals as goal
use Rattle.vipr_command.proofs.args.job_by.Goals.{In-Some}

pub returns-in_err-matches-clause-err : goal.returns-in_err-matches-clause-err
returns-in_err-matches-clause-err c =
    let words = map (λ w. w.now) c.args.words.now in
    handed_on _ _ _ c.from_residual.ensures.1
    (λ t. c.in_err-matches.ensures.passes (ap (λ (a : App). takes a words) c.requires ∙ accepted_by_clap words t))

pub returns-in_err-matches-clause-kinds : goal.returns-in_err-matches-clause-kinds
returns-in_err-matches-clause-kinds c =
    let words = map (λ w. w.now) c.args.words.now in
    let K : Kinds → Type 0 = λ k. HasKind k c.in_err-matches.field-0.0 in
    failed_on _ _ _ c.from_residual.ensures.1
    (clap_fault words c.in_err-matches.field-0.0 (subst K (ap (λ (a : App). fault_of a words) c.requires)
    (c.in_err-matches.ensures.kinds (ap is_simple_and_free c.requires ∙ is_free_line))))

pub unreachable-requires : goal.unreachable-requires
unreachable-requires c =
    let words = map (λ w. w.now) c.args.words.now in
    let met = (c.in_ok-matches.ensures.ok.2 (ap is_simple c.requires ∙ is_simple_line)).1
    ∙ ap (λ (a : App). subcommand_of a words) c.requires in
    let fault = ap (λ (a : App). fault_of a words) (sym c.requires)
    ∙ c.in_ok-matches.ensures.kinds (ap is_simple_and_free c.requires ∙ is_free_line) in
    let bad : false ≡ true = c.in_default.ensures.variant ∙ never_without _ words met fault in cc

-- the subcommand that was entered
module _ (c : In-Some) where
  abbrev words : List Text
  words = map (λ w. w.now) c.args.words.now

  abbrev rows : List Row
  rows = rows_of (found_of c.in-Some.inner.now)

  entered : subcommand_of line words ≡ Some (c.in-Some.name.now, rows)
  entered =
      let met = (c.in_ok-matches.ensures.ok.2 (ap is_simple c.requires ∙ is_simple_line)).1
      ∙ ap (λ (a : App). subcommand_of a words) c.requires in
      sym met ∙ entered_is c.in_ok-matches.matches c.in-Some.name.now rows c.in-Some.ensures.name c.in-Some.ensures.rows

  fault : fault_of line words ≡ []
  fault = ap (λ (a : App). fault_of a words) (sym c.requires)
      ∙ c.in_ok-matches.ensures.kinds (ap is_simple_and_free c.requires ∙ is_free_line)

pub unreachable-requires-in_default-task_named : goal.unreachable-requires-in_default-task_named
unreachable-requires-in_default-task_named c =
    let k = (goal.at.unreachable-requires-in_default-task_named c).In-Some in
    never_other (words k) _ (fault k) (entered k) (c.in_default-task_named.ensures.none refl)

pub returns-in_default-profile_named-clause-err : goal.returns-in_default-profile_named-clause-err
returns-in_default-profile_named-clause-err c =
    let k = (goal.at.returns-in_default-profile_named-clause-err c).In-Some in
    λ t. absurd (never_accepted (words k) _ _ (entered k)
    (c.in_default-profile_named.ensures
    ∙ ap profile_named (c.get_str-word.ensures ∙ first_value-rows (found_of c.in-Some.inner.now)
    (codes "profile"))) t)

pub returns-in_default-profile_named-clause-kinds :
    goal.returns-in_default-profile_named-clause-kinds
returns-in_default-profile_named-clause-kinds c =
    let k = (goal.at.returns-in_default-profile_named-clause-kinds c).In-Some in
    profile_wrong (words k) _ _ (entered k)
    (c.in_default-profile_named.ensures
    ∙ ap profile_named (c.get_str-word.ensures ∙ first_value-rows (found_of c.in-Some.inner.now)
    (codes "profile")))
    (fault k) c.in_ok-no_profile.field-0 c.in_ok-no_profile.ensures

pub returns-clause-ok : goal.returns-clause-ok
returns-clause-ok c =
    let k = (goal.at.returns-clause-ok c).In-Some in
    is_asked (words k) _ _ _ (entered k) c.in-Some-task_named.ensures.some
    (c.in-Some-profile_named.ensures
    ∙ ap profile_named (c.get_str-word.ensures ∙ first_value-rows (found_of c.in-Some.inner.now)
    (codes "profile")))
    (c.form_asked-form.ensures
    ∙ ap form_asked (c.get_str.ensures ∙ first_value-rows (found_of c.in-Some.inner.now)
    (codes "compact")))
    (c.is_set-is_long.ensures
    ∙ ap is_set (c.get_str-2.ensures ∙ first_value-rows (found_of c.in-Some.inner.now)
    (codes "long")))
    (c.is_set-has_sum.ensures
    ∙ ap is_set (c.get_str-3.ensures ∙ first_value-rows (found_of c.in-Some.inner.now)
    (codes "sum")))
    (c.file_named-file.ensures
    ∙ ap file_named (c.get_str-4.ensures ∙ first_value-rows (found_of c.in-Some.inner.now)
    (codes "file")))
    (c.file_named-out.ensures
    ∙ ap file_named (c.get_str-5.ensures ∙ first_value-rows (found_of c.in-Some.inner.now)
    (codes "out")))

pub returns-clause-kinds : goal.returns-clause-kinds
returns-clause-kinds c =
    let k = (goal.at.returns-clause-kinds c).In-Some in
    profile_fine (words k) _ _ (entered k) _
    (c.in-Some-profile_named.ensures
    ∙ ap profile_named (c.get_str-word.ensures ∙ first_value-rows (found_of c.in-Some.inner.now)
    (codes "profile")))
    (fault k)
