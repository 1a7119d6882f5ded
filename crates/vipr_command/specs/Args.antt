-- The program's command line as clap's parse reads it, and what a command line asks for.
use Rattle.std.specs.Prelude.{◌≡◌, ◌&&◌, ◌||◌, Bool, true, false, List, [], ◌∷◌, Option, Some, None}
use Rattle.std.specs.Prelude.{codes, if◌then◌else◌, is_some, option_map}
use Rattle.std.specs.{Option.option_map_or, Str.bytes_eq}
use Rattle.clap.specs.Words.{App, Kinds, Rule, Text, app_of, fault_of, first_of, new_app, new_rule}
use Rattle.clap.specs.Words.{rule_of, subcommand_of, takes, with_rule, with_subcommand}
use Rattle.clap.specs.declared.builder.command.Command.TheViews.{out-Command as fields_of}
use Rattle.clap.specs.{Kinds.or_else, declared.builder.action.ArgAction.TheVariants.SetTrue}
use Rattle.clap.specs.{declared.builder.arg.Arg.Arg, declared.builder.command.Command.Command}
use Rattle.clap.specs.{declared.error.ErrorKind.TheVariants.InvalidValue}
use Rattle.vipr_rules.specs.declared.profile.Profile.{Profile}
use Rattle.vipr_rules.specs.declared.profile.Profile.TheVariants.{One, Two}
use Rattle.vipr_write.specs.declared.form.Form.{Form}
use Rattle.vipr_write.specs.declared.form.Form.TheVariants.{Canonical, Compact}
use Rattle.vipr_command.specs.declared.request.Task.TheVariants.{Check, Explain, Show, Tighten}
use Rattle.vipr_command.specs.{declared.request.Job.Job, declared.request.Task.Task}

-- `[FILE]`
abbrev pub file_rule : Rule
file_rule = record (new_rule (codes "file")) { value_names = 1 }

-- `[--profile PROFILE]`
abbrev pub profile_rule : Rule
profile_rule = record (new_rule (codes "profile")) {
  long = Some (codes "profile");
  value_names = 1;
}

-- `[-o OUT]` or `[--out OUT]`
abbrev pub out_rule : Rule
out_rule = record (new_rule (codes "out")) {
  short = Some 111;
  long = Some (codes "out");
  value_names = 1;
}

-- a flag of this name
abbrev pub flag_rule : Text → Rule
flag_rule name = record (new_rule name) { long = Some name; action = Some SetTrue }

-- `[--compact]`
abbrev pub compact_rule : Rule
compact_rule = flag_rule (codes "compact")

-- `[--long]`
abbrev pub long_rule : Rule
long_rule = flag_rule (codes "long")

-- `[--sum]`
abbrev pub sum_rule : Rule
sum_rule = flag_rule (codes "sum")

abbrev pub command_word : Task → Text
command_word Check = codes "check"
command_word Explain = codes "explain"
command_word Show = codes "show"
command_word Tighten = codes "tighten"

-- a task's subcommand with `[FILE]` alone
abbrev pub with_file : Task → App
with_file t = with_rule (new_app (command_word t)) file_rule

-- a task's subcommand
abbrev pub app_for : Task → App
app_for Check = with_rule (with_rule (with_file Check) profile_rule) sum_rule
app_for Explain = with_rule (with_rule (with_rule (with_file Explain) profile_rule) long_rule)
    sum_rule
app_for Show = with_rule (with_file Show) compact_rule
app_for Tighten = with_rule (with_rule (with_rule (with_file Tighten) profile_rule) out_rule)
    compact_rule

-- the name and a version, with a subcommand required; clap adds the subcommand `help`
abbrev pub bare : App
bare = record (new_app (codes "vipr")) {
  top = record (new_app (codes "vipr")).top {
    has_version = true;
    subcommand_required = true;
  };
}

-- one more task
abbrev pub with_task : App → Task → App
with_task a t = with_subcommand a (app_for t).top

unfoldable pub line : App
line = with_task (with_task (with_task (with_task bare Check) Explain) Show) Tighten

-- this argument has the rule, and is one of its own command alone
abbrev pub IsArgument : Arg → Rule → Type 0
IsArgument a r = (rule_of a ≡ r) × (a.global ≡ false)

-- this command is read so, and has no argument of other commands
abbrev pub IsCommand : Command → App → Type 0
IsCommand c a = (app_of c ≡ a) × ((fields_of c).has_globals ≡ false)

-- the profile of this value of PROFILE, the first if it is absent
abbrev pub profile_named : Option Text → Option Profile
profile_named None = Some One
profile_named (Some word) = if bytes_eq word (codes "1") then Some One
    else (if bytes_eq word (codes "2") then Some Two else None)

-- the file that a value of FILE or OUT names: none if it is absent or `-`
abbrev pub file_named : Option Text → Option Text
file_named None = None
file_named (Some word) = if bytes_eq word (codes "-") then None else Some word

-- the form by the value of the flag `--compact`, which is `true` if it is among the words
abbrev pub form_asked : Option Text → Form
form_asked None = Canonical
form_asked (Some word) = if bytes_eq word (codes "true") then Compact else Canonical

-- whether `--long` or `--sum` is among the words, by the value of this flag
abbrev pub is_set : Option Text → Bool
is_set None = false
is_set (Some word) = bytes_eq word (codes "true")

-- a subcommand's name, the profile, if PROFILE names one, the form, whether the explanation is to
-- be long, whether the digest is to be added, and the files that FILE and OUT name
abbrev pub Request : Type 0
Request = Text × Option Profile × Form × Bool × Bool × Option Text × Option Text

-- what clap's matches of the words are
abbrev pub asked_by : List Text → Option Request
asked_by words = option_map (λ p. (
  p.0,
  profile_named (first_of (codes "profile") p.1),
  form_asked (first_of (codes "compact") p.1),
  is_set (first_of (codes "long") p.1),
  is_set (first_of (codes "sum") p.1),
  file_named (first_of (codes "file") p.1),
  file_named (first_of (codes "out") p.1),
)) (subcommand_of line words)

abbrev pub request_of : Job → Request
request_of j = (
  command_word j.command,
  Some j.profile,
  j.form,
  j.is_long,
  j.has_sum,
  option_map (λ s. s.now) j.file,
  option_map (λ s. s.now) j.out,
)

-- the words name a profile or none
abbrev pub names_profile : List Text → Bool
names_profile words = option_map_or (λ r. is_some r.1) (asked_by words) true

-- clap takes the words, and their profile is one
abbrev pub are_accepted : List Text → Bool
are_accepted words = takes line words && names_profile words

-- the words are `help` and a call for help
abbrev pub asks_for_help : List Text → Bool
asks_for_help (name ∷ command ∷ word ∷ []) = bytes_eq command (codes "help")
    && (bytes_eq word (codes "--help") || bytes_eq word (codes "-h"))
asks_for_help _ = false

-- the kinds of error that the words may give: those of clap's parse, and then that of a wrong
-- profile
abbrev pub words_fault : List Text → Kinds
words_fault words =
    or_else (fault_of line words) (if names_profile words then [] else InvalidValue ∷ [])
