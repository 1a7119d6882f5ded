use Rattle.std.proofs.Common.{ap, ◌∙◌, true}
use Rattle.clap.specs.{Simple.app_of_fields, Words.App}
use Rattle.vipr_command.proofs.args.no_commands.Goals as goal

-- `subcommand_required`
abbrev with_required : App → App
with_required a = record a { top = record a.top { subcommand_required = true } }

-- `version`
abbrev with_version : App → App
with_version a = record a { top = record a.top { has_version = true } }

pub returns : goal.returns
returns c = ap app_of_fields c.subcommand_required.ensures
    ∙ ap with_required (ap app_of_fields c.version.ensures
    ∙ ap with_version (ap app_of_fields c.about.ensures ∙ c.new.ensures.app))
