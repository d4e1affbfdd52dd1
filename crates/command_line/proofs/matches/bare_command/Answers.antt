use Rattle.std.proofs.Common.{ap, ◌∙◌, true}
use Rattle.clap.specs.declared.builder.command.Command.{Command}
use Rattle.clap.specs.declared.builder.command.Command.TheOpen.{Command-F}
use Rattle.command_line.proofs.Apps.{bare_is}
use Rattle.command_line.proofs.matches.bare_command.Goals as goal

pub returns : goal.returns
returns c =
    bare_is _ _ (c.subcommand_required.ensures ∙ ap (λ (f : Command-F Command). record f { subcommand_required = true })
    (c.disable_help_subcommand.ensures ∙ ap (λ (f : Command-F Command). record f { disable_help_subcommand = true })
    (c.disable_help_flag.ensures ∙ ap (λ (f : Command-F Command). record f { disable_help_flag = true }) c.no_binary_name.ensures))) c.new.ensures.app
