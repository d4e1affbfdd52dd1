use Rattle.command_line.proofs.Apps.{line_added}
use Rattle.command_line.proofs.matches.with_line.Goals as goal

pub returns : goal.returns
returns c = line_added _ _ _ _ _ c.in_ok-lines.was c.in_ok-line.was c.subcommand.ensures
