use Rattle.command_line.proofs.Found.{met_is}
use Rattle.command_line.proofs.matches.line_of_matches.Goals as goal

pub returns : goal.returns
returns c =
    rw (met_is c.args.matches.now c.subcommand.result c.subcommand.ensures.name c.subcommand.ensures.rows, c.in_ok-name.was) c.line_of_subcommand.ensures
