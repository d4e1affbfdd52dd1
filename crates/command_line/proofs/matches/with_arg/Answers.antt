use Rattle.command_line.proofs.Apps.{arg_added, local_added}
use Rattle.command_line.proofs.matches.with_arg.Goals as goal

pub returns : goal.returns
returns c = record {
  app = arg_added _ _ _ _ c.in_ok-command.was c.arg.ensures c.requires.local_arg;
  local = local_added _ _ _ _ c.in_ok-command.was c.arg.ensures c.requires.local_arg;
}
