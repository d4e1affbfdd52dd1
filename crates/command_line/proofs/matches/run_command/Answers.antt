use Rattle.std.proofs.Common.{codes}
use Rattle.clap.specs.Simple.{new_app}
use Rattle.command_line.specs.Matches.{option_rule}
use Rattle.command_line.proofs.matches.run_command.Goals as goal

pub returns : goal.returns
returns c =
    let readers = c.with_arg-command.ensures.app (new_app (codes "run")) (option_rule (codes "readers")) c.new.ensures.app c.option.ensures.rule in
    record {
      app = c.with_arg.ensures.app _ (option_rule (codes "reads")) readers c.option-2.ensures.rule;
      local = c.with_arg.ensures.local (c.with_arg-command.ensures.local c.new.ensures.local);
    }
