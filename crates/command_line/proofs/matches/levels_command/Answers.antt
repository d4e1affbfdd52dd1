use Rattle.std.proofs.Common.{codes}
use Rattle.clap.specs.Simple.{new_app}
use Rattle.command_line.specs.Matches.{place_rule}
use Rattle.command_line.proofs.matches.levels_command.Goals as goal

pub returns : goal.returns
returns c =
    record {
      app = c.with_arg.ensures.app (new_app (codes "levels")) (place_rule (codes "share")) c.new.ensures.app c.place.ensures.rule;
      local = c.with_arg.ensures.local c.new.ensures.local;
    }
