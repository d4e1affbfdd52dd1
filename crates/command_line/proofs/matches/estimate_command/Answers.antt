use Rattle.std.proofs.Common.{codes}
use Rattle.clap.specs.Simple.{new_app}
use Rattle.command_line.specs.Matches.{place_rule}
use Rattle.command_line.proofs.matches.estimate_command.Goals as goal

pub returns : goal.returns
returns c =
    let window = c.with_arg-command.ensures.app (new_app (codes "estimate")) (place_rule (codes "window")) c.new.ensures.app c.place.ensures.rule in
    record {
      app = c.with_arg.ensures.app _ (place_rule (codes "headroom")) window c.place-2.ensures.rule;
      local = c.with_arg.ensures.local (c.with_arg-command.ensures.local c.new.ensures.local);
    }
