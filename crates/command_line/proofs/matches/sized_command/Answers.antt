use Rattle.std.proofs.Common.{codes}
use Rattle.clap.specs.Simple.{new_app}
use Rattle.command_line.specs.Matches.{place_rule}
use Rattle.command_line.proofs.matches.sized_command.Goals as goal

pub returns : goal.returns
returns c =
    let seed = c.with_arg-command.ensures.app (new_app c.args.name.now) (place_rule (codes "seed")) c.new.ensures.app c.place.ensures.rule in
    let groups = c.with_arg-command-2.ensures.app _ (place_rule (codes "groups")) seed c.place-2.ensures.rule in
    record {
      app = c.with_arg.ensures.app _ (place_rule (codes "tasks")) groups c.place-3.ensures.rule;
      local = c.with_arg.ensures.local (c.with_arg-command-2.ensures.local (c.with_arg-command.ensures.local c.new.ensures.local));
    }
