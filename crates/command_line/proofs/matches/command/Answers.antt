use Rattle.std.proofs.Common.{codes}
use Rattle.clap.specs.Simple.{new_app}
use Rattle.command_line.specs.Matches.{app_to_bulk, estimate_app, levels_app}
use Rattle.command_line.proofs.matches.command.Goals as goal

pub returns : goal.returns
returns c =
    let audit = c.with_line-lines.ensures app_to_bulk (new_app (codes "audit")) c.lines_to_bulk.ensures c.new.ensures.app c.new.ensures.local in
    let tiers = c.with_line-lines-2.ensures _ (new_app (codes "tiers")) audit c.new-2.ensures.app c.new-2.ensures.local in
    let enforce = c.with_line-lines-3.ensures _ (new_app (codes "enforce")) tiers c.new-3.ensures.app c.new-3.ensures.local in
    let estimate = c.with_line-lines-4.ensures _ estimate_app enforce c.estimate_command.ensures.app c.estimate_command.ensures.local in
    c.with_line.ensures _ levels_app estimate c.levels_command.ensures.app c.levels_command.ensures.local
