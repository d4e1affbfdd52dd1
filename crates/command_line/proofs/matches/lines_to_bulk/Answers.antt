use Rattle.std.proofs.Common.{codes}
use Rattle.clap.specs.Simple.{new_app}
use Rattle.command_line.specs.Matches.{bare_app, run_app, sized_app}
use Rattle.command_line.proofs.matches.lines_to_bulk.Goals as goal

pub returns : goal.returns
returns c =
    let solve = c.with_line-lines.ensures bare_app (new_app (codes "solve")) c.bare_command.ensures c.new.ensures.app c.new.ensures.local in
    let check = c.with_line-lines-2.ensures _ (new_app (codes "check")) solve c.new-2.ensures.app c.new-2.ensures.local in
    let run = c.with_line-lines-3.ensures _ run_app check c.run_command.ensures.app c.run_command.ensures.local in
    let make = c.with_line-lines-4.ensures _ (sized_app (codes "make")) run c.sized_command.ensures.app c.sized_command.ensures.local in
    c.with_line.ensures _ (sized_app (codes "bulk")) make c.sized_command-2.ensures.app c.sized_command-2.ensures.local
