use Rattle.std.proofs.Common.{codes}
use Rattle.clap.specs.Words.{found_of}
use Rattle.command_line.proofs.Found.{text_is}
use Rattle.command_line.proofs.matches.levels_line.Goals as goal

pub returns-in_err-share : goal.returns-in_err-share
returns-in_err-share c =
    let share = text_is (found_of c.args.given.now) (codes "share") c.get_str.result c.get_str.ensures in
    rw (share, c.in_err-share.was) c.from_residual.ensures

pub returns : goal.returns
returns c =
    let share = text_is (found_of c.args.given.now) (codes "share") c.get_str.result c.get_str.ensures in
    rw (share, c.in_ok-share.was) c.levels_in.ensures
