use Rattle.std.proofs.Common.{codes}
use Rattle.clap.specs.Words.{found_of}
use Rattle.command_line.proofs.Found.{text_is}
use Rattle.command_line.proofs.matches.estimate_line.Goals as goal

pub returns-in_err-window : goal.returns-in_err-window
returns-in_err-window c =
    let window = text_is (found_of c.args.given.now) (codes "window") c.get_str.result c.get_str.ensures in
    rw (window, c.in_err-window.was) c.from_residual.ensures

pub returns-in_err-headroom : goal.returns-in_err-headroom
returns-in_err-headroom c =
    let window = text_is (found_of c.args.given.now) (codes "window") c.get_str.result c.get_str.ensures in
    let headroom = text_is (found_of c.args.given.now) (codes "headroom") c.get_str-2.result c.get_str-2.ensures in
    rw (window, c.in_ok-window.was, headroom, c.in_err-headroom.was) c.from_residual-in_err-headroom.ensures

pub returns : goal.returns
returns c =
    let window = text_is (found_of c.args.given.now) (codes "window") c.get_str.result c.get_str.ensures in
    let headroom = text_is (found_of c.args.given.now) (codes "headroom") c.get_str-2.result c.get_str-2.ensures in
    rw (window, c.in_ok-window.was, headroom, c.in_ok-headroom.was) c.estimate_in.ensures
