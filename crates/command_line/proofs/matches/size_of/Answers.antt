use Rattle.std.proofs.Common.{codes}
use Rattle.clap.specs.Words.{found_of}
use Rattle.command_line.proofs.Found.{text_is}
use Rattle.command_line.proofs.matches.size_of.Goals as goal

pub returns-in_err-seed : goal.returns-in_err-seed
returns-in_err-seed c =
    let seed = text_is (found_of c.args.given.now) (codes "seed") c.get_str.result c.get_str.ensures in
    rw (seed, c.in_err-seed.was) c.from_residual.ensures

pub returns-in_err-groups : goal.returns-in_err-groups
returns-in_err-groups c =
    let seed = text_is (found_of c.args.given.now) (codes "seed") c.get_str.result c.get_str.ensures in
    let groups = text_is (found_of c.args.given.now) (codes "groups") c.get_str-2.result c.get_str-2.ensures in
    rw (seed, c.in_ok-seed.was, groups, c.in_err-groups.was) c.from_residual-in_err-groups.ensures

pub returns-in_err-tasks : goal.returns-in_err-tasks
returns-in_err-tasks c =
    let seed = text_is (found_of c.args.given.now) (codes "seed") c.get_str.result c.get_str.ensures in
    let groups = text_is (found_of c.args.given.now) (codes "groups") c.get_str-2.result c.get_str-2.ensures in
    let tasks = text_is (found_of c.args.given.now) (codes "tasks") c.get_str-3.result c.get_str-3.ensures in
    rw (seed, c.in_ok-seed.was, groups, c.in_ok-groups.was, tasks, c.in_err-tasks.was) c.from_residual-in_err-tasks.ensures

pub returns : goal.returns
returns c =
    let seed = text_is (found_of c.args.given.now) (codes "seed") c.get_str.result c.get_str.ensures in
    let groups = text_is (found_of c.args.given.now) (codes "groups") c.get_str-2.result c.get_str-2.ensures in
    let tasks = text_is (found_of c.args.given.now) (codes "tasks") c.get_str-3.result c.get_str-3.ensures in
    rw (seed, c.in_ok-seed.was, groups, c.in_ok-groups.was, tasks, c.in_ok-tasks.was) c.size_in.ensures
