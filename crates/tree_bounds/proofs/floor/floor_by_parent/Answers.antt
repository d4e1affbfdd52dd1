use Rattle.std.proofs.Common.{arith}
use Rattle.tree_bounds.proofs.Configured.{transformed-near}
use Rattle.tree_bounds.proofs.floor.floor_by_parent.Goals as goal

pub returns : goal.returns
returns g c within =
    let meaning = g.P.ShareFunction.meaning c.args.sum.now in
    omega (arith, within, c.value.ensures.value, c.min.ensures, c.saturating_sub.ensures, transformed-near c.args.parent.now meaning c.args.share c.steepest.result c.requires c.steepest.ensures)
