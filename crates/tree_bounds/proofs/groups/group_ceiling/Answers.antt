use Rattle.std.proofs.Common.{arith}
use Rattle.tree_bounds.proofs.OfGroup.{group-value}
use Rattle.tree_bounds.proofs.groups.group_ceiling.Goals as goal

pub returns : goal.returns
returns c =
    omega (arith, group-value c.args.tree.now c.args.group c.cluster-cluster.result.now c.cluster-cluster.ensures c.args.share, c.ceiling.ensures)
