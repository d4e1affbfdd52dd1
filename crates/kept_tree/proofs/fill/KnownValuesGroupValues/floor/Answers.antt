use Rattle.std.proofs.Common.{arith}
use Rattle.policy_tree.specs.Trees.{value_in}
use Rattle.kept_tree.specs.Known.{limits_in}
use Rattle.kept_tree.proofs.fill.KnownValuesGroupValues.floor.Goals as goal

pub returns-in-Some : goal.returns-in-Some
returns-in-Some g c =
    let tree = c.args.self.now.tree.now in
    let are = c.args.self.now.are in
    let is = c.in-Some.ensures (value_in tree c.args.group) (limits_in tree c.args.group)
    (are.each c.args.group c.index-self-group.result (omega (arith, are.count, c.requires.group))) in
    omega (arith, is)
