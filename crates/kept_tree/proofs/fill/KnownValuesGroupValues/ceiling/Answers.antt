use Rattle.std.proofs.Common.{arith}
use Rattle.bwe_specs.proofs.ShareFunctions.{share-mono}
use Rattle.policy_tree.specs.Trees.{value_in}
use Rattle.kept_tree.specs.Known.{limits_in}
use Rattle.kept_tree.proofs.fill.KnownValuesGroupValues.ceiling.Goals as goal

pub returns-in-Some : goal.returns-in-Some
returns-in-Some g c =
    let tree = c.args.self.now.tree.now in
    let are = c.args.self.now.are in
    let values = c.what_holds.ensures.values in
    let kept = c.in-Some.ensures (value_in tree c.args.group) (limits_in tree c.args.group)
    (are.each c.args.group c.index-self-group.result (omega (arith, are.count, c.requires.group))) in
    let rises = share-mono tree.top (value_in tree c.args.group) (record { starts = values.starts c.args.group; next = values.never_falls c.args.group }) c.args.share kept.0 kept.1
    (omega (arith, kept.2, c.farthest-most.ensures.within)) in
    omega (arith, rises, kept.3)
