use Rattle.std.proofs.Common.{[], slice_index, None, rules}
use Rattle.std.proofs.lemmas.List.{get_or_default}
use Rattle.bwe_specs.specs.Tree.{cluster_limits}
use Rattle.policy_tree.specs.Trees.{demand_in}
use Rattle.policy_tree.specs.Nodes.{cluster_in}
use Rattle.push_down.proofs.Handed.{limits-more, limits-all}
use Rattle.push_down.proofs.groups.all_limits.Goals as goal

pub loop-group-preserved : goal.loop-group-preserved
loop-group-preserved c =
    let tree = c.args.tree.now in
    let amounts = c.args.amounts.now in
    let group = c.loop-group.group in
    limits-more (cluster_limits tree.top (demand_in tree)) tree.clusters amounts c.requires.amounts
    group (cluster_in tree group) (slice_index amounts group) _ _ _ (search rules)
    (get_or_default tree.clusters group (record { configured = None; users = [] }) (cluster_in tree group) (search rules))
    (get_or_default amounts group 0 (slice_index amounts group) (search rules))
    c.loop-group.invariant (search rules) c.in_ok-push_limits.ensures

pub returns : goal.returns
returns c =
    limits-all (cluster_limits c.args.tree.now.top (demand_in c.args.tree.now)) c.args.tree.now.clusters c.args.amounts.now c.requires.amounts
    c.loop-group.group _ (search rules) c.loop-group.invariant
