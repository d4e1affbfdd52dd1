use Rattle.std.proofs.Common.{[], None, slice_index, refl, arith}
use Rattle.std.proofs.lemmas.List.{get_or_default}
use Rattle.bwe_specs.specs.Tree.{cluster_limits}
use Rattle.policy_tree.specs.Trees.{demand_in}
use Rattle.policy_tree.specs.Nodes.{cluster_in}
use Rattle.push_down.proofs.Handed.{limits-more, limits-all}
use Rattle.kept_tree.proofs.Dropped.{known-set}
use Rattle.kept_tree.proofs.limits.known_limits.Goals as goal

pub loop-group-preserved : goal.loop-group-preserved
loop-group-preserved c =
    let tree = c.args.tree.now in
    let amounts = c.args.amounts.now in
    let group = c.loop-group.group in
    record {
      limits =
          limits-more (cluster_limits tree.top (demand_in tree)) tree.clusters amounts c.requires.amounts
          group (cluster_in tree group) (slice_index amounts group) _ _ _ (omega (arith, c.loop-group-test.true, c.groups-group-end.ensures))
          (get_or_default tree.clusters group (record { configured = None; users = [] }) (cluster_in tree group) (omega (arith, c.loop-group-test.true, c.groups-group-end.ensures)))
          (get_or_default amounts group 0 (slice_index amounts group) (omega (arith, c.loop-group-test.true, c.groups-group-end.ensures, c.requires.amounts)))
          c.loop-group.invariant.limits refl c.in_ok-push_group.ensures.pushed;
      known = known-set tree c.loop-group.known group c.push_group.new.known c.loop-group.invariant.known c.in_ok-push_group.ensures.known;
    }

pub returns-clause-limits : goal.returns-clause-limits
returns-clause-limits c =
    limits-all (cluster_limits c.args.tree.now.top (demand_in c.args.tree.now)) c.args.tree.now.clusters c.args.amounts.now c.requires.amounts
    c.loop-group.group _ (omega (arith, c.loop-group-test.false, c.groups-group-end.ensures)) c.loop-group.invariant.limits

pub returns-in_err-push_group-clause-known : goal.returns-in_err-push_group-clause-known
returns-in_err-push_group-clause-known c =
    known-set c.args.tree.now c.loop-group.known c.loop-group.group c.push_group.new.known c.loop-group.invariant.known c.in_err-push_group.ensures.known
