use Rattle.std.proofs.Common.{ℕ, ◌∙◌, flat_map, zip, ap, arith}
use Rattle.std.proofs.lemmas.List.{take_all}
use Rattle.bwe_specs.specs.Tree.{Cluster, cluster_limits}
use Rattle.policy_tree.specs.Trees.{demand_in}
use Rattle.threaded_limits.proofs.Gathered.{behind-each_other}
use Rattle.threaded_limits.proofs.all_limits_on_threads.Goals as goal

pub returns : goal.returns
returns g c =
    let tree = c.args.tree.now in
    let lists = c.deref-list-items.result.now in
    c.loop-list.invariant
    ∙ ap (flat_map (λ list. list.items)) (take_all c.loop-list.list-index lists (omega arith) ∙ c.deref-list-items.ensures.value)
    ∙ behind-each_other (λ (given : Cluster × ℕ). cluster_limits tree.top (demand_in tree) given.0 given.1) (zip tree.clusters c.args.amounts.now)
    c.in_ok-lists.lists.items c.in_ok-lists.ensures
