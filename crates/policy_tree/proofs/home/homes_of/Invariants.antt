use Rattle.std.proofs.Common.{◌+◌, [], take, sum, get_or}
use Rattle.policy_tree.specs.Kept.{counts_of, users_count, clusters_count}
use Rattle.policy_tree.proofs.Homes.{AreHomesBelow}
use Rattle.policy_tree.proofs.home.homes_of.Given as goal

abbrev pub invariant-loop-cluster : goal.invariant-loop-cluster
invariant-loop-cluster l = AreHomesBelow (counts_of l.clusters) l.homes.items (clusters_count (take l.cluster (counts_of l.clusters)))

abbrev pub invariant-loop-user : goal.invariant-loop-user
invariant-loop-user l =
    AreHomesBelow (counts_of l.clusters) l.homes.items
    (clusters_count (take l.cluster (counts_of l.clusters)) + users_count (take l.user (get_or (counts_of l.clusters) l.cluster [])))

abbrev pub invariant-loop-job : goal.invariant-loop-job
invariant-loop-job l =
    AreHomesBelow (counts_of l.clusters) l.homes.items
    (clusters_count (take l.cluster (counts_of l.clusters))
    + (users_count (take l.user (get_or (counts_of l.clusters) l.cluster []))
    + sum (take l.job (get_or (get_or (counts_of l.clusters) l.cluster []) l.user []))))

abbrev pub invariant-loop-task : goal.invariant-loop-task
invariant-loop-task l =
    AreHomesBelow (counts_of l.clusters) l.homes.items
    (clusters_count (take l.cluster (counts_of l.clusters))
    + (users_count (take l.user (get_or (counts_of l.clusters) l.cluster []))
    + (sum (take l.job (get_or (get_or (counts_of l.clusters) l.cluster []) l.user [])) + l.task)))
