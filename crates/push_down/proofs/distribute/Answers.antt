use Rattle.std.proofs.Common.{◌≡◌, ℕ, List, [], None, length, sum, Vec, ap, sym, ◌∙◌, arith}
use Rattle.std.specs.Global.{Global}
use Rattle.std.specs.List.{range_with_len}
use Rattle.std.proofs.lemmas.Result.{IfOk-weaker}
use Rattle.std.proofs.lemmas.List.Folds.{length-flat_map-take}
use Rattle.std.proofs.lemmas.List.FromFn.{length-range_with_len}
use Rattle.bwe_specs.specs.Tree.{Cluster, cluster_limits}
use Rattle.bwe_specs.proofs.Bounds.{sum_below-term}
use Rattle.bwe_specs.proofs.HandedOut.{cluster-at, sum-cluster_limits}
use Rattle.policy_tree.specs.Nodes.{cluster_in, first_in}
use Rattle.policy_tree.specs.Trees.{demand_in, value_in, cluster_numbers}
use Rattle.policy_tree.proofs.TreeFacts.{cluster-numbers}
use Rattle.push_down.specs.declared.TaskLimit.{TaskLimit}
use Rattle.push_down.specs.Limits.{limits_of_cluster}
use Rattle.push_down.proofs.Agreement.{cluster-limits, length-cluster}
use Rattle.push_down.proofs.distribute.Goals as goal
use Rattle.push_down.proofs.distribute.Goals.{After-as_slice}

pub cluster_limits_of-requires-clause-amount : goal.cluster_limits_of-requires-clause-amount
cluster_limits_of-requires-clause-amount c =
    let tree = c.args.tree.now in
    let values = c.top-top.ensures.values in
    omega (arith, c.requires.amount, sum_below-term (length tree.clusters) c.args.group (λ (group : ℕ). value_in tree group tree.top) c.requires.group, values.together)

-- the limits are those of the definitions
limits : (c : After-as_slice) → c.as_slice.result.now ≡ cluster_limits c.args.tree.now.top (demand_in c.args.tree.now) (cluster_in c.args.tree.now c.args.group) c.args.amount
limits c =
    let tree = c.args.tree.now in
    let node = c.cluster.ensures in
    c.as_slice.ensures.value
    ∙ c.in_ok-limits.ensures
    ∙ ap (λ (top : ℕ). limits_of_cluster top c.cluster.result.now c.args.amount) c.top-top.ensures.top
    ∙ sym (cluster-limits tree.top (demand_in tree) (first_in tree c.args.group) c.cluster.result.now node.tops node.demands c.args.amount)
    ∙ ap (λ (cluster : Cluster). cluster_limits tree.top (demand_in tree) cluster c.args.amount) (sym node.cluster)

-- there are as many as the group has tasks
numbers : (c : After-as_slice) → range_with_len (first_in c.args.tree.now c.args.group) (length c.as_slice.result.now) ≡ cluster_numbers (cluster_in c.args.tree.now c.args.group)
numbers c =
    let first = first_in c.args.tree.now c.args.group in
    let node = c.cluster.result.now in
    ap (range_with_len first)
    (ap (λ (list : List ℕ). length list) (c.as_slice.ensures.value ∙ c.in_ok-limits.ensures) ∙ length-cluster c.top-top.result node c.args.amount)
    ∙ sym (cluster-numbers first node)
    ∙ ap cluster_numbers (sym c.cluster.ensures.cluster)

pub numbered-requires : goal.numbered-requires
numbered-requires c =
    let b = (goal.at.numbered-requires c).After-as_slice in
    let tree = c.args.tree.now in
    let is = c.top-top.ensures.tree in
    let size = ap (λ (list : List ℕ). length list) (numbers b) in
    let count = length-range_with_len (first_in tree c.args.group) (length c.as_slice.result.now) in
    let part = length-flat_map-take cluster_numbers tree.clusters c.args.group (record { configured = None; users = [] }) c.requires.group in
    let all = ap (λ (list : List ℕ). length list) is.numbers in
    let known = length-range_with_len 0 (length tree.demands) in
    omega (arith, c.first_task-first.ensures, size, count, part, all, known, is.few)

pub returns-clause-limits : goal.returns-clause-limits
returns-clause-limits c =
    let b = (goal.at.returns-clause-limits c).After-as_slice in
    IfOk-weaker c.numbered.result _ _ (λ (entries : Vec TaskLimit Global) same. same ∙ limits b) c.numbered.ensures.limits

pub returns-clause-tasks : goal.returns-clause-tasks
returns-clause-tasks c =
    let b = (goal.at.returns-clause-tasks c).After-as_slice in
    IfOk-weaker c.numbered.result _ _ (λ (entries : Vec TaskLimit Global) same. same ∙ ap (λ (first : ℕ). range_with_len first (length c.as_slice.result.now)) c.first_task-first.ensures ∙ numbers b) c.numbered.ensures.tasks

pub returns-clause-total : goal.returns-clause-total
returns-clause-total c =
    let b = (goal.at.returns-clause-total c).After-as_slice in
    let tree = c.args.tree.now in
    let is = c.top-top.ensures.tree in
    let total = sum-cluster_limits tree.top (demand_in tree) (cluster_in tree c.args.group) (cluster-at tree.top tree.clusters is.functions c.args.group) c.args.amount c.requires.amount in
    IfOk-weaker c.numbered.result _ _ (λ (entries : Vec TaskLimit Global) same. ap (λ (list : List ℕ). sum list) (same ∙ limits b) ∙ total) c.numbered.ensures.limits
