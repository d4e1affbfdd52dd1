-- What all groups may have at one share.
use Rattle.std.specs.Prelude.{ℕ, List, length, map}
use Rattle.bwe_specs.specs.Reports.{numbers}
use Rattle.bwe_specs.specs.Tree.{Cluster, group_value}
use Rattle.policy_tree.specs.Trees.{Tree, demand_in}

-- each group's value at the share under these demands, in the order of the groups
abbrev pub levels : ℕ → (ℕ → ℕ) → List Cluster → ℕ → List ℕ
levels top demand clusters share =
    map (λ group. group_value top demand clusters group share) (numbers (length clusters))

-- the same of a tree, under the demands that are set
abbrev pub levels_in : Tree → ℕ → List ℕ
levels_in tree share = levels tree.top (demand_in tree) tree.clusters share
