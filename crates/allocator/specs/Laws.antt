-- What holds of every table.
use Rattle.std.specs.Prelude.{◌≡◌, ℕ, ◌<◌, ◌≤◌, List, length, map, reverse, slice_index, sum}
use Rattle.bwe_specs.specs.declared.network.Closing.{Closing}
use Rattle.bwe_specs.specs.Paths.{PathGroups, path_group_count}
use Rattle.bwe_specs.specs.Filling.{Wan}
use Rattle.allocation_laws.specs.Laws.{IsHeldBy}
use Rattle.bwe_specs.specs.Allocation.{Table}
use Rattle.policy_tree.specs.Trees.{Tree, cluster_numbers, demand_in}
use Rattle.policy_tree.specs.Nodes.{cluster_in}
use Rattle.table_laws.specs.Tasks.{AreAskedFor}
use Rattle.table_laws.specs.Tables.{IsSharedAlike, IsWithoutWaste}
use Rattle.table_laws.specs.Order.{IsInAnyOrder}
use Rattle.table_laws.specs.Printing.{IsToldByItsText}
use Rattle.max_min.specs.MaxMin.{HasOnePathGroupEach, IsMaxMin}
use Rattle.plain_table.specs.Reported.{Reported}
use Rattle.plain_table.specs.Tables.{plan_by}

-- what a group gets
abbrev pub amount_in : Table → ℕ → ℕ
amount_in table group = slice_index (map (λ line. line.amount) table.groups) group

-- Feasibility law: no link's load exceeds its capacity
abbrev pub IsFeasible : List ℕ → Table → Type 0
IsFeasible capacities table = (link : ℕ) → link < length capacities
    → slice_index table.loads link ≤ slice_index capacities link

-- Bottleneck law: a group that gets less than its value at the top is held back on each of its path
-- groups, by a closing whose link would be over at the next share
abbrev pub IsHeldBack : Wan → Table → Type 0
IsHeldBack wan table = (group place : ℕ) → group < length wan.groups
    → place < path_group_count wan.groups group → amount_in table group < wan.value group wan.top
    → (closing : Closing) × (earlier : List Closing)
    × IsHeldBy wan (reverse table.closings) group place closing earlier

-- Conservation law: the limits of a group's tasks add up to its amount
abbrev pub IsConserved : Tree → Table → Type 0
IsConserved tree table = (group : ℕ) → group < length tree.clusters
    → sum (map (slice_index table.limits) (cluster_numbers (cluster_in tree group)))
    ≡ amount_in table group

-- No more than asked: each task's limit is at most its demand, and at most its weight times what
-- its job's task function gives at the top share
abbrev pub IsNoMoreThanAsked : Tree → Table → Type 0
IsNoMoreThanAsked tree table = AreAskedFor tree.top (demand_in tree) tree.clusters table.limits

-- The same share: a group's amount is exactly what its function gives at its stop share, and at
-- each closing every group that then grew over the link stood at the closing's share
abbrev pub IsShared : Wan → Table → Type 0
IsShared wan table = IsSharedAlike wan table.groups (reverse table.closings)

-- No waste: where a group has less than its value at the top, each of its path groups uses a closed
-- link; and each closed link has less free than the groups that then grew over it would have added
-- to its load with the next whole share
abbrev pub IsUnwasted : Wan → Table → Type 0
IsUnwasted wan table = IsWithoutWaste wan table.groups table.loads (reverse table.closings)

-- Max-min law: where each group has one path group, a group with a higher share in another
-- assignment has it at the cost of another group over the link that stopped it, which has no more
-- there
abbrev pub IsFair : Wan → Table → Type 0
IsFair wan table = HasOnePathGroupEach wan.groups → IsMaxMin wan table.groups

-- Nobody's place matters: the table of every plan that has the groups in another order, with their
-- tasks, is this table in that order
abbrev pub IsTheSameInAnyOrder : Reported → List PathGroups → Table → Type 0
IsTheSameInAnyOrder reported groups table =
    IsInAnyOrder (plan_by reported groups) reported.prefix (demand_in reported.tree)
    reported.network.capacities table

-- One text, one table: under names that tell the links apart each table with the same text is this
-- table
abbrev pub IsTold : Reported → Table → Type 0
IsTold reported table = IsToldByItsText (length reported.network.capacities) table
