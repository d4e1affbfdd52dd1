-- What a table is made of, and of what plan it is.
use Rattle.std.specs.Prelude.{◌≡◌, List, length}
use Rattle.bwe_specs.specs.Paths.{PathGroups}
use Rattle.bwe_specs.specs.Filling.{Wan}
use Rattle.bwe_specs.specs.Allocation.{Plan, Table, table_under}
use Rattle.mpfa_fill.specs.GroupValues.{wan_of}
use Rattle.path_groups.specs.Plan.{IsBuiltOn, IsPlan}
use Rattle.policy_tree.specs.Trees.{demand_in, task_numbers}
use Rattle.plain_table.specs.Reported.{Reported}
use Rattle.plain_table.specs.Values.{values_of}

-- what is filled under the demands and capacities that were reported last
abbrev pub wan_by : Reported → List PathGroups → Wan
wan_by reported groups = wan_of (values_of reported.tree) groups reported.network.capacities

-- the plan of its tables: the capacities are those that the network was given at first
abbrev pub plan_by : Reported → List PathGroups → Plan
plan_by reported groups =
    record {
      top = reported.tree.top;
      clusters = reported.tree.clusters;
      groups = groups;
      capacities = reported.given;
    }

-- the table under the demands and capacities that were reported last
abbrev pub table_by : Reported → List PathGroups → Table
table_by reported groups =
    table_under (plan_by reported groups) reported.prefix (demand_in reported.tree)
    reported.network.capacities

-- the path groups go over the links of the network, the tree has their groups, and nothing is
-- missing or left over
pub record IsFitted (reported : Reported) (groups : List PathGroups) : Type 0 where
  pub plan : IsPlan groups
  pub built_on : IsBuiltOn reported.network groups
  pub clusters : length reported.tree.clusters ≡ length groups
  pub tasks : length reported.tree.demands ≡ length (task_numbers reported.tree.clusters)
  pub links : length reported.network.capacities ≡ length reported.given
