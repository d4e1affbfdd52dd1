-- More links or tasks than a document may have. Its version decides how many it may have.
use Rattle.std.specs.Prelude.{ℕ, List, length, nat_lt, if◌then◌else◌, Option, Some, None}
use Rattle.std.specs.Option.{option_or}
use Rattle.bwe_specs.specs.Tree.{Cluster}
use Rattle.wan_topology.specs.declared.fault.TopologyFault.{TopologyFault}
use Rattle.wan_topology.specs.declared.fault.TopologyFault.TheVariants.{TooManyLinks}
use Rattle.wan_topology.specs.Network.{Link}
use Rattle.wan_topology.specs.Faults.{topology_fault}
use Rattle.tree_spec.specs.declared.fault.TreeFault.{TreeFault}
use Rattle.tree_spec.specs.declared.fault.TreeFault.TheVariants.{TooManyTasks}
use Rattle.tree_spec.specs.Trees.{task_numbers}
use Rattle.tree_spec.specs.Walk.{tree_fault}

-- the fault of links, of which there may be so many: their number is looked at first
unfoldable pub links_fault : ℕ → List Link → Option TopologyFault
links_fault most links =
    if nat_lt most (length links) then Some (TooManyLinks (length links)) else topology_fault links

abbrev pub tasks_fault : ℕ → ℕ → Option TreeFault
tasks_fault most count = if nat_lt most count then Some (TooManyTasks count) else None

-- the fault of a tree of these clusters, which may have so many tasks: a node without children
-- comes before too many tasks
unfoldable pub clusters_fault : ℕ → List Cluster → Option TreeFault
clusters_fault most clusters =
    option_or (tree_fault clusters) (tasks_fault most (length (task_numbers clusters)))
