-- What is known of every table of tiers.
use Rattle.std.specs.Prelude.{ℕ, ◌<◌, ◌≤◌, ◌^◌, List, length, sum_by, slice_index}
use Rattle.bwe_specs.specs.declared.limits.TheConstants.{MAX_TOTAL}
use Rattle.bwe_specs.specs.Paths.{PathGroups}
use Rattle.bwe_specs.specs.Allocation.{Plan}
use Rattle.policy_tree.specs.Trees.{Tree}
use Rattle.wan_topology.specs.Network.{Network}
use Rattle.tiers.specs.Tiered.{Tiered}

-- the total is bounded, and each number of a task, group or link fits 32 bits
pub record IsTierTable (table : Tiered) : Type 0 where
  pub total : sum_by (λ line. line.amount) table.groups ≤ MAX_TOTAL
  pub tasks : length table.limits < 2 ^ 32
  pub groups : length table.groups < 2 ^ 32
  pub links : length table.loads < 2 ^ 32

-- the plan that a tree, a network and path groups are
abbrev pub plan_of : Tree → Network → List PathGroups → Plan
plan_of tree network groups =
    record {
      top = tree.top;
      clusters = tree.clusters;
      groups = groups;
      capacities = network.capacities;
    }

-- no link's load exceeds its capacity
abbrev pub IsFeasible : List ℕ → Tiered → Type 0
IsFeasible capacities table = (link : ℕ) → link < length capacities
    → slice_index table.loads link ≤ slice_index capacities link
