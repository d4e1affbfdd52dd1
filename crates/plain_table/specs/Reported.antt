-- A tree and a network as they stand after reports.
use Rattle.std.specs.Prelude.{◌≡◌, ℕ, ◌+◌, List, length, slice_set}
use Rattle.bwe_specs.specs.declared.report.Report.{Report}
use Rattle.bwe_specs.specs.declared.report.Target.{Target}
use Rattle.bwe_specs.specs.declared.report.Target.TheVariants.{Task, Link}
use Rattle.bwe_specs.specs.Reports.{demand_after, capacities_after}
use Rattle.policy_tree.specs.Trees.{Tree, asking, demand_in}
use Rattle.wan_topology.specs.Network.{Network}

-- the tree with its demands, the network with its present capacities, the capacities that it was
-- given at first, and how many reports there were
pub record Reported : Type 0 where
  pub tree : Tree
  pub network : Network
  pub given : List ℕ
  pub prefix : ℕ

abbrev pub reported_with : Tree → Network → List ℕ → ℕ → Reported
reported_with tree network given prefix =
    record { tree = tree; network = network; given = given; prefix = prefix }

-- where the capacities that the network was given at first do not count, the present ones are taken
-- for them
abbrev pub reported_in : Tree → Network → ℕ → Reported
reported_in tree network prefix = reported_with tree network network.capacities prefix

-- the network with another capacity of one link
abbrev pub with_capacity : Network → ℕ → ℕ → Network
with_capacity network link capacity =
    record network { capacities = slice_set network.capacities link capacity }

-- what a report changes: the demand of its task, or the capacity of its link
abbrev pub told : Reported → Target → ℕ → Reported
told reported (Task number) amount = record reported { tree = asking reported.tree number amount }
told reported (Link number) amount =
    record reported { network = with_capacity reported.network number amount }

-- after one report more
abbrev pub with_report : Reported → Report → Reported
with_report reported report =
    record (told reported report.target report.amount) { prefix = reported.prefix + 1 }

-- the tree has the demands, and the network the capacities, after these reports
pub record IsAfter (reported : Reported) (reports : List Report) : Type 0 where
  pub prefix : reported.prefix ≡ length reports
  pub demands : (task : ℕ) → demand_in reported.tree task ≡ demand_after reports task
  pub capacities : reported.network.capacities ≡ capacities_after reported.given reports
