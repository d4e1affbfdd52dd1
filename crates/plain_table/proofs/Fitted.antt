-- No report changes which path groups are fitted to a network and a tree, nor the plan of the tables.
use Rattle.std.proofs.Common.{◌≡◌, ℕ, zero, suc, List, [], length, get_or, ap₂, replicate, refl, sym, ap, ◌∙◌}
use Rattle.std.specs.Prelude.{slice_set}
use mathlib.Core.Path.{fun_ext}
use Rattle.std.proofs.lemmas.List.{length-set}
use Rattle.std.proofs.lemmas.List.FromFn.{fill_by_all, length-range_with_len}
use Rattle.bwe_specs.specs.declared.report.Report.{Report}
use Rattle.bwe_specs.specs.declared.report.Target.{Target}
use Rattle.bwe_specs.specs.declared.report.Target.TheVariants.{Task, Link}
use Rattle.bwe_specs.specs.Paths.{PathGroups}
use Rattle.bwe_specs.specs.Reports.{last_amount, demand_after, capacity_after, capacities_after}
use Rattle.bwe_specs.specs.Allocation.{allocation, table_under, wan_after, wan_under}
use Rattle.mpfa_fill.specs.GroupValues.{wan_of}
use Rattle.plain_table.specs.Values.{values_of}
use Rattle.wan_topology.specs.Network.{Network}
use Rattle.path_groups.specs.Plan.{IsBuiltOn, IsPlan}
use Rattle.path_groups.proofs.OtherCapacities.{built_on-same}
use Rattle.policy_tree.specs.Trees.{Tree, IsTree, demand_in}
use Rattle.plain_table.specs.Reported.{Reported, IsAfter, told, with_report, with_capacity, reported_in}
use Rattle.plain_table.specs.Tables.{IsFitted, plan_by, table_by}

length-capacities : (network : Network) (link amount : ℕ) → length (with_capacity network link amount).capacities ≡ length network.capacities
length-capacities network link amount = length-set network.capacities link amount

fitted-told : (reported : Reported) (groups : List PathGroups) (target : Target) (amount : ℕ) → IsFitted reported groups → IsFitted (told reported target amount) groups
fitted-told reported groups (Task number) amount is = record {
  plan = is.plan;
  built_on = is.built_on;
  clusters = is.clusters;
  tasks = length-set reported.tree.demands number amount ∙ is.tasks;
  links = is.links;
}
fitted-told reported groups (Link number) amount is = record {
  plan = is.plan;
  built_on = built_on-same reported.network (slice_set reported.network.capacities number amount) groups (length-capacities reported.network number amount) is.built_on;
  clusters = is.clusters;
  tasks = is.tasks;
  links = length-capacities reported.network number amount ∙ is.links;
}

-- after one report more all is fitted as before
pub fitted-report : (reported : Reported) (groups : List PathGroups) (report : Report) → IsFitted reported groups → IsFitted (with_report reported report) groups
fitted-report reported groups report is =
    let fitted = fitted-told reported groups report.target report.amount is in
    record { plan = fitted.plan; built_on = fitted.built_on; clusters = fitted.clusters; tasks = fitted.tasks; links = fitted.links }

plan-told : (reported : Reported) (groups : List PathGroups) (target : Target) (amount : ℕ) → plan_by (told reported target amount) groups ≡ plan_by reported groups
plan-told reported groups (Task number) amount = refl
plan-told reported groups (Link number) amount = refl

-- and the plan is the same
pub plan-report : (reported : Reported) (groups : List PathGroups) (report : Report) → plan_by (with_report reported report) groups ≡ plan_by reported groups
plan-report reported groups report = plan-told reported groups report.target report.amount

zeros-read : (count place nothing : ℕ) → get_or (replicate count nothing) place nothing ≡ nothing
zeros-read zero place nothing = refl
zeros-read (suc count) zero nothing = refl
zeros-read (suc count) (suc place) nothing = zeros-read count place nothing

-- a tree, a network and path groups over its links are fitted
pub fitted-in : (tree : Tree) (network : Network) (prefix : ℕ) (groups : List PathGroups) → IsTree tree → IsPlan groups → IsBuiltOn network groups → length tree.clusters ≡ length groups
    → IsFitted (reported_in tree network prefix) groups
fitted-in tree network prefix groups is plan built_on same = record {
  plan = plan;
  built_on = built_on;
  clusters = same;
  tasks = sym (ap length is.numbers ∙ length-range_with_len 0 (length tree.demands));
  links = refl;
}

-- before any report
pub after-idle : (tree : Tree) (network : Network) → tree.demands ≡ replicate (length tree.demands) 0 → IsAfter (reported_in tree network 0) []
unfolding capacities_after capacity_after demand_after last_amount
after-idle tree network asks_nothing = record {
  prefix = refl;
  demands = λ task. ap (λ demands. get_or demands task 0) asks_nothing ∙ zeros-read (length tree.demands) task 0;
  capacities = fill_by_all (capacity_after network.capacities []) network.capacities (length network.capacities) 0 refl (λ k lt. refl);
}

-- the table is that of the plan and the reports
pub table-after : (reported : Reported) (groups : List PathGroups) (reports : List Report) → IsAfter reported reports → table_by reported groups ≡ allocation (plan_by reported groups) reports
unfolding allocation
table-after reported groups reports after =
    let demands : demand_in reported.tree ≡ demand_after reports = fun_ext after.demands in
    ap (λ prefix. table_under (plan_by reported groups) prefix (demand_in reported.tree) reported.network.capacities) after.prefix
    ∙ ap₂ (table_under (plan_by reported groups) (length reports)) demands after.capacities

-- and so is what is filled
pub wan-after : (reported : Reported) (groups : List PathGroups) (reports : List Report) → IsAfter reported reports
    → wan_of (values_of reported.tree) groups reported.network.capacities ≡ wan_after (plan_by reported groups) reports
wan-after reported groups reports after =
    ap₂ (wan_under (plan_by reported groups)) (fun_ext after.demands) after.capacities
