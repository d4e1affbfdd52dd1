-- A table is told by its text, and is that of every plan with the groups in another order.
use Rattle.std.proofs.Common.{◌≡◌, ℕ, ◌<◌, ◌≤◌, ◌^◌, List, [], length, get_or, slice_index, sym, ap, ◌∙◌, subst, arith}
use Rattle.std.specs.List.{All}
use Rattle.std.proofs.lemmas.List.{length-map, get_or-map, get_or_default}
use Rattle.std.proofs.lemmas.List.FromFn.{get_or-range_with_len}
use Rattle.bwe_specs.specs.Paths.{PathGroups}
use Rattle.bwe_specs.specs.Filling.{Wan, filling}
use Rattle.bwe_specs.specs.Values.{AreValues}
use Rattle.bwe_specs.proofs.Bounds.{sum_below-term}
use Rattle.policy_tree.specs.Trees.{IsTree, demand_in, value_in}
use Rattle.wan_topology.specs.Network.{IsNetwork}
use Rattle.table_laws.specs.Tasks.{AreNumbered, JobTask, tasks_of}
use Rattle.table_laws.proofs.Alike.{alike}
use Rattle.table_laws.proofs.Named.{IsSmall, told-by_text}
use Rattle.table_laws.proofs.Walks.{number_of, numbered, walk-numbers}
use Rattle.plain_table.specs.Reported.{Reported}
use Rattle.plain_table.specs.Tables.{IsFitted, plan_by, table_by, wan_by}
use Rattle.plain_table.proofs.Lengths.{length-limits_of}
use Rattle.plain_table.proofs.Made.{never, bound}
use Rattle.allocator.specs.Laws.{IsTold, IsTheSameInAnyOrder}
use Rattle.allocator.proofs.Lawful.{table-asked}

no_task : JobTask
no_task = record { function = []; task = record { number = 0; weight = 0 } }

module _ (reported : Reported) (groups : List PathGroups) (fitted : IsFitted reported groups) (values : AreValues (length reported.tree.clusters) reported.tree.top (value_in reported.tree))
    (tree : IsTree reported.tree) where
  abbrev wan : Wan
  wan = wan_by reported groups

  abbrev tasks : List JobTask
  tasks = tasks_of reported.tree.clusters

  walked : AreNumbered reported.tree.clusters
  walked = numbered reported.tree.clusters (length reported.tree.demands) tree.numbers

  pub table-in_any_order : IsTheSameInAnyOrder reported groups (table_by reported groups)
  table-in_any_order group_at place_of renumber other order moved same =
      alike (plan_by reported groups) group_at place_of renumber reported.prefix (demand_in reported.tree) other reported.network.capacities
      fitted.clusters order same walked moved

  tasks-count : length tasks ≡ length reported.tree.demands
  tasks-count = sym (length-map tasks number_of) ∙ ap length (walk-numbers reported.tree.clusters) ∙ sym fitted.tasks

  -- no limit is above a demand, and so each is small
  limit-small : (task : ℕ) → task < length reported.tree.demands → slice_index (table_by reported groups).limits task < 2 ^ 64
  limit-small task lt =
      let within : task < length tasks = omega (arith, tasks-count, lt) in
      let number : number_of (get_or tasks task no_task) ≡ task =
      sym (get_or-map number_of tasks task no_task 0 within) ∙ ap (λ list. get_or list task 0) walked
      ∙ get_or-range_with_len 0 (length tasks) task 0 within ∙ omega arith in
      let asked = (table-asked reported groups fitted values tree task no_task within).demanded in
      let demand : slice_index (table_by reported groups).limits task ≤ demand_in reported.tree task =
      subst (λ n. slice_index (table_by reported groups).limits n ≤ demand_in reported.tree n) number asked in
      omega (arith, demand, tree.demands task 0 lt)

  limits-small : All (λ limit. limit < 2 ^ 64) (table_by reported groups).limits
  limits-small task d lt =
      let count = length-limits_of (plan_by reported groups) (demand_in reported.tree) wan (filling wan) in
      let within : task < length reported.tree.demands = omega (arith, count, fitted.tasks, lt) in
      subst (λ limit. limit < 2 ^ 64) (get_or_default (table_by reported groups).limits task 0 d lt) (limit-small task within)

  small : IsNetwork reported.network → IsSmall wan
  small network = record {
    never = never reported groups fitted values;
    top = omega (arith, values.top_small);
    values = λ group lt.
        omega (arith, sum_below-term (length groups) group (λ group. wan.value group wan.top) lt, bound reported groups fitted values);
    capacities = λ link d lt. omega (arith, network.capacities_in_range link d lt);
  }

  pub table-told : IsNetwork reported.network → reported.prefix < 2 ^ 64 → IsTold reported (table_by reported groups)
  table-told network few =
      told-by_text (plan_by reported groups) reported.prefix (demand_in reported.tree) reported.network.capacities (small network) few limits-small
