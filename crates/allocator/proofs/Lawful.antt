-- The laws of the table under the demands and capacities that were reported last.
use Rattle.std.proofs.Common.{◌≡◌, ℕ, ◌<◌, ◌≤◌, List, [], length, map, flat_map, reverse, get_or, slice_index, sum, None, Result, Ok, Err, IfOk, refl, sym, ap, ◌∙◌, subst, arith, zero-add}
use Rattle.std.proofs.lemmas.List.{reverse-reverse}
use Rattle.std.proofs.lemmas.List.FromFn.{length-range_with_len, length-map-range_with_len, get_or-map-range_with_len}
use Rattle.bwe_specs.specs.Paths.{PathGroups, link_load}
use Rattle.bwe_specs.specs.Filling.{Wan, filling, group_amount}
use Rattle.bwe_specs.specs.Reports.{numbers}
use Rattle.bwe_specs.specs.Tree.{cluster_limits}
use Rattle.bwe_specs.specs.Values.{AreValues}
use Rattle.bwe_specs.specs.Allocation.{Table}
use Rattle.bwe_specs.proofs.HandedOut.{cluster-at, sum-cluster_limits}
use Rattle.bwe_specs.proofs.Loads.{fits-each}
use Rattle.bwe_specs.proofs.Steps.{filling-sound}
use Rattle.allocation_laws.proofs.HeldBack.{held_back}
use Rattle.policy_tree.specs.Trees.{IsTree, cluster_numbers, demand_in, value_in}
use Rattle.policy_tree.specs.Nodes.{cluster_in}
use Rattle.table_laws.proofs.Asked.{no-more-than-asked}
use Rattle.table_laws.proofs.Shared.{shared-alike}
use Rattle.table_laws.proofs.Walks.{numbered}
use Rattle.table_laws.proofs.Wasted.{without-waste}
use Rattle.max_min.proofs.MaxMin.{max-min}
use Rattle.plain_table.specs.Reported.{Reported}
use Rattle.plain_table.specs.Tables.{IsFitted, plan_by, table_by, wan_by}
use Rattle.plain_table.proofs.Filled.{amount-at_most, amounts-of_lines}
use Rattle.plain_table.proofs.Lengths.{length-cluster_limits}
use Rattle.plain_table.proofs.Made.{never, bound}
use Rattle.allocator.specs.Laws.{IsNoMoreThanAsked, IsConserved, IsShared, IsFeasible, IsHeldBack, IsUnwasted, IsFair, amount_in}
use Rattle.allocator.proofs.Pieces.{piece-at}

-- what holds of a table holds of an answer that is that table
pub ok-where : {E : Type 0} (answer : Result Table E) (P : Table → Type 0) (table : Table) → P table → IfOk answer (λ made. made ≡ table) → IfOk answer P
ok-where (Ok made) P table holds is = subst P (sym is) holds
ok-where (Err error) P table holds is = tt

module _ (reported : Reported) (groups : List PathGroups) (fitted : IsFitted reported groups) (values : AreValues (length reported.tree.clusters) reported.tree.top (value_in reported.tree)) where
  abbrev wan : Wan
  wan = wan_by reported groups

  amount-is : (group : ℕ) → group < length groups → amount_in (table_by reported groups) group ≡ group_amount wan (filling wan).amounts group
  amount-is group lt =
      ap (λ amounts. slice_index amounts group) (amounts-of_lines wan (length groups) refl)
      ∙ get_or-map-range_with_len (group_amount wan (filling wan).amounts) 0 (length groups) group group 0 lt (zero-add group)

  pub table-feasible : IsFeasible reported.network.capacities (table_by reported groups)
  table-feasible link lt =
      let load : slice_index (table_by reported groups).loads link ≡ link_load groups (filling wan).amounts link =
      get_or-map-range_with_len (link_load groups (filling wan).amounts) 0 (length reported.network.capacities) link link 0 lt (zero-add link) in
      subst (λ n. n ≤ slice_index reported.network.capacities link) (sym load)
      (fits-each groups reported.network.capacities (filling wan).amounts (filling-sound wan (never reported groups fitted values)).fits link lt)

  pub table-held_back : IsHeldBack wan (table_by reported groups)
  table-held_back group place lt within less =
      let closings : reverse (table_by reported groups).closings ≡ (filling wan).closings = reverse-reverse (filling wan).closings in
      let less' : group_amount wan (filling wan).amounts group < wan.value group wan.top = subst (λ n. n < wan.value group wan.top) (amount-is group lt) less in
      rw (closings) (held_back wan (never reported groups fitted values) group (values.starts group) (omega arith) less' place within)

  pub table-conserved : IsTree reported.tree → IsConserved reported.tree (table_by reported groups)
  table-conserved tree group lt =
      let top = reported.tree.top in
      let demand = demand_in reported.tree in
      let clusters = reported.tree.clusters in
      let amounts : List ℕ = map (group_amount wan (filling wan).amounts) (numbers (length clusters)) in
      let amount : ℕ = group_amount wan (filling wan).amounts group in
      let read : get_or amounts group 0 ≡ amount = get_or-map-range_with_len (group_amount wan (filling wan).amounts) 0 (length clusters) group group 0 lt (zero-add group) in
      let whole : flat_map cluster_numbers clusters ≡ numbers (length (flat_map cluster_numbers clusters)) =
      tree.numbers ∙ ap numbers (sym (ap length tree.numbers ∙ length-range_with_len 0 (length reported.tree.demands))) in
      let limits : map (slice_index (table_by reported groups).limits) (cluster_numbers (cluster_in reported.tree group)) ≡ cluster_limits top demand (cluster_in reported.tree group) (get_or amounts group 0) =
      piece-at (λ given. cluster_limits top demand given.0 given.1) cluster_numbers (length-cluster_limits top demand) clusters amounts []
      (length-map-range_with_len (group_amount wan (filling wan).amounts) 0 (length clusters)) whole group (record { configured = None; users = [] }) lt in
      ap sum (limits ∙ ap (cluster_limits top demand (cluster_in reported.tree group)) read)
      ∙ sum-cluster_limits top demand (cluster_in reported.tree group) (cluster-at top clusters tree.functions group) amount
      (amount-at_most wan (never reported groups fitted values) (bound reported groups fitted values) group)
      ∙ sym (amount-is group (omega (arith, fitted.clusters)))

  pub table-asked : IsTree reported.tree → IsNoMoreThanAsked reported.tree (table_by reported groups)
  table-asked tree =
      no-more-than-asked (plan_by reported groups) reported.prefix (demand_in reported.tree) reported.network.capacities tree.functions
      (numbered reported.tree.clusters (length reported.tree.demands) tree.numbers)

  pub table-shared : IsShared wan (table_by reported groups)
  table-shared =
      let closings : reverse (table_by reported groups).closings ≡ (filling wan).closings = reverse-reverse (filling wan).closings in
      rw (closings) (shared-alike wan (never reported groups fitted values) values.starts)

  pub table-unwasted : IsUnwasted wan (table_by reported groups)
  table-unwasted =
      let closings : reverse (table_by reported groups).closings ≡ (filling wan).closings = reverse-reverse (filling wan).closings in
      rw (closings) (without-waste wan (never reported groups fitted values) values.starts)

  pub table-fair : IsFair wan (table_by reported groups)
  table-fair each = max-min wan (never reported groups fitted values) values.starts each
