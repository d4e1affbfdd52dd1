-- The table that a filling makes.
use Rattle.std.proofs.Common.{◌≡◌, ℕ, ◌<◌, ◌≤◌, List, length, map, flat_map, zip, slice_index, sum_by, ap₂, sym, ap, ◌∙◌, subst, arith, zero-add}
use Rattle.std.proofs.lemmas.List.FromFn.{length-map-range_with_len, get_or-map-range_with_len}
use Rattle.bwe_specs.specs.declared.limits.TheConstants.{MAX_TOTAL}
use Rattle.bwe_specs.specs.declared.network.Closing.{Closing}
use Rattle.bwe_specs.specs.Bounded.{sum_below}
use Rattle.bwe_specs.specs.Paths.{PathGroups, link_load}
use Rattle.bwe_specs.specs.Filling.{Wan, filling, group_amount}
use Rattle.bwe_specs.specs.Reports.{numbers}
use Rattle.bwe_specs.specs.Tree.{cluster_limits}
use Rattle.bwe_specs.specs.Values.{AreValues, NeverFalls}
use Rattle.bwe_specs.specs.Allocation.{GroupLine, group_line, limits_of}
use Rattle.bwe_specs.proofs.Sums.{sum_by-numbers}
use Rattle.limit_table.specs.Tables.{IsTable}
use Rattle.limit_table.proofs.Parts.{table_parts}
use Rattle.mpfa_fill.specs.declared.filling.Filling.{Filling}
use Rattle.mpfa_fill.specs.Filling.{IsFilling}
use Rattle.policy_tree.specs.Trees.{IsTree, demand_in, value_in}
use Rattle.wan_topology.specs.Network.{IsNetwork}
use Rattle.plain_table.specs.Lines.{HasRows, line_in}
use Rattle.plain_table.specs.Reported.{Reported}
use Rattle.plain_table.specs.Tables.{IsFitted, plan_by, table_by, wan_by}
use Rattle.plain_table.proofs.Filled.{amounts-of_lines, amounts-total, amount-at_most, lines-are, has_rows}
use Rattle.plain_table.proofs.Lengths.{length-limits_of}

module _ (reported : Reported) (groups : List PathGroups) (fitted : IsFitted reported groups) (values : AreValues (length reported.tree.clusters) reported.tree.top (value_in reported.tree)) where
  abbrev wan : Wan
  wan = wan_by reported groups

  pub never : NeverFalls (wan_by reported groups)
  never = record { next = values.never_falls }

  -- what all groups may have at the top is bounded
  pub bound : sum_below (length groups) (λ group. wan.value group wan.top) ≤ MAX_TOTAL
  bound = subst (λ count. sum_below count (λ group. wan.value group wan.top) ≤ MAX_TOTAL) fitted.clusters values.together

  module _ (filled : Filling) (is : IsFilling (wan_by reported groups) filled) where
    pub made-rows : HasRows groups filled
    made-rows = has_rows wan filled is never bound

    module _ (lines : List GroupLine) (are : lines ≡ map (line_in groups filled) (numbers (length groups))) where
      made-lines : lines ≡ map (group_line wan (filling wan)) (numbers (length groups))
      made-lines = are ∙ lines-are wan filled is

      made-amounts : map (λ line. line.amount) lines ≡ map (group_amount wan (filling wan).amounts) (numbers (length reported.tree.clusters))
      made-amounts =
          ap (map (λ line. line.amount)) made-lines ∙ amounts-of_lines wan (length reported.tree.clusters) (sym fitted.clusters)

      pub made-count : length lines ≡ length reported.tree.clusters
      made-count = ap length are ∙ length-map-range_with_len (line_in groups filled) 0 (length groups) ∙ sym fitted.clusters

      pub made-within : (group : ℕ) → group < length reported.tree.clusters → slice_index (map (λ line. line.amount) lines) group ≤ value_in reported.tree group reported.tree.top
      made-within group lt =
          subst (λ n. n ≤ value_in reported.tree group reported.tree.top)
          (sym (ap (λ amounts. slice_index amounts group) made-amounts ∙ get_or-map-range_with_len (group_amount wan (filling wan).amounts) 0 (length reported.tree.clusters) group group 0 lt (zero-add group)))
          (amount-at_most wan never bound group)

      module _ (limits loads : List ℕ) (closings : List Closing)
          (limits-are : limits ≡ flat_map (λ given. cluster_limits reported.tree.top (demand_in reported.tree) given.0 given.1) (zip reported.tree.clusters (map (λ line. line.amount) lines)))
          (loads-are : loads ≡ filled.loads.items)
          (closings-are : closings ≡ filled.closings.items) where
        made-limits : limits ≡ limits_of (plan_by reported groups) (demand_in reported.tree) wan (filling wan)
        made-limits =
            limits-are
            ∙ ap (λ amounts. flat_map (λ given. cluster_limits reported.tree.top (demand_in reported.tree) given.0 given.1) (zip reported.tree.clusters amounts)) made-amounts

        -- the table is that of the tree and the network
        pub made-table : table_parts reported.prefix limits lines loads closings ≡ table_by reported groups
        made-table =
            ap (λ limits. table_parts reported.prefix limits lines loads closings) made-limits
            ∙ (ap (λ lines. table_parts reported.prefix (limits_of (plan_by reported groups) (demand_in reported.tree) wan (filling wan)) lines loads closings) made-lines
            ∙ ap₂ (table_parts reported.prefix (limits_of (plan_by reported groups) (demand_in reported.tree) wan (filling wan)) (map (group_line wan (filling wan)) (numbers (length groups))))
            (loads-are ∙ is.loads) (closings-are ∙ is.closings))

        -- and it is a table: its total is bounded, and its numbers fit
        pub made-is_table : IsTree reported.tree → IsNetwork reported.network → IsTable (table_parts reported.prefix limits lines loads closings)
        made-is_table tree network = record {
          total =
              subst (λ n. n ≤ MAX_TOTAL)
              (sym (ap (sum_by (λ line. line.amount)) made-lines ∙ sum_by-numbers (λ line. line.amount) (group_line wan (filling wan)) (length groups)))
              (amounts-total wan never bound);
          tasks = omega (arith, ap length made-limits, length-limits_of (plan_by reported groups) (demand_in reported.tree) wan (filling wan), fitted.tasks, tree.few);
          groups = omega (arith, made-count, fitted.clusters, fitted.plan.few_groups);
          links =
              omega (arith, ap length (loads-are ∙ is.loads), length-map-range_with_len (link_load groups (filling wan).amounts) 0 (length reported.network.capacities), network.few_links);
        }
