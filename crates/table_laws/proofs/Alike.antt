-- A plan with its groups in another order has the same table, in that order.
use Rattle.std.proofs.Common.{◌≡◌, ℕ, ◌<◌, List, [], length, map, reverse, slice_index_or, sym, ◌∙◌, ap, ap₂, arith, zero-add}
use Rattle.std.proofs.lemmas.List.FromFn.{length-map-range_with_len, get_or-map-range_with_len}
use Rattle.bwe_specs.specs.Filling.{Wan, filling, group_amount}
use Rattle.bwe_specs.specs.Reports.{numbers}
use Rattle.bwe_specs.specs.Tree.{cluster_value, cluster_limits}
use Rattle.bwe_specs.specs.Allocation.{Plan, group_line, wan_under, table_under}
use Rattle.table_laws.specs.Tasks.{AreNumbered}
use Rattle.table_laws.specs.Tables.{line_at}
use Rattle.table_laws.specs.Order.{IsOrder, AreAlike, cluster_at, cluster_renumbered, limits_at, reordered}
use Rattle.table_laws.proofs.Numbers.{cluster_value-same, cluster_limits-same}
use Rattle.table_laws.proofs.Pieces.{limits-at}
use Rattle.table_laws.proofs.Reordered.{closings-same, line-same, loads-are}

module _ (plan : Plan) (group_at renumber : ℕ → ℕ) where
  -- what stands at a place of the plan in another order
  pub same_groups : (place : ℕ) → place < length plan.groups → slice_index_or (reordered group_at renumber plan).groups place [] ≡ slice_index_or plan.groups (group_at place) []
  same_groups place lt = get_or-map-range_with_len (λ place. slice_index_or plan.groups (group_at place) []) 0 (length plan.groups) place place [] lt (zero-add place)

  pub same_cluster : (place : ℕ) → place < length plan.groups → cluster_at (reordered group_at renumber plan) place ≡ cluster_renumbered renumber (cluster_at plan (group_at place))
  same_cluster place lt = get_or-map-range_with_len (λ place. cluster_renumbered renumber (cluster_at plan (group_at place))) 0 (length plan.groups) place place _ lt (zero-add place)

  pub same_values : (demand other : ℕ → ℕ) (capacities : List ℕ) → ((task : ℕ) → other (renumber task) ≡ demand task) → (place : ℕ) → place < length plan.groups → (share : ℕ)
      → (wan_under (reordered group_at renumber plan) other capacities).value place share ≡ (wan_under plan demand capacities).value (group_at place) share
  same_values demand other capacities same place lt share =
      ap (λ cluster. cluster_value plan.top other cluster share) (same_cluster place lt)
      ∙ ap (λ value. value share) (cluster_value-same plan.top renumber demand other same (cluster_at plan (group_at place)))

module _ (plan : Plan) (group_at place_of renumber : ℕ → ℕ) (prefix : ℕ) (demand other : ℕ → ℕ) (capacities : List ℕ)
    (one_each : length plan.clusters ≡ length plan.groups) (order : IsOrder (length plan.groups) group_at place_of) (same : (task : ℕ) → other (renumber task) ≡ demand task) where
  abbrev wan : Wan
  wan = wan_under plan demand capacities

  abbrev moved_plan : Plan
  moved_plan = reordered group_at renumber plan

  abbrev moved : Wan
  moved = wan_under moved_plan other capacities

  abbrev n : ℕ
  n = length plan.groups

  count : length moved_plan.groups ≡ n
  count = length-map-range_with_len _ 0 n

  lines-same : (place : ℕ) → place < n → group_line moved (filling moved) place ≡ group_line wan (filling wan) (group_at place)
  lines-same =
      line-same wan moved_plan.groups moved.value group_at place_of count order (same_groups plan group_at renumber)
      (same_values plan group_at renumber demand other capacities same)

  line-is : (place : ℕ) → place < n → line_at (table_under moved_plan prefix other capacities).groups place ≡ line_at (table_under plan prefix demand capacities).groups (group_at place)
  line-is place lt =
      get_or-map-range_with_len (group_line moved (filling moved)) 0 (length moved_plan.groups) place place _ (omega (arith, count, lt)) (zero-add place)
      ∙ lines-same place lt
      ∙ sym (get_or-map-range_with_len (group_line wan (filling wan)) 0 n (group_at place) (group_at place) _ (order.within place lt) (zero-add (group_at place)))

  -- the limits of the tasks of a cluster, by its amount
  limits-are : AreNumbered plan.clusters → (group : ℕ) → group < n
      → limits_at plan (table_under plan prefix demand capacities).limits group ≡ cluster_limits plan.top demand (cluster_at plan group) (group_line wan (filling wan) group).amount
  limits-are numbered group lt =
      let amount : ℕ → ℕ = group_amount wan (filling wan).amounts in
      let clusters = length plan.clusters in
      limits-at plan.top demand plan.clusters (map amount (numbers clusters)) numbered (length-map-range_with_len amount 0 clusters) group _ (omega (arith, one_each, lt))
      ∙ ap (cluster_limits plan.top demand (cluster_at plan group)) (get_or-map-range_with_len amount 0 clusters group group 0 (omega (arith, one_each, lt)) (zero-add group))

  moved-limits-are : AreNumbered moved_plan.clusters → (place : ℕ) → place < n
      → limits_at moved_plan (table_under moved_plan prefix other capacities).limits place ≡ cluster_limits plan.top other (cluster_at moved_plan place) (group_line moved (filling moved) place).amount
  moved-limits-are numbered place lt =
      let amount : ℕ → ℕ = group_amount moved (filling moved).amounts in
      let clusters = length moved_plan.clusters in
      let many : clusters ≡ n = length-map-range_with_len _ 0 n in
      limits-at plan.top other moved_plan.clusters (map amount (numbers clusters)) numbered (length-map-range_with_len amount 0 clusters) place _ (omega (arith, many, lt))
      ∙ ap (cluster_limits plan.top other (cluster_at moved_plan place)) (get_or-map-range_with_len amount 0 clusters place place 0 (omega (arith, many, lt)) (zero-add place))

  limits-same : AreNumbered plan.clusters → AreNumbered moved_plan.clusters → (place : ℕ) → place < n
      → limits_at moved_plan (table_under moved_plan prefix other capacities).limits place ≡ limits_at plan (table_under plan prefix demand capacities).limits (group_at place)
  limits-same numbered moved_numbered place lt =
      moved-limits-are moved_numbered place lt
      ∙ ap₂ (cluster_limits plan.top other) (same_cluster plan group_at renumber place lt) (ap (λ line. line.amount) (lines-same place lt))
      ∙ cluster_limits-same plan.top renumber demand other same (cluster_at plan (group_at place)) (group_line wan (filling wan) (group_at place)).amount
      ∙ sym (limits-are numbered (group_at place) (order.within place lt))

  pub alike : AreNumbered plan.clusters → AreNumbered moved_plan.clusters
      → AreAlike plan moved_plan group_at (table_under plan prefix demand capacities) (table_under moved_plan prefix other capacities)
  alike numbered moved_numbered = record {
    lines = line-is;
    limits = limits-same numbered moved_numbered;
    loads = loads-are wan moved_plan.groups moved.value group_at place_of count order (same_groups plan group_at renumber) (same_values plan group_at renumber demand other capacities same);
    closings = ap reverse (closings-same wan moved_plan.groups moved.value group_at place_of count order (same_groups plan group_at renumber) (same_values plan group_at renumber demand other capacities same));
  }
