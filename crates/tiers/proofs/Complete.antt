-- The whole table that the fillings of all tiers make.
use Rattle.std.proofs.Common.{◌≡◌, ℕ, ◌<◌, ◌≤◌, List, [], length, map, flat_map, zip, slice_index, refl, sym, ap, ap₂, ◌∙◌, subst, arith}
use Rattle.std.proofs.lemmas.List.FromFn.{length-range_with_len, length-map-range_with_len}
use Rattle.bwe_specs.specs.declared.network.Closing.{Closing}
use Rattle.bwe_specs.specs.Paths.{PathGroups, link_load}
use Rattle.bwe_specs.specs.Filling.{Wan, State, group_amount}
use Rattle.bwe_specs.specs.Reports.{numbers}
use Rattle.bwe_specs.specs.Tree.{cluster_limits}
use Rattle.bwe_specs.specs.Values.{AreValues}
use Rattle.bwe_specs.specs.Allocation.{GroupLine, limits_of}
use Rattle.policy_tree.specs.Trees.{Tree, IsTree, demand_in, value_in}
use Rattle.path_groups.specs.Plan.{IsPlan}
use Rattle.wan_topology.specs.Network.{Network, IsNetwork}
use Rattle.plain_table.proofs.Lengths.{length-limits_of}
use Rattle.table_laws.specs.Tasks.{AreAskedFor}
use Rattle.table_laws.specs.Order.{reordered}
use Rattle.table_laws.proofs.Walks.{numbered}
use Rattle.tiers.specs.Tiered.{Tiered, tier_closings, tier_count, tiered_amounts, tiered_line, tiered_under}
use Rattle.tiers.specs.Tables.{IsTierTable, plan_of}
use Rattle.tiers.specs.Places.{AreAlike, IsInAnyOrder, tiers_reordered}
use Rattle.tiers.specs.TierLaws.{IsNoMoreThanAsked, IsShared, IsUnwasted}
use Rattle.tiers.specs.Fillings.{Fillings, AreFilled, line_in_tier, wan_by}
use Rattle.tiers.proofs.Alike.{tiers-alike}
use Rattle.tiers.proofs.Step.{step-never, step-bound}
use Rattle.tiers.proofs.Lawful.{tiers-asked, tiers-shared, tiers-unwasted}
use Rattle.tiers.proofs.Made.{made-lines, made-count, made-amounts, made-total, made-loads, made-feasible}

abbrev table_parts : ℕ → List (List Closing) → List ℕ → List GroupLine → List ℕ → Tiered
table_parts prefix tiers limits groups loads = record { prefix = prefix; tiers = tiers; limits = limits; groups = groups; loads = loads }

module _ (tree : Tree) (initial : Network) (groups : List PathGroups) (tiers : List ℕ) (clusters : length tree.clusters ≡ length groups)
    (values : AreValues (length tree.clusters) tree.top (value_in tree)) (fillings : Fillings)
    (are : AreFilled (wan_by tree initial groups) tiers (tier_count tiers) fillings) (one_each : length tiers ≡ length groups)
    (closings : List (List Closing)) (closings-is : closings ≡ fillings.closings) (loads : List ℕ) (loads-is : loads ≡ fillings.loads)
    (lines : List GroupLine) (lines-are : lines ≡ map (λ group. line_in_tier groups fillings (slice_index tiers group) group) (numbers (length groups)))
    (limits : List ℕ) (limits-are : limits ≡ flat_map (λ given. cluster_limits tree.top (demand_in tree) given.0 given.1) (zip tree.clusters (map (λ line. line.amount) lines))) where
  abbrev wan : Wan
  wan = wan_by tree initial groups

  abbrev final : State
  final = record { share = 0; closings = []; amounts = tiered_amounts wan tiers }

  whole-limits : limits ≡ limits_of (plan_of tree initial groups) (demand_in tree) wan final
  whole-limits =
      limits-are
      ∙ ap (λ (amounts : List ℕ). flat_map (λ given. cluster_limits tree.top (demand_in tree) given.0 given.1) (zip tree.clusters amounts))
      (made-amounts wan tiers (step-never tree initial groups tiers clusters values) (step-bound tree initial groups tiers clusters values) fillings are one_each lines lines-are
      ∙ ap (λ (n : ℕ). map (group_amount wan (tiered_amounts wan tiers)) (numbers n)) (sym clusters))

  whole-lines : lines ≡ map (tiered_line wan tiers) (numbers (length groups))
  whole-lines =
      made-lines wan tiers (step-never tree initial groups tiers clusters values) (step-bound tree initial groups tiers clusters values) fillings are one_each lines lines-are

  whole-loads : loads ≡ map (link_load groups (tiered_amounts wan tiers)) (numbers (length initial.capacities))
  whole-loads =
      loads-is
      ∙ made-loads wan tiers (step-never tree initial groups tiers clusters values) (step-bound tree initial groups tiers clusters values) fillings are one_each

  -- it is the Tiered allocation ..
  pub whole-table : (prefix : ℕ)
      → table_parts prefix closings limits lines loads ≡ tiered_under (plan_of tree initial groups) prefix (demand_in tree) initial.capacities tiers
  unfolding tiered_under
  whole-table prefix =
      ap (λ (closings : List (List Closing)). table_parts prefix closings limits lines loads) (closings-is ∙ are.closings)
      ∙ (ap (λ (limits : List ℕ). table_parts prefix (map (tier_closings wan tiers) (numbers (tier_count tiers))) limits lines loads) whole-limits
      ∙ ap₂ (table_parts prefix (map (tier_closings wan tiers) (numbers (tier_count tiers))) (limits_of (plan_of tree initial groups) (demand_in tree) wan final)) whole-lines whole-loads)

  -- .. and a table: its total is bounded, and its numbers fit
  pub whole-is_table : (prefix : ℕ) → IsTree tree → IsPlan groups → IsNetwork initial → IsTierTable (table_parts prefix closings limits lines loads)
  whole-is_table prefix is_tree is_plan is_network = record {
    total = made-total wan tiers (step-never tree initial groups tiers clusters values) (step-bound tree initial groups tiers clusters values) fillings are one_each lines lines-are;
    tasks = omega (
      arith,
      ap length whole-limits,
      length-limits_of (plan_of tree initial groups) (demand_in tree) wan final,
      ap length is_tree.numbers,
      length-range_with_len 0 (length tree.demands),
      is_tree.few,
    );
    groups = omega (
      arith,
      is_plan.few_groups,
      made-count wan tiers (step-never tree initial groups tiers clusters values) (step-bound tree initial groups tiers clusters values) fillings are one_each lines lines-are,
    );
    links = omega (
      arith,
      ap length whole-loads,
      length-map-range_with_len (link_load groups (tiered_amounts wan tiers)) 0 (length initial.capacities),
      is_network.few_links,
    );
  }

  -- the laws of a table hold in each tier
  pub whole-asked : (prefix : ℕ) → IsTree tree → IsNoMoreThanAsked tree (table_parts prefix closings limits lines loads)
  whole-asked prefix is_tree =
      subst (λ (limits : List ℕ). AreAskedFor tree.top (demand_in tree) tree.clusters limits) (sym whole-limits)
      (tiers-asked tree wan tiers is_tree (λ group. refl) (step-never tree initial groups tiers clusters values) (step-bound tree initial groups tiers clusters values))

  pub whole-shared : (prefix : ℕ) → IsShared wan tiers (table_parts prefix closings limits lines loads)
  unfolding tiered_under
  whole-shared prefix =
      subst (λ (table : Tiered). IsShared wan tiers table) (sym (whole-table prefix))
      (tiers-shared wan tiers (step-never tree initial groups tiers clusters values) values.starts (step-bound tree initial groups tiers clusters values) one_each tree.clusters (demand_in tree) prefix)

  pub whole-unwasted : (prefix : ℕ) → IsUnwasted wan tiers (table_parts prefix closings limits lines loads)
  unfolding tiered_under
  whole-unwasted prefix =
      subst (λ (table : Tiered). IsUnwasted wan tiers table) (sym (whole-table prefix))
      (tiers-unwasted wan tiers (step-never tree initial groups tiers clusters values) values.starts (step-bound tree initial groups tiers clusters values) one_each tree.clusters (demand_in tree) prefix)

  -- and no group's place matters
  pub whole-in_any_order : (prefix : ℕ) → IsTree tree
      → IsInAnyOrder (plan_of tree initial groups) prefix (demand_in tree) initial.capacities tiers (table_parts prefix closings limits lines loads)
  whole-in_any_order prefix is_tree group_at place_of renumber other order moved same =
      subst (λ (table : Tiered). AreAlike (plan_of tree initial groups) (reordered group_at renumber (plan_of tree initial groups)) group_at table
      (tiered_under (reordered group_at renumber (plan_of tree initial groups)) prefix other initial.capacities (tiers_reordered group_at tiers)))
      (sym (whole-table prefix))
      (tiers-alike (plan_of tree initial groups) tiers group_at place_of renumber (demand_in tree) other initial.capacities clusters one_each order same prefix
      (numbered tree.clusters (length tree.demands) is_tree.numbers) moved)

  -- no link's load exceeds its capacity
  pub whole-feasible : (link : ℕ) → link < length initial.capacities → slice_index loads link ≤ slice_index initial.capacities link
  whole-feasible link lt =
      subst (λ (loads : List ℕ). slice_index loads link ≤ slice_index initial.capacities link) (sym loads-is)
      (made-feasible wan tiers (step-never tree initial groups tiers clusters values) (step-bound tree initial groups tiers clusters values) fillings are one_each link lt)
