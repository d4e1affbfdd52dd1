-- A known table is that of the allocator, where the demands and capacities are those that are kept.
use Rattle.std.proofs.Common.{◌≡◌, ℕ, ◌∙◌, List, ap, ap₂, sym}
use Rattle.std.specs.Prelude.{slice_index}
use Rattle.bwe_specs.specs.declared.report.Report.{Report}
use Rattle.bwe_specs.specs.Paths.{PathGroups}
use Rattle.bwe_specs.specs.Allocation.{Plan, Table, allocation, table_under}
use Rattle.plain_table.specs.Tables.{plan_by, table_by}
use Rattle.plain_table.specs.Reported.{IsAfter, Reported}
use Rattle.plain_table.proofs.Fitted.{table-after}

-- the table under demands and capacities in lists
abbrev pub listed : Plan → ℕ → List ℕ → List ℕ → Table
listed plan prefix demands capacities = table_under plan prefix (λ task. slice_index demands task) capacities

module _ (reported : Reported) (groups : List PathGroups) (reports : List Report) (after : IsAfter reported reports) (demands capacities : List ℕ)
    (demands_so : demands ≡ reported.tree.demands) (capacities_so : capacities ≡ reported.network.capacities) where
  same : (prefix : ℕ) → prefix ≡ reported.prefix → listed (plan_by reported groups) prefix demands capacities ≡ allocation (plan_by reported groups) reports
  same prefix is =
      ap (λ count. listed (plan_by reported groups) count demands capacities) is
      ∙ ap₂ (listed (plan_by reported groups) reported.prefix) demands_so capacities_so
      ∙ table-after reported groups reports after

  -- the table of the allocator is known by its lists ..
  pub known-now : (table : Table) → table ≡ allocation (plan_by reported groups) reports → table ≡ listed (plan_by reported groups) table.prefix demands capacities
  known-now table is =
      let whole : table ≡ table_by reported groups = is ∙ sym (table-after reported groups reports after) in
      is ∙ sym (same table.prefix (ap (λ (made : Table). made.prefix) whole))

  -- .. and a table that is known by these is that of the allocator
  pub known-stands : (table : Table) → table ≡ listed (plan_by reported groups) table.prefix demands capacities → table.prefix ≡ reported.prefix
      → table ≡ allocation (plan_by reported groups) reports
  known-stands table is prefix = is ∙ same table.prefix prefix
