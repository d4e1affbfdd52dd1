-- What a script makes of a tree and a network.
use Rattle.std.specs.Prelude.{◌≡◌, List, length}
use Rattle.bwe_specs.specs.declared.report.Report.{Report}
use Rattle.bwe_specs.specs.Paths.{PathGroups}
use Rattle.plain_table.specs.Reported.{Reported, IsAfter}
use Rattle.plain_table.specs.Tables.{IsFitted, plan_by}

-- the demands and capacities are those after the script, and all else of which tables are made is
-- as it was at first
pub record IsAfterScript (first now : Reported) (script : List Report) : Type 0 where
  pub after : IsAfter now script
  pub tasks : length now.tree.demands ≡ length first.tree.demands
  pub links : length now.network.capacities ≡ length first.network.capacities
  pub plan : (groups : List PathGroups) → plan_by now groups ≡ plan_by first groups
  pub fitted : (groups : List PathGroups) → IsFitted first groups → IsFitted now groups
