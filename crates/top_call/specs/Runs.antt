-- A run of a document: what its log is.
use Rattle.std.specs.Prelude.{◌≡◌, ℕ, List, Vec, length}
use Rattle.std.specs.declared.alloc.Global.{Global}
use Rattle.bwe_specs.specs.declared.report.Report.{Report}
use Rattle.bwe_specs.specs.Allocation.{Plan, Table, allocation}
use Rattle.limit_table.specs.Tables.{total_of}
use Rattle.allocator.specs.Frames.{task_count}
use Rattle.crew_log.specs.declared.log.CrewLog.{CrewLog}
use Rattle.crew_log.specs.LegalCrewLog.{IsLegalCrewLog}
use Rattle.bwe_specs.specs.Lists.{lists_of}
use Rattle.document_scripts.specs.Scripts.{scripts_of}

-- the log is a legal crew log for the script split by reporter, under the allocations of the plan,
-- and its table is that of the script
pub record IsRunOf (plan : Plan) (script : List Report) (reporters readers reads : ℕ)
    (log : CrewLog Table) : Type 0 where
  pub scripts : List (Vec Report Global)
  pub split : lists_of scripts ≡ scripts_of reporters script
  pub legal : IsLegalCrewLog (λ reports table. table ≡ allocation plan reports) total_of
      (task_count plan) (length plan.capacities) scripts readers reads log
  pub table : log.table ≡ allocation plan script
