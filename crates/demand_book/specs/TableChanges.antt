-- What a change of tables is.
use Rattle.std.specs.Prelude.{◌≡◌, ℕ, List, length, map, Option}
use Rattle.bwe_specs.specs.declared.network.Closing.{Closing}
use Rattle.bwe_specs.specs.Allocation.{GroupLine, Table}
use Rattle.limit_table.specs.Tables.{IsTable}
use Rattle.demand_book.specs.Changes.{Changes, IsChanged}

-- what no call changes of a table: how many tasks, path groups of each group, and links it has
pub record Frame : Type 0 where
  pub tasks : ℕ
  pub path_groups : List ℕ
  pub links : ℕ

abbrev pub frame_of : Table → Frame
frame_of table = record {
  tasks = length table.limits;
  path_groups = map (λ line. length line.places) table.groups;
  links = length table.loads;
}

-- what differs between two tables
pub record Change : Type 0 where
  pub prefix : ℕ
  pub limits : List (ℕ × ℕ)
  pub groups : List (ℕ × GroupLine)
  pub loads : List (ℕ × ℕ)
  pub closings : Option (List Closing)

-- the change leads from the one table to the later one, which is of the same plan
pub record Leads (table : Table) (change : Change) (later : Table) : Type 0 where
  pub one_plan : frame_of table ≡ frame_of later
  pub bounded : IsTable later
  pub prefix : change.prefix ≡ later.prefix
  pub limits : Changes 0 table.limits later.limits change.limits
  pub groups : Changes 0 table.groups later.groups change.groups
  pub loads : Changes 0 table.loads later.loads change.loads
  pub closings : IsChanged table.closings later.closings change.closings
