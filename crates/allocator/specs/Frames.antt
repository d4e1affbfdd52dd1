-- What no report changes of the tables of a plan.
use Rattle.std.specs.Prelude.{ℕ, length, map}
use Rattle.bwe_specs.specs.Paths.{path_group_count}
use Rattle.bwe_specs.specs.Reports.{numbers}
use Rattle.bwe_specs.specs.Allocation.{Plan}
use Rattle.demand_book.specs.TableChanges.{Frame}
use Rattle.policy_tree.specs.Trees.{task_numbers}

-- how many tasks a plan has
abbrev pub task_count : Plan → ℕ
task_count plan = length (task_numbers plan.clusters)

-- the frame of each table of the plan
abbrev pub frame_of_plan : Plan → Frame
frame_of_plan plan = record {
  tasks = task_count plan;
  path_groups = map (path_group_count plan.groups) (numbers (length plan.groups));
  links = length plan.capacities;
}
