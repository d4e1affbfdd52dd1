use Rattle.std.proofs.Common.{◌≡◌, ◌<◌, ◌+◌, ◌-◌, ◌%◌, ◌++◌, map}
use Rattle.doc_maker.specs.Layout.{task_value}
use Rattle.doc_maker.specs.Made.{made_task, tasks_of}
use Rattle.doc_maker.specs.Writing.{each_tokens}
use Rattle.doc_maker.proofs.Steps.{from}
use Rattle.doc_maker.proofs.tree.write_tasks.Given as goal

-- the tasks that are written, and those from the next number on, are the group's
abbrev pub invariant-loop-task : goal.invariant-loop-task
invariant-loop-task l = record {
  rest : l.task % l.size.groups ≡ l.group;
  near : l.task < l.size.tasks + l.size.groups;
  all : l.out.tokens ++ each_tokens task_value (map made_task (from l.size.groups l.group l.size.tasks l.task)) ≡ l.initial.out.tokens ++ each_tokens task_value (map made_task (tasks_of l.size l.group));
  before : l.out.before ≡ l.initial.out.before;
}

abbrev pub decreases-loop-task : goal.decreases-loop-task
decreases-loop-task l = l.size.tasks - l.task
