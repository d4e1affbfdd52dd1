use Rattle.std.proofs.Common.{◌<◌, length, arith}
use Rattle.std.proofs.lemmas.List.{length-map}
use Rattle.std.proofs.lemmas.List.Elements.{All-get_or}
use Rattle.bwe_specs.specs.Tree.{task_value}
use Rattle.tree_spec.specs.declared.task.Task.{Task}
use Rattle.tree_spec.specs.Tasks.{IsInRange}
use Rattle.push_down.proofs.children.TasksChildren.value.Goals as goal

pub overflow_cast-task : goal.overflow_cast-task
overflow_cast-task c =
    let sum = c.args.self.now.sum.now in
    let size = length-map sum.tasks (λ (task : Task). task_value sum.function.points task.weight task.demand) in
    omega (arith, size, c.args.self.now.in_range.few, c.requires)

pub returns-clause-bound : goal.returns-clause-bound
returns-clause-bound c =
    let sum = c.args.self.now.sum.now in
    let size = length-map sum.tasks (λ (task : Task). task_value sum.function.points task.weight task.demand) in
    let lt : c.args.place < length sum.tasks = omega (arith, size, c.requires) in
    let task = All-get_or IsInRange sum.tasks c.args.place (record { weight = 0; demand = 0 }) lt c.args.self.now.in_range.each in
    omega (arith, c.min.ensures, c.demand.ensures, task.demand)
