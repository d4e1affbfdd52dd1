use Rattle.std.proofs.Common.{◌∙◌, ap, ap₂}
use Rattle.last_reports.specs.Snapshot.{told_after}
use Rattle.bwe_specs.specs.Allocation.{allocation}
use Rattle.allocator.specs.Allocators.{plan_in}
use Rattle.live_core.proofs.Standing.{parts, live-by}
use Rattle.live_core.proofs.live.LiveCore.start.Goals as goal

pub invariant_of-result : goal.invariant_of-result
invariant_of-result c = (
  c.args.script.now,
  c.args.script.now,
  live-by (parts c.table_made_twice.new.allocator c.in_ok-told.told c.in_ok-table.table) (plan_in c.args.allocator) c.args.script.now c.args.script.now
      (c.table_made_twice.ensures.plan ∙ c.in_ok-allocator.ensures.plan)
      (c.table_made_twice.ensures.absorbed c.args.script.now c.in_ok-allocator.ensures.absorbed)
      c.requires.fit
      (c.in_ok-told.ensures ∙ ap₂ (λ tasks links. told_after tasks links c.args.script.now) c.tasks.ensures c.links.ensures)
      (c.in_ok-table.ensures.table c.args.script.now c.in_ok-allocator.ensures.absorbed
      ∙ ap (λ plan. allocation plan c.args.script.now) c.in_ok-allocator.ensures.plan),
)
