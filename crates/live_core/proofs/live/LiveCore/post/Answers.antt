use Rattle.std.proofs.Common.{sym, ◌∙◌, ap}
use Rattle.demand_book.specs.TableChanges.{frame_of}
use Rattle.allocator.specs.Allocators.{plan_in}
use Rattle.allocator.specs.FrameLaws.{one_frame-allocation}
use Rattle.live_core.proofs.live.LiveCore.post.Goals as goal

pub returns-clause-one_plan : goal.returns-clause-one_plan
returns-clause-one_plan c =
    ap frame_of (c.replace.ensures.value ∙ c.self.invariant.2.table)
    ∙ (one_frame-allocation (plan_in c.self.inside.allocator) c.self.invariant.1 c.self.invariant.0
    ∙ sym (ap frame_of (c.replace.ensures.after ∙ c.in_ok-table.ensures.table c.self.invariant.0 c.self.invariant.2.absorbed)))
