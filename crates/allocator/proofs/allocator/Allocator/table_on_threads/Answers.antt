use Rattle.std.proofs.Common.{◌≡◌, ◌∙◌, subst, sym}
use Rattle.std.proofs.lemmas.Result.{IfOk-weaker}
use Rattle.bwe_specs.specs.Allocation.{allocation}
use Rattle.plain_table.specs.Reported.{IsAfter}
use Rattle.plain_table.proofs.Fitted.{table-after}
use Rattle.allocator.specs.Allocators.{plan_in}
use Rattle.allocator.proofs.allocator.Allocator.table_on_threads.Goals as goal

pub returns-clause-table : goal.returns-clause-table
returns-clause-table g c =
    IfOk-weaker c.present_table_on_threads.result _ _
    (λ made table reports after.
    let same : IsAfter c.self.inside.reported reports = subst (λ allocating. IsAfter allocating.reported reports) (sym c.self.view_is) after in
    subst (λ allocating. made ≡ allocation (plan_in allocating) reports) c.self.view_is
    (table ∙ table-after c.self.inside.reported c.self.inside.plan reports same))
    (rw (c.rematch_on_threads.ensures) at c.present_table_on_threads.ensures.table)
