use Rattle.std.proofs.Common.{◌≡◌, ◌∙◌, ap, length, subst, sym}
use Rattle.bwe_specs.specs.Allocation.{allocation}
use Rattle.limit_table.specs.Tables.{total_of}
use Rattle.allocator.specs.Frames.{task_count}
use Rattle.crew_log.specs.LegalCrewLog.{IsLegalCrewLog}
use Rattle.plan_doc.specs.Conditions.{link_count, tasks_in}
use Rattle.plan_doc.specs.Plans.{plan_in}
use Rattle.crew_log.specs.Scripts.{AreOfReporters}
use Rattle.bwe_cli.proofs.Legal.{run-is}
use Rattle.bwe_cli.proofs.run.run_document.Goals as goal

pub run_crew-requires-clause-scripts : goal.run_crew-requires-clause-scripts
run_crew-requires-clause-scripts g c lifetimes within =
    let scripts = c.in_ok-scripts.scripts.items in
    let tasks : tasks_in c.args.document ≡ task_count (plan_in c.args.document) =
    sym c.requires.usable.task_owners ∙ ap (λ owners. length owners.items) (sym c.open-allocator.ensures.task_owners) ∙ c.open-allocator.ensures.owners ∙ ap task_count c.open-allocator.ensures.plan in
    let counted : AreOfReporters (task_count (plan_in c.args.document)) (link_count c.args.document) scripts =
    subst (λ tasks. AreOfReporters tasks (link_count c.args.document) scripts) tasks c.in_ok-scripts.ensures.scripts in
    let planned = subst (λ plan. AreOfReporters (task_count plan) (length plan.capacities) scripts) (sym c.open-allocator.ensures.plan) counted in
    rw (c.deref.ensures.value) planned

pub returns-clause-log : goal.returns-clause-log
returns-clause-log g c =
    run-is c.args.document c.requires.usable c.in_ok-scripts.scripts.items c.in_ok-scripts.ensures.split c.args.readers c.args.reads c.in_ok-log.log
    (subst (λ plan. IsLegalCrewLog (λ reports table. table ≡ allocation plan reports) total_of (task_count plan) (length plan.capacities) c.in_ok-scripts.scripts.items c.args.readers c.args.reads c.in_ok-log.log)
    c.open-allocator.ensures.plan (rw (c.deref.ensures.value) at c.in_ok-log.ensures.legal))
