use Rattle.std.proofs.Common.{◌≡◌, ◌==◌, ℕ, arith, length, map, sym, ap, ◌∙◌}
use Rattle.std.proofs.lemmas.List.{length-map}
use Rattle.raw_document.specs.Raw.{job_view, task_view}
use Rattle.cluster_parts.specs.Childless.{job_is_childless}
use Rattle.cluster_parts.proofs.ChildlessFacts.{any_found, any_later, any_none}
use Rattle.cluster_parts.proofs.childless.jobs_have_childless.Goals as goal

pub returns-then-is_empty : goal.returns-then-is_empty
returns-then-is_empty c =
    let tasks = c.job-item.result.tasks in
    let count : length (map task_view tasks.items) ≡ tasks.len = omega (arith, tasks.ok.0, length-map tasks.items task_view) in
    any_found job_view job_is_childless c.args.jobs.now c.loop-job.job-index c.job-item.result (omega arith) c.job-item.is (ap (λ (n : ℕ). n == 0) count ∙ sym c.is_empty.ensures ∙ c.if-is_empty.true) c.loop-job.invariant

pub loop-job-preserved : goal.loop-job-preserved
loop-job-preserved c =
    let tasks = c.job-item.result.tasks in
    let count : length (map task_view tasks.items) ≡ tasks.len = omega (arith, tasks.ok.0, length-map tasks.items task_view) in
    any_later job_view job_is_childless c.args.jobs.now c.loop-job.job-index c.job-item.result (omega arith) c.job-item.is (ap (λ (n : ℕ). n == 0) count ∙ sym c.is_empty.ensures ∙ c.if-is_empty.false) c.loop-job.invariant

pub returns : goal.returns
returns c = any_none job_view job_is_childless c.args.jobs.now c.loop-job.job-index (omega arith) c.loop-job.invariant
