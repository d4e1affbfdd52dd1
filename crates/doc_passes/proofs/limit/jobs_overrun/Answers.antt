use Rattle.std.proofs.Common.{arith}
use Rattle.raw_document.specs.Raw.{job_view}
use Rattle.doc_passes.specs.Limits.{job_overrun}
use Rattle.doc_passes.proofs.Loops.{first_found, first_later, first_none}
use Rattle.doc_passes.proofs.limit.jobs_overrun.Goals as goal

pub returns-in-Some : goal.returns-in-Some
returns-in-Some c = first_found job_view job_overrun c.args.jobs.now c.loop-job.job-index c.job-item.result c.in-Some.overrun (omega arith) c.job-item.is c.in-Some.ensures c.loop-job.invariant

pub loop-job-preserved : goal.loop-job-preserved
loop-job-preserved c = first_later job_view job_overrun c.args.jobs.now c.loop-job.job-index c.job-item.result (omega arith) c.job-item.is c.in_default.ensures c.loop-job.invariant

pub returns : goal.returns
returns c = first_none job_view job_overrun c.args.jobs.now c.loop-job.job-index (omega arith) c.loop-job.invariant
