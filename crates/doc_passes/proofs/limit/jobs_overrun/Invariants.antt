use Rattle.std.proofs.Common.{◌≡◌, drop, map}
use Rattle.raw_document.specs.Raw.{job_view}
use Rattle.doc_passes.specs.Limits.{first_some, job_overrun}
use Rattle.doc_passes.proofs.limit.jobs_overrun.Given as goal

abbrev pub invariant-loop-job : goal.invariant-loop-job
invariant-loop-job l = first_some job_overrun (map job_view (drop l.job-index l.jobs)) ≡ first_some job_overrun (map job_view l.jobs)
