use Rattle.std.proofs.Common.{◌≡◌, drop, map}
use Rattle.std.specs.List.{list_any}
use Rattle.raw_document.specs.Raw.{job_view}
use Rattle.cluster_parts.specs.Childless.{job_is_childless}
use Rattle.cluster_parts.proofs.childless.jobs_have_childless.Given as goal

abbrev pub invariant-loop-job : goal.invariant-loop-job
invariant-loop-job l = list_any job_is_childless (map job_view (drop l.job-index l.jobs)) ≡ list_any job_is_childless (map job_view l.jobs)
