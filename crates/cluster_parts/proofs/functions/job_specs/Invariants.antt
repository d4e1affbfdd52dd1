use Rattle.raw_document.specs.Raw.{job_view}
use Rattle.cluster_parts.specs.Functions.{refused_in_job}
use Rattle.cluster_parts.specs.TreeParts.{job_part}
use Rattle.tree_spec.specs.Asked.{idle_job}
use Rattle.cluster_parts.proofs.Buildings.{IsBuilding}
use Rattle.cluster_parts.proofs.functions.job_specs.Given as goal

abbrev pub invariant-loop-place : goal.invariant-loop-place
invariant-loop-place l = IsBuilding job_view idle_job (refused_in_job l.top) (job_part l.top) l.jobs l.place l.specs.items
