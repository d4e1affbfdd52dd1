-- The plan of a document, as the parts of the code have it; `plan_of` of `doc_parts` is as the
-- definition reads it.
use Rattle.bwe_specs.specs.Allocation.{Plan}
use Rattle.plan_doc.specs.declared.document.Document.{Document}

abbrev pub plan_in : Document → Plan
plan_in document = record {
  top = document.tree.top;
  clusters = document.tree.clusters;
  groups = document.plan;
  capacities = document.topology.capacities;
}
