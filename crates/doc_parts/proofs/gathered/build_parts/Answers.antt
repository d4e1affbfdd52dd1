use Rattle.std.proofs.lemmas.Result.{err_from_is_err_and}
use Rattle.raw_document.specs.Raw.{raw_view}
use Rattle.doc_refusals.specs.Refusals.{refusal_of}
use Rattle.doc_parts.proofs.PassFacts.{functions_refused, links_refused}
use Rattle.doc_parts.proofs.gathered.build_parts.Goals as goal

pub returns-in_err-clusters : goal.returns-in_err-clusters
returns-in_err-clusters c =
    let functions = rw c.deref.ensures.value at c.in_err-clusters.ensures in
    let told = err_from_is_err_and c.from_residual.result c.from_residual.ensures.1 in
    rw (told.1, told.2)
    (λ names numbers. functions_refused (raw_view c.args.raw.now) names numbers (refusal_of c.in_err-clusters.field-0.0) functions)

pub returns-in_err-topology : goal.returns-in_err-topology
returns-in_err-topology c =
    let functions = rw c.deref.ensures.value at c.in_ok-clusters.ensures in
    let told = err_from_is_err_and c.from_residual-in_err-topology.result c.from_residual-in_err-topology.ensures.1 in
    rw (told.1, told.2)
    (λ names numbers. links_refused (raw_view c.args.raw.now) names numbers (refusal_of c.in_err-topology.field-0.0) functions.0 c.in_err-topology.ensures)
