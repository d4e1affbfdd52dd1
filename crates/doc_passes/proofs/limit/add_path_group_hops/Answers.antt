use Rattle.std.proofs.Common.{length, arith, rules}
use Rattle.std.proofs.lemmas.List.{length-map}
use Rattle.raw_document.specs.Raw.{path_view}
use Rattle.doc_passes.proofs.Loops.{sum_later, sum_whole}
use Rattle.doc_passes.proofs.limit.add_path_group_hops.Goals as goal

pub loop-path-preserved : goal.loop-path-preserved
loop-path-preserved c = sum_later path_view (λ path. length path.links) c.args.path_group.now c.loop-path.path-index c.path-item.result c.loop-path.total c.in_ok-total.total c.args.before (omega arith) c.path-item.is (rw length-map (search rules)) c.loop-path.invariant

pub returns : goal.returns
returns c = sum_whole path_view (λ path. length path.links) c.args.path_group.now c.loop-path.path-index c.loop-path.total c.args.before (omega arith) c.loop-path.invariant
