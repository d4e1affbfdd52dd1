use Rattle.std.proofs.Common.{subst}
use Rattle.doc_parts.specs.Gathering.{Gathers}
use Rattle.plan_doc.proofs.GatheringFacts.{from_shape}
use Rattle.document_reader.proofs.gathered.gathered_as_a_whole.Goals as goal

pub returns : goal.returns
returns g c =
    let read = c.in_ok-raw.ensures in
    subst (Gathers c.gather_on_threads.result) (from_shape c.args.bytes.now read.0 _ read.1 read.2) c.gather_on_threads.ensures
