use Rattle.std.proofs.Common.{subst}
use Rattle.doc_parts.specs.Gathering.{Gathers}
use Rattle.plan_doc.proofs.GatheringFacts.{from_shape}
use Rattle.document_reader.proofs.gathered.gathered_by_tokens.Goals as goal

pub returns : goal.returns
returns c =
    let read = c.in_ok-raw.ensures in
    subst (Gathers c.gather.result) (from_shape c.args.bytes.now read.0 _ read.1 read.2) c.gather.ensures
