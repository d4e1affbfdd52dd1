use Rattle.audit_law.proofs.Audited.{audited}
use Rattle.audit_law.proofs.document_laws.accepted_document_is_audited.Goals as goal

pub returns : goal.returns
returns c bytes document scripts usable accepted split = audited bytes document usable accepted scripts split
