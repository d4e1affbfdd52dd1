use Rattle.audit_law.proofs.DocumentLaw.{legal-document-run}
use Rattle.audit_law.proofs.document_laws.legal_text_is_a_document_run.Goals as goal

pub returns : goal.returns
returns c = legal-document-run
