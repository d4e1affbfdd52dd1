use Rattle.audit_law.proofs.DocumentLaw.{document-run-legal}
use Rattle.audit_law.proofs.document_laws.document_run_is_legal.Goals as goal

pub returns : goal.returns
returns c = document-run-legal
