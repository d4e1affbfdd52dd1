use Rattle.audit_law.proofs.AuditLaw.{legal-run}
use Rattle.audit_law.proofs.laws.legal_text_is_a_run.Goals as goal

pub returns : goal.returns
returns c = legal-run
