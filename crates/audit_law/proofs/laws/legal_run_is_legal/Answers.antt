use Rattle.audit_law.proofs.AuditLaw.{run-legal}
use Rattle.audit_law.proofs.laws.legal_run_is_legal.Goals as goal

pub returns : goal.returns
returns c = run-legal
