use Rattle.audit_law.proofs.AuditLaw.{some-run-begins-so}
use Rattle.audit_law.proofs.laws.some_run_begins_so.Goals as goal

pub returns : goal.returns
returns c = some-run-begins-so
