use Rattle.audit_law.proofs.AuditLaw.{no-run-goes-on}
use Rattle.audit_law.proofs.laws.no_run_goes_on.Goals as goal

pub returns : goal.returns
returns c = no-run-goes-on
