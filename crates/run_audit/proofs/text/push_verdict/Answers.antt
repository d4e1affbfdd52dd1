use Rattle.std.proofs.Common.{◌++◌, List, ℕ, codes, decimal, sym, append_assoc}
use Rattle.run_audit.specs.AuditText.{verdict_line}
use Rattle.run_audit.proofs.text.push_verdict.Goals as goal

pub returns-in-Wrong : goal.returns-in-Wrong
unfolding verdict_line
returns-in-Wrong c =
    let digits : List ℕ = decimal c.in-Wrong.line in
    let cause : List ℕ = c.name_of_cause-cause.result.now in
    rw (c.in-Wrong.is, sym c.name_of_cause-cause.ensures, append_assoc (digits ++ codes ": ") cause (codes "\n"), append_assoc digits (codes ": ") (cause ++ codes "\n")) c.write.ensures.bytes
