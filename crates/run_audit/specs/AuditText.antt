-- The text of a verdict.
use Rattle.std.specs.Prelude.{ℕ, ◌++◌, List, codes, decimal}
use Rattle.run_audit.specs.declared.verdict.AuditCause.{AuditCause}
use Rattle.run_audit.specs.declared.verdict.AuditCause.TheVariants as causes
use Rattle.run_audit.specs.declared.verdict.AuditVerdict.{AuditVerdict}
use Rattle.run_audit.specs.declared.verdict.AuditVerdict.TheVariants.{Legal, Wrong}

unfoldable pub cause_text : AuditCause → List ℕ
cause_text causes.Form = codes "form"
cause_text causes.Script = codes "script"
cause_text causes.Sent = codes "sent"
cause_text causes.Reader = codes "reader"
cause_text causes.Length = codes "length"
cause_text causes.Prefix = codes "prefix"
cause_text causes.Total = codes "total"
cause_text causes.Table = codes "table"

-- that the text is legal, or its first line at fault and why
unfoldable pub verdict_line : AuditVerdict → List ℕ
verdict_line Legal = codes "legal\n"
verdict_line (Wrong line cause) =
    codes "wrong at line " ++ decimal line ++ codes ": " ++ cause_text cause ++ codes "\n"
