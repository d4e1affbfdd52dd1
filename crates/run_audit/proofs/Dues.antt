-- What is due after a line, whatever the number of scripts.
use Rattle.std.proofs.Common.{◌≤◌, ℕ, Result, Ok, Err, IfOk, rules}
use Rattle.std.specs.Prelude.{IfSome, IsNone}
use Rattle.run_audit.specs.Walk.{IsDue, IsStep}
use Rattle.run_audit.specs.declared.due.Step.{Step}
use Rattle.run_audit.specs.declared.verdict.AuditCause.{AuditCause}

pub due_here : (answer : Result Step AuditCause) (total scripts : ℕ) → IfOk answer (IsStep total) → IfOk answer (λ step. IsDue scripts step.due)
due_here (Ok step) total scripts is = is.0 scripts
due_here (Err cause) total scripts is = tt

pub shown_here : (answer : Result Step AuditCause) (total : ℕ) → IfOk answer (IsStep total) → IfOk answer (λ step. IfSome step.shown (λ shown. shown.prefix ≤ total))
shown_here (Ok step) total is = is.1
shown_here (Err cause) total is = tt

no_shown : (step : Step) (total : ℕ) → IsNone step.shown → IfSome step.shown (λ shown. shown.prefix ≤ total)
no_shown step total none = search rules

pub none_shown : (answer : Result Step AuditCause) (total : ℕ) → IfOk answer (λ step. IsNone step.shown) → IfOk answer (λ step. IfSome step.shown (λ shown. shown.prefix ≤ total))
none_shown (Ok step) total is = no_shown step total is
none_shown (Err cause) total is = tt
