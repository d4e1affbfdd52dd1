-- What a call did with an item, said of the places of the lists.
use Rattle.std.proofs.Common.{◌≡◌, ℕ, ◌+◌, List, Vec, Result, get_or, subst, arith}
use Rattle.std.specs.Prelude.{IfOk, OnOk}
use Rattle.std.specs.declared.alloc.Global.{Global}
use Rattle.bwe_specs.specs.declared.memory.OutOfMemory.{OutOfMemory}
use Rattle.bwe_specs.specs.declared.report.Report.{Report}
use Rattle.board.specs.Reporting.{Reporting}
use Rattle.board.specs.Reading.{Reading}
use Rattle.board.specs.Allocating.{Allocating}
use Rattle.board.specs.declared.refusal.ReportError.{ReportError}
use Rattle.crew_log.specs.declared.log.ReadLine.{ReadLine}
use Rattle.crew.specs.Allocators.{HasMade}
use Rattle.crew.specs.Reporters.{HasReported}
use Rattle.crew_readers.specs.Readers.{HasLines}

pub reported_at : (scripts : List (Vec Report Global)) (number : ℕ) (script : Vec Report Global) (lent old : Reporting) (answer : Result (Unit {0}) ReportError) (left new : Reporting)
    → lent ≡ old → left ≡ new → HasReported (get_or scripts (0 + number) script).items lent answer left → HasReported (get_or scripts number script).items old answer new
reported_at scripts number script lent old answer left new before after has =
    let same : 0 + number ≡ number = omega arith in
    subst (λ (k : ℕ). HasReported (get_or scripts k script).items old answer new) same
    (subst (λ (p : Reporting). HasReported (get_or scripts (0 + number) script).items p answer new) before
    (subst (λ (p : Reporting). HasReported (get_or scripts (0 + number) script).items lent answer p) after has))

pub lines_at : {T : Type 0} (covers : T → ℕ) (belongs : List Report → T → Type 0) (total_of : T → ℕ) (reads : ℕ) (answer : Result (Vec ReadLine Global) OutOfMemory) (left new : Reading T)
    → left ≡ new → IfOk answer (λ read. HasLines covers belongs total_of reads read.items left) → IfOk answer (λ read. HasLines covers belongs total_of reads read.items new)
lines_at {T} covers belongs total_of reads answer left new same has =
    subst (λ (p : Reading T). IfOk answer (λ read. HasLines covers belongs total_of reads read.items p)) same has

pub made_at : (rounds : ℕ) (answer : Result (Unit {0}) OutOfMemory) (lent old left new : Allocating)
    → lent ≡ old → left ≡ new → OnOk answer (HasMade rounds lent left) → OnOk answer (HasMade rounds old new)
made_at rounds answer lent old left new before after has =
    subst (λ (p : Allocating). OnOk answer (HasMade rounds p new)) before
    (subst (λ (p : Allocating). OnOk answer (HasMade rounds lent p)) after has)
