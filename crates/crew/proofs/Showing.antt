-- What the gate was shown of each reader.
use Rattle.std.proofs.Common.{◌≡◌, ℕ, ◌+◌, ◌<◌, List, Vec, Result, Ok, Err, length, get_or, subst, arith}
use Rattle.std.specs.Prelude.{IfOk}
use Rattle.std.specs.List.{All}
use Rattle.std.specs.declared.alloc.Global.{Global}
use Rattle.bwe_specs.specs.declared.memory.OutOfMemory.{OutOfMemory}
use Rattle.bwe_specs.specs.declared.report.Report.{Report}
use Rattle.crew_log.specs.declared.log.ReadLine.{ReadLine}
use Rattle.crew_log.specs.declared.log.ReaderLog.{ReaderLog}
use Rattle.crew_log.specs.LegalCrewLog.{IsReaderOf}
use Rattle.crew_readers.specs.declared.actor.Actor.{Actor}
use Rattle.crew_readers.specs.Gates.{IsShown, AreShown, EndsAreShown}
use Rattle.crew_readers.proofs.Showing.{shown_more}
use Rattle.crew.specs.Shown.{HaveShown, LogIsShown}

pub left_of : {A E : Type 0} (P Q : A → Type 0) (answer : Result A E) → IfOk answer (λ x. P x × Q x) → IfOk answer P
left_of P Q (Ok x) both = both.0
left_of P Q (Err e) both = tt

pub right_of : {A E : Type 0} (P Q : A → Type 0) (answer : Result A E) → IfOk answer (λ x. P x × Q x) → IfOk answer Q
right_of P Q (Ok x) both = both.1
right_of P Q (Err e) both = tt

pub shown_at : (begins : Actor → ℕ → Type 0) (shows : ℕ → ℕ → ℕ → ℕ → Type 0) (number : ℕ) (answer : Result (Vec ReadLine Global) OutOfMemory)
    → IfOk answer (λ read. AreShown begins shows (0 + number) read.items) → IfOk answer (λ read. AreShown begins shows number read.items)
shown_at begins shows number answer has =
    let same : 0 + number ≡ number = omega arith in
    subst (λ (k : ℕ). IfOk answer (λ read. AreShown begins shows k read.items)) same has

-- the lines of a reader, and its last one behind them
pub log_shown : {T : Type 0} (belongs : List Report → T → Type 0) (total_of : T → ℕ) (allowed : Report → Type 0) (history : List Report)
    (begins : Actor → ℕ → Type 0) (shows : ℕ → ℕ → ℕ → ℕ → Type 0) (reads : ℕ) (lines : List (Result (Vec ReadLine Global) OutOfMemory)) (readers : List ReaderLog)
    → length lines ≡ length readers → All (IsReaderOf belongs total_of allowed reads history) readers → HaveShown begins shows lines → EndsAreShown begins shows reads lines readers
    → LogIsShown begins shows readers
log_shown belongs total_of allowed history begins shows reads lines readers count are have ends number other lt =
    let it = get_or readers number other in
    let end = ends number (Ok it.reads) other lt in
    let shown : AreShown begins shows number it.reads.items =
    subst (λ (a : Result (Vec ReadLine Global) OutOfMemory). IfOk a (λ read. AreShown begins shows number read.items)) end.0 (have number (Ok it.reads) (omega (arith, lt, count))) in
    shown_more begins shows number reads it.reads.items it.last (are number other lt).reads_so shown end.1
