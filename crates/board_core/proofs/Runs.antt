-- The law on all runs.
use Rattle.std.proofs.Common.{◌≡◌, ℕ, ◌<◌, ◌≤◌, Bool, true, false, cond, eqb, List, [], ◌∷◌, ◌++◌, length, get_or, Ok, Err, Option, Some, None, Result, refl, sym, ◌∙◌, ap, subst, arith}
use Rattle.std.specs.List.{AllByRecursion, cons_option}
use Rattle.std.specs.Option.{IfSome}
use Rattle.std.proofs.lemmas.List.{append-nil, append_assoc, length-append, length-replicate, get_or-replicate, take-append-le}
use Rattle.std.proofs.lemmas.List.Elements.{All-replicate, filter-append, recursion_from_All}
use Rattle.bwe_specs.specs.declared.report.Report.{Report}
use Rattle.bwe_specs.specs.Reports.{reports_of}
use Rattle.board_core.specs.declared.event.CoreEvent.{CoreEvent}
use Rattle.board_core.specs.declared.event.CoreEvent.TheVariants as event
use Rattle.board_core.specs.declared.event.CoreAnswer.{CoreAnswer}
use Rattle.board_core.specs.declared.event.CoreAnswer.TheVariants.{Placed, Posted, Told, Seen}
use Rattle.board_core.specs.declared.event.CoreError.{CoreError}
use Rattle.board_core.specs.CoreRun.{State, first_state, IsMeant}
use Rattle.board_core.specs.Core.{IsInOrder}
use Rattle.board_core.specs.Laws.{Turn, IsRun, AreMeant, prefix_in, prefixes_of, NeverFall, placed_in, placed_reports, placed_by, reports_placed_by, IsOfLog, CoreHistoryLaw}
use Rattle.board_core.proofs.Steps.{Keeps, keeps, grown, told, seen}

-- the log grows by what the turns placed
pub run_grown : (total : List Report → ℕ) (old : State) (turns : List Turn) (new : State) → IsRun total old turns new → new.log ≡ old.log ++ placed_reports turns
run_grown total old [] new run = ap (λ (s : State). s.log) (sym run) ∙ sym (append-nil old.log)
run_grown total old (turn ∷ turns) new run =
    run_grown total run.0 turns new run.2
    ∙ ap (λ (log : List Report). log ++ placed_reports turns) (grown total old turn.event turn.answer run.0 run.1)
    ∙ append_assoc old.log (placed_in turn.event turn.answer) (placed_reports turns)

-- a lower least number is one too
lower : (least least' : ℕ) (numbers : List ℕ) → least' ≤ least → NeverFall least numbers → NeverFall least' numbers
lower least least' [] le never = tt
lower least least' (number ∷ numbers) le never = (omega (arith, never.0), never.1)

-- what a reader is answered never falls below its floor
pub run_rises : (total : List Report → ℕ) (reporters readers : ℕ) (old : State) (turns : List Turn) (new : State) → length old.floors ≡ readers → IsInOrder old
    → AreMeant reporters readers turns → IsRun total old turns new → (reader : ℕ) → reader < readers → NeverFall (get_or old.floors reader 0) (prefixes_of reader turns)
run_rises total reporters readers old [] new count order meant run reader inside = tt
run_rises total reporters readers old (turn ∷ turns) new count order meant run reader inside =
    let middle = run.0 in
    let here = subst (λ (n : ℕ). IsMeant reporters n (λ report. Unit {0}) turn.event) (sym count) meant.0 in
    let kept : Keeps old middle = keeps total reporters (λ report. Unit {0}) old turn.event turn.answer middle here order run.1 in
    let rest = run_rises total reporters readers middle turns new (kept.readers ∙ count) kept.order meant.1 run.2 reader inside in
    let floor : get_or old.floors reader 0 ≤ get_or middle.floors reader 0 = kept.rising reader (omega (arith, count)) in
    go (prefix_in reader turn.event turn.answer) (prefixes_of reader turns) (told total reporters (λ report. Unit {0}) old turn.event turn.answer middle here run.1 reader) floor rest
  where
    go : {low floor : ℕ} (answer : Option ℕ) (numbers : List ℕ) → IfSome answer (λ prefix. prefix ≡ floor) → low ≤ floor → NeverFall floor numbers → NeverFall low (cons_option answer numbers)
    go {low} {floor} None numbers is le rest = lower floor low numbers le rest
    go {low} {floor} (Some prefix) numbers is le rest = (omega (arith, is), lower floor prefix numbers (omega (arith, is)) rest)

-- what is of a log is of a longer one
longer : (total : List Report → ℕ) (log more : List Report) (answer : Result CoreAnswer CoreError) → IsOfLog total log answer → IsOfLog total (log ++ more) answer
longer total log more (Ok (Placed first)) of = tt
longer total log more (Ok (Posted prefix)) of = tt
longer total log more (Ok (Told prefix)) of = tt
longer total log more (Ok (Seen prefix sum)) of = (omega (arith, of.0, length-append log more), of.1 ∙ sym (ap total (take-append-le prefix log more of.0)))
longer total log more (Err error) of = tt

pub run_seen : (total : List Report → ℕ) (reporters readers : ℕ) (old : State) (turns : List Turn) (new : State) → length old.floors ≡ readers → IsInOrder old
    → AreMeant reporters readers turns → IsRun total old turns new → AllByRecursion (λ turn. IsOfLog total new.log turn.answer) turns
run_seen total reporters readers old [] new count order meant run = tt
run_seen total reporters readers old (turn ∷ turns) new count order meant run =
    let middle = run.0 in
    let here = subst (λ (n : ℕ). IsMeant reporters n (λ report. Unit {0}) turn.event) (sym count) meant.0 in
    let kept : Keeps old middle = keeps total reporters (λ report. Unit {0}) old turn.event turn.answer middle here order run.1 in
    let whole : IsRun total old (turn ∷ turns) new = run in (
      subst (λ (log : List Report). IsOfLog total log turn.answer) (sym (run_grown total old (turn ∷ turns) new whole))
          (longer total old.log (placed_reports (turn ∷ turns)) turn.answer (seen total old turn.event turn.answer middle order run.1)),
      run_seen total reporters readers middle turns new (kept.readers ∙ count) kept.order meant.1 run.2,
    )

same : (b : Bool) → let none : List Report = [] in none ≡ cond b none none
same true = refl
same false = refl

-- a piece of one reporter is all of its number, or nothing of another
of_one : (number reporter : ℕ) (piece : List Report) → AllByRecursion (λ report. report.reporter ≡ reporter) piece → reports_of number piece ≡ cond (eqb reporter number) piece []
of_one number reporter [] by = same (eqb reporter number)
of_one number reporter (report ∷ piece) by = go (eqb reporter number) (ap (λ (n : ℕ). eqb n number) by.0) (of_one number reporter piece by.1) where
  go : (b : Bool) → eqb report.reporter number ≡ b → reports_of number piece ≡ cond b piece [] → reports_of number (report ∷ piece) ≡ cond b (report ∷ piece) []
  go true is rest = ap (λ (b : Bool). cond b (report ∷ reports_of number piece) (reports_of number piece)) is ∙ ap (λ (rest : List Report). report ∷ rest) rest
  go false is rest = ap (λ (b : Bool). cond b (report ∷ reports_of number piece) (reports_of number piece)) is ∙ rest

-- of what an event placed, a number's reports are those of its own events
of_event : (number reporters readers : ℕ) (event : CoreEvent) (answer : Result CoreAnswer CoreError) → IsMeant reporters readers (λ report. Unit {0}) event
    → reports_of number (placed_in event answer) ≡ placed_by number event answer
of_event number reporters readers (event.Report reporter piece) (Ok (Placed first)) meant =
    of_one number reporter piece (recursion_from_All (λ (report : Report). report.reporter ≡ reporter) piece (λ k d inside. (meant.1 k d inside).0))
of_event number reporters readers (event.Report reporter piece) (Ok (Posted prefix)) meant = refl
of_event number reporters readers (event.Report reporter piece) (Ok (Told prefix)) meant = refl
of_event number reporters readers (event.Report reporter piece) (Ok (Seen prefix sum)) meant = refl
of_event number reporters readers (event.Report reporter piece) (Err error) meant = refl
of_event number reporters readers (event.Post upto) answer meant = refl
of_event number reporters readers (event.Tell reader prefix) answer meant = refl
of_event number reporters readers (event.Read reader) answer meant = refl

pub reports_of-placed : (number reporters readers : ℕ) (turns : List Turn) → AreMeant reporters readers turns → reports_of number (placed_reports turns) ≡ reports_placed_by number turns
reports_of-placed number reporters readers [] meant = refl
reports_of-placed number reporters readers (turn ∷ turns) meant =
    filter-append (λ (report : Report). eqb report.reporter number) (placed_in turn.event turn.answer) (placed_reports turns)
    ∙ ap (λ (reports : List Report). reports ++ reports_of number (placed_reports turns)) (of_event number reporters readers turn.event turn.answer meant.0)
    ∙ ap (λ (reports : List Report). placed_by number turn.event turn.answer ++ reports) (reports_of-placed number reporters readers turns meant.1)

first_order : (readers : ℕ) → IsInOrder (first_state readers)
first_order readers = record { floors = All-replicate (λ floor. floor ≤ 0) readers 0 (omega arith); posted = omega arith; taken = omega arith; room = omega arith }

pub history : CoreHistoryLaw
history total reporters readers turns end meant run =
    let first = first_state readers in
    let count : length first.floors ≡ readers = length-replicate readers 0 in
    let whole : end.log ≡ placed_reports turns = run_grown total first turns end run in
    record {
      never_fall = λ reader inside.
          subst (λ (least : ℕ). NeverFall least (prefixes_of reader turns)) (get_or-replicate readers reader 0 0 inside)
          (run_rises total reporters readers first turns end count (first_order readers) meant run reader inside);
      totals = run_seen total reporters readers first turns end count (first_order readers) meant run;
      grows = λ before after moment past future. (placed_reports after, sym (run_grown total moment after end future));
      own = λ number. ap (reports_of number) whole ∙ reports_of-placed number reporters readers turns meant;
      whole = whole;
    }
