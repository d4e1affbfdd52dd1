use Rattle.std.proofs.Common.{◌≡◌, ℕ, ◌++◌, ◌<◌, List, Result, Ok, length, get_or, map, take, drop, sym, subst, ap, ◌∙◌, arith}
use Rattle.std.specs.Prelude.{IfErr}
use Rattle.std.specs.List.{All}
use Rattle.std.proofs.lemmas.List.{take_at}
use mathlib.Core.List.{IsPrefix}
use Rattle.bwe_specs.specs.declared.report.Report.{Report}
use Rattle.board_log.specs.Roll.{own_of}
use Rattle.crew_log.specs.declared.log.ReaderLog.{ReaderLog}
use Rattle.board.specs.Reporting.{Reporting}
use Rattle.board.specs.declared.refusal.ReportError.{ReportError}
use Rattle.board.specs.declared.refusal.ReportError.TheVariants.{OutOfMemory}
use Rattle.crew.specs.Reporters.{AreReady, HaveReported, sent_by}
use Rattle.crew.proofs.Legal.{all_ready, in_order, never_full, is_legal}
use Rattle.board_core.specs.Core.{IsAllowed}
use Rattle.bwe_specs.specs.Fit.{IsFit}
use Rattle.crew.proofs.Showing.{log_shown}
use Rattle.crew.proofs.driving.drive.Goals as goal

pub run_actors-requires-clause-ready : goal.run_actors-requires-clause-ready
run_actors-requires-clause-ready g c κs within =
    subst (λ (passes : List Reporting). AreReady g.N.Profile.reporters g.N.Profile.tasks g.N.Profile.links c.args.scripts.now passes) (sym c.as_mut_slice.ensures.value)
    (all_ready g.N.Profile.reporters g.N.Profile.tasks g.N.Profile.links c.args.scripts.now c.args.reporters.items c.requires.count c.requires.reporters c.requires.fresh c.requires.scripts)

pub finish-requires-clause-order : goal.finish-requires-clause-order
finish-requires-clause-order g c =
    let new = c.run_actors.new.reporters in
    let have : HaveReported c.args.scripts.now c.args.reporters.items c.in_ok-answers.answers.reported.items new =
    subst (λ (passes : List Reporting). HaveReported c.args.scripts.now passes c.in_ok-answers.answers.reported.items new) c.as_mut_slice.ensures.value c.in_ok-answers.ensures.reported in
    let back : take c.args.reporters.len (new ++ drop (length new) c.args.reporters.items) ≡ new =
    take_at new (drop (length new) c.args.reporters.items) c.args.reporters.len (omega (arith, have.count, c.args.reporters.ok.0)) in
    subst (λ (passes : List Reporting). (number : ℕ) (other : Reporting) → number < length passes → (get_or passes number other).number ≡ number) (sym back)
    (in_order g.N.Profile.reporters c.args.scripts.now c.args.reporters.items c.in_ok-answers.answers.reported.items new c.requires.count c.requires.reporters c.requires.fresh have)

pub all_reported-requires : goal.all_reported-requires
all_reported-requires g c =
    let new = c.run_actors.new.reporters in
    let history = c.in-Ok.ended.ack in
    let have : HaveReported c.args.scripts.now c.args.reporters.items c.in_ok-answers.answers.reported.items new =
    subst (λ (passes : List Reporting). HaveReported c.args.scripts.now passes c.in_ok-answers.answers.reported.items new) c.as_mut_slice.ensures.value c.in_ok-answers.ensures.reported in
    let back : take c.args.reporters.len (new ++ drop (length new) c.args.reporters.items) ≡ new =
    take_at new (drop (length new) c.args.reporters.items) c.args.reporters.len (omega (arith, have.count, c.args.reporters.ok.0)) in
    let whole : length history ≡ sent_by new = sym c.in-Ok.ensures.length ∙ c.in-Ok.ensures.sent ∙ ap sent_by back in
    let seen : All (λ (pass : Reporting). IsPrefix pass.seen history) new = subst (All (λ (pass : Reporting). IsPrefix pass.seen history)) back c.in-Ok.ensures.seen in
    record {
      never_full = subst (All (λ (answer : Result (Unit {0}) ReportError). IfErr answer (λ error. error ≡ OutOfMemory))) (sym c.as_slice-2.ensures.value)
          (never_full c.args.scripts.now c.args.reporters.items c.in_ok-answers.answers.reported.items new history (omega (arith, c.requires.count, c.requires.reporters)) have c.requires.room whole seen);
    }

pub returns-clause-legal : goal.returns-clause-legal
returns-clause-legal g c =
    let new = c.run_actors.new.reporters in
    let history = c.in-Ok.ended.ack in
    let have : HaveReported c.args.scripts.now c.args.reporters.items c.in_ok-answers.answers.reported.items new =
    subst (λ (passes : List Reporting). HaveReported c.args.scripts.now passes c.in_ok-answers.answers.reported.items new) c.as_mut_slice.ensures.value c.in_ok-answers.ensures.reported in
    let back : take c.args.reporters.len (new ++ drop (length new) c.args.reporters.items) ≡ new =
    take_at new (drop (length new) c.args.reporters.items) c.args.reporters.len (omega (arith, have.count, c.args.reporters.ok.0)) in
    let done : All (λ (answer : Result (Unit {0}) ReportError). answer ≡ Ok tt) c.in_ok-answers.answers.reported.items =
    subst (All (λ (answer : Result (Unit {0}) ReportError). answer ≡ Ok tt)) c.as_slice-2.ensures.value c.in_ok-all_reported.ensures.ok in
    let exact : All (λ (pass : Reporting). pass.own ≡ own_of pass.number history) new = subst (All (λ (pass : Reporting). pass.own ≡ own_of pass.number history)) back c.in-Ok.ensures.exact in
    let sent : c.in_ok-sent.sent.items ≡ map (λ (pass : Reporting). length pass.own) new =
    c.in_ok-sent.ensures.sent ∙ ap (map (λ (pass : Reporting). length pass.own)) (c.as_slice.ensures.value ∙ back) in
    let many : length c.in_ok-readers.readers.items ≡ length c.args.readers.now = omega (arith, c.in_ok-readers.ensures.passes.count, c.end_all.ensures.count, c.run_actors.ensures.readers) in
    is_legal g.N.Profile.belongs g.M.Table.Posted.total_of g.N.Profile.reporters g.N.Profile.tasks g.N.Profile.links c.args.scripts.now (length c.args.readers.now) c.args.reads
    c.args.reporters.items c.in_ok-answers.answers.reported.items new history
    (record { history = c.in-Ok.ended.history; sent = c.in_ok-sent.sent; readers = c.in_ok-readers.readers; table = c.in-Ok.ended.table })
    c.requires.count c.requires.reporters c.requires.fresh have done sent c.in-Ok.ensures.history exact c.in-Ok.ensures.allowed many c.in_ok-readers.ensures.readers c.in-Ok.ensures.table

pub returns-clause-closed : goal.returns-clause-closed
returns-clause-closed g c =
    subst (λ (history : List Report). All (λ (reader : ReaderLog). reader.length ≡ length history) c.in_ok-readers.readers.items) (sym c.in-Ok.ensures.history) c.in_ok-readers.ensures.closed

pub returns-clause-shown : goal.returns-clause-shown
returns-clause-shown g c =
    let history = c.in-Ok.ended.ack in
    let count : length c.in_ok-answers.answers.read.items ≡ length c.in_ok-readers.readers.items =
    omega (arith, c.in_ok-answers.ensures.read.count, c.in_ok-readers.ensures.passes.count, c.end_all.ensures.count) in
    log_shown g.N.Profile.belongs g.M.Table.Posted.total_of (IsAllowed g.N.Profile.reporters (IsFit g.N.Profile.tasks g.N.Profile.links)) history
    g.G.Gate.begins g.G.Gate.shows c.args.reads c.in_ok-answers.answers.read.items c.in_ok-readers.readers.items
    count c.in_ok-readers.ensures.readers c.in_ok-answers.ensures.shown c.in_ok-readers.ensures.shown
