use Rattle.std.proofs.Common.{◌≡◌, ℕ, ◌+◌, Ok, get_or, sym, subst, ◌∙◌, arith}
use Rattle.std.proofs.lemmas.Result.{IfOk-at_ok}
use Rattle.board.specs.Reporting.{Reporting}
use Rattle.crew.specs.Reporters.{IsReady}
use Rattle.crew.proofs.Answering.{reported_at, lines_at, made_at}
use Rattle.crew.proofs.Legal.{some_of}
use Rattle.crew.proofs.Showing.{left_of, right_of, shown_at}
use Rattle.crew.proofs.driving.run_actors.Goals as goal

pub all_at_once-reported-requires-clause-first : goal.all_at_once-reported-requires-clause-first
all_at_once-reported-requires-clause-first g c κs within place item lt at =
    let same : place ≡ 0 + place = omega arith in (
      omega (arith, c.requires.ready.count, lt),
      λ script. subst (λ (k : ℕ). IsReady g.N.Profile.reporters g.N.Profile.tasks g.N.Profile.links (get_or c.args.scripts.now k script).items item.now) same
          (subst (λ (pass : Reporting). IsReady g.N.Profile.reporters g.N.Profile.tasks g.N.Profile.links (get_or c.args.scripts.now place script).items pass) (sym at)
          (c.requires.ready.each place script item.now lt)),
    )

pub returns-clause-reported : goal.returns-clause-reported
returns-clause-reported g c =
    let calls = IfOk-at_ok _ c.in_ok-reported.was c.all_at_once-reported.ensures.first in
    record {
      count = calls.count;
      answered = calls.answered;
      each = λ number script old answer new lt.
          let one = calls.each number old answer new lt in
          reported_at c.args.scripts.now number script one.argument.now (get_or c.args.reporters.now number old) (get_or c.in_ok-reported.reported.items number answer)
          one.after_call.now (get_or c.all_at_once-reported.new.items number new) one.argument_is one.left (one.call script);
    }

pub returns-clause-read : goal.returns-clause-read
returns-clause-read g c =
    let calls = IfOk-at_ok _ c.in_ok-read.was c.all_at_once-reported.ensures.second in
    record {
      count = calls.answered ∙ sym calls.count;
      each = λ number read pass lt.
          let one = calls.each number pass read pass (omega (arith, lt, calls.count)) in
          lines_at g.M.Table.Posted.covers g.N.Profile.belongs g.M.Table.Posted.total_of c.args.reads (get_or c.in_ok-read.read.items number read)
          one.after_call.now (get_or c.all_at_once-reported.new.others number pass) one.left (left_of _ _ (get_or c.in_ok-read.read.items number read) one.call);
    }

pub returns-clause-shown : goal.returns-clause-shown
returns-clause-shown g c =
    let calls = IfOk-at_ok _ c.in_ok-read.was c.all_at_once-reported.ensures.second in
    λ number read lt.
    let pass = some_of c.args.readers.now number (omega (arith, lt, calls.answered)) in
    let one = calls.each number pass read pass (omega (arith, lt, calls.answered)) in
    shown_at g.G.Gate.begins g.G.Gate.shows number (get_or c.in_ok-read.read.items number read) (right_of _ _ (get_or c.in_ok-read.read.items number read) one.call)

pub returns-clause-rounds : goal.returns-clause-rounds
returns-clause-rounds g c =
    let one = IfOk-at_ok _ c.in_ok-made.was c.all_at_once-reported.ensures.third in
    made_at (c.args.reads + 1) (Ok tt) one.argument.now c.args.allocator.now one.after_call.now c.all_at_once-reported.new.last one.argument_is one.left one.call
