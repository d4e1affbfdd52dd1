use Rattle.std.proofs.Common.{◌≡◌, ◌++◌, ℕ, refl, List, length, drop, sym, ◌∙◌, ap, subst, arith}
use mathlib.Core.List.{IsPrefix}
use Rattle.board_core.specs.Core.{IsAllowed}
use Rattle.bwe_specs.specs.Fit.{IsFit}
use Rattle.bwe_specs.specs.declared.report.Report.{Report}
use Rattle.crew_log.specs.declared.log.ReaderLog.{ReaderLog}
use Rattle.crew_readers.specs.Gates.{IsShown}
use Rattle.crew_readers.proofs.Lines.{prefix_both}
use Rattle.crew_readers.proofs.Readers.{is_reader, beyond_of}
use Rattle.crew_readers.proofs.reading.read_to_the_end.Goals as goal
use Rattle.board_log.proofs.Prefixes.{prefix_trans}

pub returns : goal.returns
returns g c =
    let covers = g.T.Posted.covers in
    let history = c.args.end.now in
    let learnt = c.learn.new.self in
    let log = c.read_last.new.pass.log in
    let read = c.in_ok-read.read in
    let says = c.in_ok-read.ensures in
    let reader : ReaderLog = record { reads = c.args.reads; last = read.line; length = read.length; beyond = read.beyond } in
    let begins : IsPrefix history log = prefix_trans history learnt.log log (subst (λ (l : List Report). IsPrefix l learnt.log) c.ack.ensures.ack c.in_ok-learn.ensures.told) says.log in
    let grew : IsPrefix c.args.pass.now.log log = prefix_trans c.args.pass.now.log learnt.log log c.learn.ensures.log says.log in
    let beyond : read.beyond.items ≡ drop (length history) log = says.beyond in
    record {
      reader = is_reader g.N.Profile.belongs g.T.Posted.total_of (IsAllowed g.N.Profile.reporters (IsFit g.N.Profile.tasks g.N.Profile.links))
          history c.args.pass.now.log log (covers c.args.pass.now.table) reader begins grew beyond says.length says.allowed c.requires.lines c.requires.never_back
          (omega (arith, says.floor, c.learn.ensures.floor)) (omega (arith, says.floor, c.in_ok-learn.ensures.covers, ap (λ (l : List Report). length l) c.ack.ensures.ack)) says.never_back says.line;
      log = beyond_of history log begins ∙ ap (λ (rest : List Report). history ++ rest) (sym beyond);
      closed = says.length ∙ prefix_both history log begins says.within;
      floor = sym says.prefix;
      reads = omega (arith, says.reads, c.learn.ensures.reads);
      kept = refl;
      shown = subst (λ (call : ℕ). IsShown g.G.Gate.begins g.G.Gate.shows c.args.reader call read.line) (omega (arith, c.len-call.ensures, c.args.reads.ok.0)) says.shown;
    }
