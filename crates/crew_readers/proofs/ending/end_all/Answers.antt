use Rattle.std.proofs.Common.{◌≡◌, ℕ, ◌+◌, ◌<◌, ◌++◌, ◌∷◌, [], List, Ok, Vec, Result, length, get_or, set, sym, subst, ap, ◌∙◌, arith}
use Rattle.std.specs.Prelude.{IfOk}
use Rattle.std.specs.List.{All}
use Rattle.std.specs.declared.alloc.Global.{Global}
use Rattle.std.proofs.lemmas.List.{length-set, length_push, get_or_default}
use Rattle.std.proofs.lemmas.List.Elements.{All-push}
use Rattle.bwe_specs.specs.declared.memory.OutOfMemory.{OutOfMemory}
use Rattle.board_pair.specs.Reading.{Reading}
use Rattle.board_core.specs.Core.{IsAllowed}
use Rattle.bwe_specs.specs.Fit.{IsFit}
use Rattle.crew_log.specs.declared.log.ReadLine.{ReadLine}
use Rattle.crew_log.specs.declared.log.ReaderLog.{ReaderLog}
use Rattle.crew_log.specs.LegalCrewLog.{IsReaderOf}
use Rattle.crew_readers.specs.Readers.{HasLines, HasEnded}
use Rattle.crew_readers.specs.Gates.{IsShown, EndsAreShown}
use Rattle.crew_readers.proofs.Showing.{ends_more}
use Rattle.crew_readers.proofs.Placing.{pairs_more, left_beyond}
use Rattle.crew_readers.proofs.ending.end_all.Goals as goal

pub read_to_the_end-requires-clause-lines : goal.read_to_the_end-requires-clause-lines
read_to_the_end-requires-clause-lines g c =
    let n = c.loop-number.number in
    let kept = c.loop-number.invariant in
    let passes = c.loop-number.passes in
    let taken = c.index_mut.result.now in
    let pass = c.index-passes-number.result in
    let read = c.in_ok-read.read in
    let inside : n < length c.args.passes.now = omega arith in
    let left = kept.lines_left n taken (omega arith) in
    let replaced = c.replace.ensures.value in
    let found = c.index_mut.ensures.value in
    let was = c.in_ok-read.was in
    let got : get_or c.args.lines.items n taken ≡ Ok read = cc in
    let then' : HasLines g.T.Posted.covers g.N.Profile.belongs g.T.Posted.total_of c.args.reads read.items (get_or c.args.passes.now n pass) =
    subst (λ (answer : Result (Vec ReadLine Global) OutOfMemory).
    IfOk answer (λ lines. HasLines g.T.Posted.covers g.N.Profile.belongs g.T.Posted.total_of c.args.reads lines.items (get_or c.args.passes.now n pass)))
    got (c.requires.lines.each n taken pass inside) in
    let has : HasLines g.T.Posted.covers g.N.Profile.belongs g.T.Posted.total_of c.args.reads read.items (get_or passes n pass) =
    subst (λ (p : Reading g.row.T.Denot). HasLines g.T.Posted.covers g.N.Profile.belongs g.T.Posted.total_of c.args.reads read.items p) (sym (kept.passes_left n pass (omega arith))) then' in
    has.lines_so

pub read_to_the_end-requires-clause-never_back : goal.read_to_the_end-requires-clause-never_back
read_to_the_end-requires-clause-never_back g c =
    let n = c.loop-number.number in
    let kept = c.loop-number.invariant in
    let passes = c.loop-number.passes in
    let taken = c.index_mut.result.now in
    let pass = c.index-passes-number.result in
    let read = c.in_ok-read.read in
    let inside : n < length c.args.passes.now = omega arith in
    let left = kept.lines_left n taken (omega arith) in
    let replaced = c.replace.ensures.value in
    let found = c.index_mut.ensures.value in
    let was = c.in_ok-read.was in
    let got : get_or c.args.lines.items n taken ≡ Ok read = cc in
    let then' : HasLines g.T.Posted.covers g.N.Profile.belongs g.T.Posted.total_of c.args.reads read.items (get_or c.args.passes.now n pass) =
    subst (λ (answer : Result (Vec ReadLine Global) OutOfMemory).
    IfOk answer (λ lines. HasLines g.T.Posted.covers g.N.Profile.belongs g.T.Posted.total_of c.args.reads lines.items (get_or c.args.passes.now n pass)))
    got (c.requires.lines.each n taken pass inside) in
    let has : HasLines g.T.Posted.covers g.N.Profile.belongs g.T.Posted.total_of c.args.reads read.items (get_or passes n pass) =
    subst (λ (p : Reading g.row.T.Denot). HasLines g.T.Posted.covers g.N.Profile.belongs g.T.Posted.total_of c.args.reads read.items p) (sym (kept.passes_left n pass (omega arith))) then' in
    has.never_back

pub loop-number-preserved : goal.loop-number-preserved
loop-number-preserved g c =
    let n = c.loop-number.number in
    let kept = c.loop-number.invariant in
    let passes = c.loop-number.passes in
    let taken = c.index_mut.result.now in
    let pass = c.index-passes-number.result in
    let read = c.in_ok-read.read in
    let inside : n < length c.args.passes.now = omega arith in
    let left = kept.lines_left n taken (omega arith) in
    let replaced = c.replace.ensures.value in
    let found = c.index_mut.ensures.value in
    let was = c.in_ok-read.was in
    let got : get_or c.args.lines.items n taken ≡ Ok read = cc in
    let then' : HasLines g.T.Posted.covers g.N.Profile.belongs g.T.Posted.total_of c.args.reads read.items (get_or c.args.passes.now n pass) =
    subst (λ (answer : Result (Vec ReadLine Global) OutOfMemory).
    IfOk answer (λ lines. HasLines g.T.Posted.covers g.N.Profile.belongs g.T.Posted.total_of c.args.reads lines.items (get_or c.args.passes.now n pass)))
    got (c.requires.lines.each n taken pass inside) in
    let has : HasLines g.T.Posted.covers g.N.Profile.belongs g.T.Posted.total_of c.args.reads read.items (get_or passes n pass) =
    subst (λ (p : Reading g.row.T.Denot). HasLines g.T.Posted.covers g.N.Profile.belongs g.T.Posted.total_of c.args.reads read.items p) (sym (kept.passes_left n pass (omega arith))) then' in
    let readers = c.loop-number.readers.items in
    let lines = c.loop-number.lines.items in
    let reader = c.in_ok-reader.reader in
    let after = c.read_to_the_end.new.pass in
    let says = c.in_ok-reader.ensures in
    let items : c.push.new.self.items ≡ readers ++ reader ∷ [] = c.in_ok-push.ensures.items in
    let within : n < length passes = omega (arith, kept.count) in
    let Ends : ReaderLog → Reading g.row.T.Denot → Type 0 = HasEnded g.T.Posted.covers c.args.reads c.args.end.now in
    let IsOf : ℕ → ReaderLog → Type 0 = λ reads. IsReaderOf g.N.Profile.belongs g.T.Posted.total_of (IsAllowed g.N.Profile.reporters (IsFit g.N.Profile.tasks g.N.Profile.links)) reads c.args.end.now in
    let IsWhole : ReaderLog → Type 0 = λ ended. ended.length ≡ length c.args.end.now in
    let is : IsOf c.args.reads reader = subst (λ (reads : ℕ). IsOf reads reader) has.count says.reader in
    let own : (other : Result (Vec ReadLine Global) OutOfMemory) → get_or c.args.lines.items n other ≡ Ok reader.reads =
    λ other. get_or_default c.args.lines.items n other taken (omega (arith, c.requires.lines.count)) ∙ got ∙ ap Ok (sym says.kept) in
    let shown : IsShown g.G.Gate.begins g.G.Gate.shows n c.args.reads reader.last =
    subst (λ (call : ℕ). IsShown g.G.Gate.begins g.G.Gate.shows n call reader.last) has.count says.shown in
    let last : Ends reader after = record { log = says.log; floor = says.floor; reads_so = omega (arith, says.reads, has.reads_so, c.requires.few_reads) } in
    record {
      lines_count = length-set lines n c.replace.new.dest ∙ kept.lines_count;
      count = length-set passes n after ∙ kept.count;
      readers_count = ap (λ (xs : List ReaderLog). length xs) items ∙ length_push readers reader ∙ ap (λ (k : ℕ). k + 1) kept.readers_count;
      lines_left = left_beyond lines c.args.lines.items n c.replace.new.dest kept.lines_left;
      passes_left = left_beyond passes c.args.passes.now n after kept.passes_left;
      readers = subst (All (IsOf c.args.reads)) (sym items) (All-push (IsOf c.args.reads) readers reader kept.readers is);
      closed = subst (All IsWhole) (sym items) (All-push IsWhole readers reader kept.closed says.closed);
      shown = subst (EndsAreShown g.G.Gate.begins g.G.Gate.shows c.args.reads c.args.lines.items) (sym items)
          (ends_more g.G.Gate.begins g.G.Gate.shows c.args.reads n c.args.lines.items readers reader kept.readers_count own shown kept.shown);
      ended = subst (λ (xs : List ReaderLog). (place : ℕ) (a : ReaderLog) (b : Reading g.row.T.Denot) → place < n + 1 → Ends (get_or xs place a) (get_or (set passes n after) place b)) (sym items)
          (pairs_more Ends readers passes n reader after kept.readers_count within kept.ended last);
    }
