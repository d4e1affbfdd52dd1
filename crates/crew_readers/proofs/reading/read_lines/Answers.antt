use Rattle.std.proofs.Common.{◌+◌, ◌++◌, ◌∷◌, [], List, ℕ, length, sym, ◌∙◌, ap, subst, arith}
use Rattle.std.specs.List.{All}
use Rattle.std.proofs.lemmas.List.{length_push}
use Rattle.std.proofs.lemmas.List.Elements.{All-push}
use mathlib.Core.List.{IsPrefix}
use Rattle.crew_log.specs.declared.log.ReadLine.{ReadLine}
use Rattle.crew_log.specs.Lines.{IsLineOf, NeverGoBack}
use Rattle.crew_readers.proofs.Lines.{all_longer, line_more}
use Rattle.board_log.proofs.Prefixes.{prefix_trans}
use Rattle.crew_readers.specs.Gates.{AreShown}
use Rattle.crew_readers.proofs.Showing.{shown_more}
use Rattle.crew_readers.proofs.reading.read_lines.Goals as goal

pub loop-call-preserved : goal.loop-call-preserved
loop-call-preserved g c =
    let kept = c.loop-call.invariant in
    let before = c.loop-call.pass in
    let learnt = c.learn_newest.new.pass in
    let now = c.read_line.new.pass in
    let line = c.read_line.result in
    let lines = c.loop-call.lines.items in
    let covers = g.T.Posted.covers in
    let P = IsLineOf g.N.Profile.belongs g.T.Posted.total_of now.log in
    let further : IsPrefix before.log now.log = prefix_trans before.log learnt.log now.log c.learn_newest.ensures.log c.read_line.ensures.log in
    let more : All P (lines ++ line ∷ []) = All-push P lines line (all_longer g.N.Profile.belongs g.T.Posted.total_of before.log now.log further lines kept.lines) c.read_line.ensures.line in
    let rises : NeverGoBack (covers c.args.pass.now.table) (lines ++ line ∷ []) (covers now.table) =
    line_more (covers c.args.pass.now.table) lines line (covers before.table) (covers now.table)
    (omega (arith, c.read_line.ensures.floor, c.learn_newest.ensures.floor)) c.read_line.ensures.never_back (omega (arith, c.read_line.ensures.prefix)) kept.never_back in
    let items = sym c.in_ok-push.ensures.items in
    record {
      log = prefix_trans c.args.pass.now.log before.log now.log kept.log further;
      floor = omega (arith, kept.floor, c.learn_newest.ensures.floor, c.read_line.ensures.floor, c.read_line.ensures.prefix, c.read_line.ensures.never_back);
      count = ap (λ (xs : List ReadLine). length xs) (sym items) ∙ length_push lines line ∙ ap (λ (n : ℕ). n + 1) kept.count;
      lines = subst (All P) items more;
      never_back = subst (λ (xs : List ReadLine). NeverGoBack (covers c.args.pass.now.table) xs (covers now.table)) items rises;
      told = omega (arith, c.read_line.ensures.told, c.in_ok-learn_newest.ensures.told, kept.told);
      shown = subst (AreShown g.G.Gate.begins g.G.Gate.shows c.args.reader) items (shown_more g.G.Gate.begins g.G.Gate.shows c.args.reader c.loop-call.call lines line kept.count kept.shown c.read_line.ensures.shown);
      reads = omega (arith, c.read_line.ensures.reads, c.learn_newest.ensures.reads, kept.reads, c.requires.reads, c.loop-call-test.true);
    }
