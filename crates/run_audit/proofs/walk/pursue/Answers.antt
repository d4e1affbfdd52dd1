use Rattle.std.proofs.Common.{◌≡◌, ◌≤◌, ◌++◌, [], rules, sym, ap, subst, ◌∙◌}
use Rattle.std.specs.List.{All}
use Rattle.text_scan.specs.Lines.{LinesLeft}
use Rattle.doc_names.specs.NameTexts.{texts_of}
use Rattle.bwe_specs.specs.Lists.{lists_of}
use Rattle.run_audit.specs.Walk.{is_over}
use Rattle.run_audit.specs.Verdict.{at_end}
use Rattle.run_audit.specs.Checks.{checks_of}
use Rattle.run_audit.specs.declared.walk.Check.{Check}
use Rattle.run_audit.specs.declared.verdict.AuditVerdict.TheVariants.{Wrong}
use Rattle.run_audit.proofs.Pursues.{prefixes_more, pursuit_ends, pursuit_goes_on, pursuit_stops}
use Rattle.run_audit.proofs.walk.pursue.Goals as goal

pub returns-in_default-clause-pursued : goal.returns-in_default-clause-pursued
returns-in_default-clause-pursued c =
    let text = c.loop-bytes.text in
    let unmoved : c.next_line.new.self ≡ text = search rules in
    let none : text.lines ≡ [] = search rules in
    pursuit_ends (texts_of c.args.names.now) (lists_of c.args.scripts.now) text.left c.loop-bytes.walk text.number text.lines c.loop-bytes.checks.items c.at_end.result none
    (c.at_end.ensures ∙ ap (λ (text : LinesLeft). at_end (is_over c.loop-bytes.walk) text.number text.left) unmoved)
    ∙ c.loop-bytes.invariant.same

pub loop-bytes-preserved : goal.loop-bytes-preserved
loop-bytes-preserved c =
    let text = c.loop-bytes.text in
    let noted : c.note.new.checks.items ≡ c.loop-bytes.checks.items ++ checks_of c.number-line.result c.in-Ok.shown = search rules in
    let noted_here : c.note.new.checks.items ≡ c.loop-bytes.checks.items ++ checks_of text.number c.in-Ok.shown =
    noted ∙ ap (λ number. c.loop-bytes.checks.items ++ checks_of number c.in-Ok.shown) c.number-line.ensures in
    record {
      same = pursuit_goes_on (texts_of c.args.names.now) (lists_of c.args.scripts.now) text.left c.loop-bytes.walk text.number text.lines c.loop-bytes.checks.items
          c.in-Some.bytes.now c.next_line.new.self.lines c.take_line.new.self c.in-Ok.shown c.note.new.checks.items c.next_line.new.self.left c.next_line.new.self.number
          (search rules) (search rules) noted_here (search rules) (search rules)
          ∙ c.loop-bytes.invariant.same;
      due = search rules;
      prefixes = subst (All (λ (check : Check). check.prefix ≤ c.args.total)) (sym noted_here)
          (prefixes_more c.loop-bytes.checks.items text.number c.args.total c.in-Ok.shown c.loop-bytes.invariant.prefixes (search rules));
      left = search rules;
    }

pub returns-in-Err-clause-pursued : goal.returns-in-Err-clause-pursued
returns-in-Err-clause-pursued c =
    let text = c.loop-bytes.text in
    pursuit_stops (texts_of c.args.names.now) (lists_of c.args.scripts.now) text.left c.loop-bytes.walk text.number text.lines c.loop-bytes.checks.items
    (Wrong c.number-line.result c.in-Err.cause) c.in-Some.bytes.now c.next_line.new.self.lines c.in-Err.cause (search rules) (search rules)
    (ap (λ number. Wrong number c.in-Err.cause) c.number-line.ensures)
    ∙ c.loop-bytes.invariant.same
