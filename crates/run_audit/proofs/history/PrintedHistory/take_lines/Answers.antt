use Rattle.std.proofs.Common.{rules, sym, subst, ◌∙◌, Result}
use Rattle.doc_names.specs.NameTexts.{texts_of}
use Rattle.bwe_specs.specs.Lists.{lists_of}
use Rattle.run_audit.specs.History.{IsStop, Reported, take_lines}
use Rattle.run_audit.specs.declared.verdict.Fault.{Fault}
use Rattle.run_audit.proofs.Takes.{lines_end, lines_full, lines_go_on, lines_stop}
use Rattle.run_audit.proofs.history.PrintedHistory.take_lines.Goals as goal

pub returns-in_default-clause-stop : goal.returns-in_default-clause-stop
returns-in_default-clause-stop c =
    let names = texts_of c.args.names.now in
    let scripts = lists_of c.args.scripts.now in
    let ended = lines_end names scripts c.loop-self.self c.loop-self.text.lines (search rules) (search rules) in
    rw (c.stop.ensures) (sym c.loop-self.invariant.same ∙ ended)

pub loop-self-preserved : goal.loop-self-preserved
loop-self-preserved c =
    let names = texts_of c.args.names.now in
    let scripts = lists_of c.args.scripts.now in
    record {
      same = sym (lines_go_on names scripts c.loop-self.self c.loop-self.text.lines c.in-Some.line.now c.next_line.new.self.lines c.take_line.new.self (search rules) (search rules) (search rules)) ∙ c.loop-self.invariant.same;
      taken = search rules;
      within = search rules;
      left = search rules;
      number = search rules;
    }

pub returns-in_err-take_line-clause-stop : goal.returns-in_err-take_line-clause-stop
returns-in_err-take_line-clause-stop c =
    let names = texts_of c.args.names.now in
    let scripts = lists_of c.args.scripts.now in
    let stopped : IsStop (take_lines names scripts c.args.self.now c.args.text.now.lines) c.in_err-take_line.field-0.0 =
    subst (λ (read : Result Reported Fault). IsStop read c.in_err-take_line.field-0.0) c.loop-self.invariant.same
    (lines_stop names scripts c.loop-self.self c.loop-self.text.lines c.in-Some.line.now c.next_line.new.self.lines c.in_err-take_line.field-0.0 (search rules) (search rules) (search rules)) in
    search (rules, stopped)

pub returns-clause-ok : goal.returns-clause-ok
returns-clause-ok c =
    sym c.loop-self.invariant.same ∙ lines_full (texts_of c.args.names.now) (lists_of c.args.scripts.now) c.loop-self.self c.loop-self.text.lines (search rules)
