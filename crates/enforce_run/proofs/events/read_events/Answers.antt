use Rattle.std.proofs.Common.{◌≡◌, List, length, ap, ◌∙◌, sym, subst, arith}
use Rattle.text_scan.proofs.ItemFacts.{goes_on, stops}
use Rattle.enforce_run.specs.declared.event.EventLine.{EventLine}
use Rattle.enforce_run.specs.EventLines.{IsThere, next_event}
use Rattle.enforce_run.proofs.EventFacts.{there_more}
use Rattle.enforce_run.proofs.events.read_events.Goals as goal

pub lines-preserved : goal.lines-preserved
lines-preserved c =
    let regions = c.args.regions in
    let event = c.in-Some-next_event.event in
    record {
      events = goes_on (next_event regions) c.lines.events.items c.push.new.self.items event c.in-Some.line.now
          c.lines.rest.lines c.next_line.new.self.lines c.lines.rest.left c.next_line.new.self.left _ c.lines.invariant.events c.in-Some.ensures.some
          (ap (λ (before : List EventLine). next_event regions before c.in-Some.line.now) (sym c.deref.ensures.value) ∙ sym c.in-Some-next_event.ensures.event)
          c.in_ok-push-in-Some-next_event.ensures.items c.in-Some.ensures.left;
      there = there_more regions c.lines.events.items c.push.new.self.items event c.in_ok-push-in-Some-next_event.ensures.items c.lines.invariant.there
          (subst (λ (before : List EventLine). IsThere regions before event) c.deref.ensures.value c.in-Some-next_event.ensures.there);
    }

pub returns-in-None-clause-events : goal.returns-in-None-clause-events
returns-in-None-clause-events c =
    let regions = c.args.regions in
    let count : c.len.result ≡ length c.lines.events.items = omega (arith, c.len.ensures, c.lines.events.ok.0) in
    stops (next_event regions) c.lines.events.items c.in-Some.line.now c.lines.rest.lines c.next_line.new.self.lines c.lines.rest.left _ c.len.result
    c.lines.invariant.events c.in-Some.ensures.some
    (ap (λ (before : List EventLine). next_event regions before c.in-Some.line.now) (sym c.deref.ensures.value) ∙ sym c.in-None.ensures.event)
    count
