use Rattle.std.proofs.Common.{◌≡◌, [], length}
use Rattle.text_scan.specs.Items.{items_behind}
use Rattle.enforce_run.specs.EventLines.{AreThere, events_of, next_event}
use Rattle.enforce_run.proofs.events.read_events.Given as goal

abbrev pub invariant-lines : goal.invariant-lines
invariant-lines l = record {
  events : events_of l.fn.regions l.fn.text ≡ items_behind (next_event l.fn.regions) l.events.items l.rest.lines l.rest.left;
  there : AreThere l.fn.regions [] l.events.items;
}

abbrev pub decreases-lines : goal.decreases-lines
decreases-lines l = length l.rest.lines
