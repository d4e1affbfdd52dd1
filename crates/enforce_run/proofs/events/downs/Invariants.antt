use Rattle.std.proofs.Common.{◌≡◌, take}
use Rattle.enforce_run.specs.EventLines.{downs_of}
use Rattle.enforce_run.proofs.events.downs.Given as goal

abbrev pub invariant-loop-event : goal.invariant-loop-event
invariant-loop-event l = l.count ≡ downs_of (take l.event-index l.events)
