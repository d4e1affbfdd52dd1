-- Events of lines.
use Rattle.std.specs.Prelude.{ℕ}
use Rattle.bwe_specs.specs.Fit.{IsFit}
use Rattle.control_core.specs.declared.event.ControlEvent.{ControlEvent}
use Rattle.control_core.specs.declared.event.ControlEvent.TheVariants as event

-- what a report names is one of 4 tasks
abbrev pub IsNamed : ControlEvent → Type 0
IsNamed (event.Report report) = IsFit 4 0 report
IsNamed (event.Campaign allocator) = Unit {0}
IsNamed event.Expire = Unit {0}
IsNamed (event.Read allocator) = Unit {0}
IsNamed (event.Look allocator) = Unit {0}
IsNamed (event.Send allocator upto) = Unit {0}
IsNamed (event.Take transaction) = Unit {0}
IsNamed (event.Lose transaction) = Unit {0}
IsNamed (event.Learn allocator) = Unit {0}
IsNamed (event.GiveUp allocator) = Unit {0}
IsNamed (event.Crash allocator) = Unit {0}
IsNamed (event.Tell reader revision) = Unit {0}
IsNamed (event.See reader) = Unit {0}
