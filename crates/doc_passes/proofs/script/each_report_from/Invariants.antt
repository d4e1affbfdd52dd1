use Rattle.std.proofs.Common.{◌≡◌, drop, map}
use Rattle.raw_document.specs.Reading.{each}
use Rattle.raw_document.specs.Raw.{report_view}
use Rattle.doc_passes.specs.Numbers.{report_numbers}
use Rattle.doc_passes.proofs.EachFrom.{behind}
use Rattle.doc_passes.proofs.script.each_report_from.Given as goal

abbrev pub invariant-loop-place : goal.invariant-loop-place
invariant-loop-place l = each (report_numbers l.links l.tasks l.reporters) l.from (map report_view (drop l.from l.script)) ≡ behind l.found.items (each (report_numbers l.links l.tasks l.reporters) l.place (map report_view (drop l.place l.script)))
