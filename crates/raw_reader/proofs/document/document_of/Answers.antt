use Rattle.std.proofs.Common.{◌≡◌, Some, ap, ◌∙◌, arith}
use Rattle.raw_document.specs.Reading.{each_view}
use Rattle.raw_document.specs.Raw.{closing_view}
use Rattle.raw_reader.proofs.Shapes.{document_is, none_or}
use Rattle.raw_reader.proofs.document.document_of.Goals as goal

pub returns-in-Some-Some-Some-Some-Some : goal.returns-in-Some-Some-Some-Some-Some
returns-in-Some-Some-Some-Some-Some c found holds =
    let s = c.args.slots in
    let all = c.in-Some-Some-Some-Some-Some in
    let version : s.version ≡ Some c.args.version = c.in_ok-slots.was ∙ ap Some (omega arith) in
    document_is c.args.version found s all.top all.links all.groups all.reporters all.script version all.is-0 all.is-1 all.is-2 all.is-3 all.is-4 holds c.unwrap_or-closings.result
    (ap (each_view closing_view) c.unwrap_or-closings.ensures ∙ none_or s.closings c.new.result c.new.ensures.items)
