use Rattle.std.proofs.Common.{◌≡◌, ◌++◌, drop, map}
use Rattle.raw_document.specs.Raw.{name_view}
use Rattle.doc_passes.proofs.name_table.copies_of.Given as goal

abbrev pub invariant-loop-name : goal.invariant-loop-name
invariant-loop-name l = l.copies ++ map name_view (drop l.name-index l.names) ≡ map name_view l.names
