use Rattle.std.proofs.Common.{◌≡◌, ◌++◌, drop, flat_map, string_bytes}
use Rattle.doc_names.specs.NameTexts.{texts_of}
use Rattle.table_text.specs.TableText.{closing_line}
use Rattle.table_text.proofs.table.push_closings.Given as goal

abbrev pub invariant-loop-closing : goal.invariant-loop-closing
invariant-loop-closing l = string_bytes l.text ++ flat_map (closing_line (texts_of l.names)) (drop l.closing-index l.closings) ≡ string_bytes l.fn.text ++ flat_map (closing_line (texts_of l.names)) l.closings
