use Rattle.std.proofs.Common.{◌≡◌, ◌++◌, flat_map, string_bytes}
use Rattle.bwe_specs.specs.Reports.{numbers}
use Rattle.doc_names.specs.NameTexts.{texts_of}
use Rattle.table_text.specs.TableText.{place_line}
use Rattle.table_text.proofs.table.push_places.Given as goal

abbrev pub invariant-loop-place : goal.invariant-loop-place
invariant-loop-place l = string_bytes l.text ≡ string_bytes l.fn.text ++ flat_map (place_line (texts_of l.names) l.lines) (numbers l.place)
