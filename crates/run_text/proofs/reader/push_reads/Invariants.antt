use Rattle.std.proofs.Common.{◌≡◌, ◌++◌, drop, flat_map, string_bytes}
use Rattle.run_text.specs.RunText.{read_line}
use Rattle.run_text.proofs.reader.push_reads.Given as goal

abbrev pub invariant-loop-line : goal.invariant-loop-line
invariant-loop-line l = string_bytes l.text ++ flat_map read_line (drop l.line-index l.lines) ≡ string_bytes l.fn.text ++ flat_map read_line l.lines
