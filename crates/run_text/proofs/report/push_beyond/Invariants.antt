use Rattle.std.proofs.Common.{◌≡◌, ◌+◌, ◌++◌, drop, string_bytes}
use Rattle.doc_names.specs.NameTexts.{texts_of}
use Rattle.run_text.specs.RunText.{numbered, beyond_line}
use Rattle.run_text.proofs.report.push_beyond.Given as goal

abbrev pub invariant-loop-number : goal.invariant-loop-number
invariant-loop-number l =
    string_bytes l.text ++ numbered (beyond_line (texts_of l.names)) (l.history + l.number) (drop l.number l.beyond)
    ≡ string_bytes l.fn.text ++ numbered (beyond_line (texts_of l.names)) l.history l.beyond
