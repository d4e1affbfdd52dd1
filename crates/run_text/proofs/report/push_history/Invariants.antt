use Rattle.std.proofs.Common.{◌≡◌, ◌++◌, drop, string_bytes}
use Rattle.doc_names.specs.NameTexts.{texts_of}
use Rattle.run_text.specs.RunText.{numbered, report_line}
use Rattle.run_text.proofs.report.push_history.Given as goal

abbrev pub invariant-loop-place : goal.invariant-loop-place
invariant-loop-place l =
    string_bytes l.text ++ numbered (report_line (texts_of l.names)) l.place (drop l.place l.history)
    ≡ string_bytes l.fn.text ++ numbered (report_line (texts_of l.names)) 0 l.history
