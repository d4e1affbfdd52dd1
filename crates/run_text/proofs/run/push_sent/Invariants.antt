use Rattle.std.proofs.Common.{◌≡◌, ◌++◌, drop, string_bytes}
use Rattle.doc_names.specs.NameTexts.{texts_of}
use Rattle.run_text.specs.RunText.{numbered, sent_line}
use Rattle.run_text.proofs.run.push_sent.Given as goal

abbrev pub invariant-loop-number : goal.invariant-loop-number
invariant-loop-number l =
    string_bytes l.text ++ numbered (sent_line (texts_of l.names)) l.number (drop l.number l.sent)
    ≡ string_bytes l.fn.text ++ numbered (sent_line (texts_of l.names)) 0 l.sent
