use Rattle.std.proofs.Common.{◌≡◌, ◌++◌, drop, string_bytes}
use Rattle.doc_names.specs.NameTexts.{texts_of}
use Rattle.run_text.specs.RunText.{numbered, reader_lines}
use Rattle.run_text.proofs.reader.push_readers.Given as goal

abbrev pub invariant-loop-number : goal.invariant-loop-number
invariant-loop-number l =
    string_bytes l.text ++ numbered (reader_lines (texts_of l.names) l.history) l.number (drop l.number l.readers)
    ≡ string_bytes l.fn.text ++ numbered (reader_lines (texts_of l.names) l.history) 0 l.readers
