use Rattle.std.proofs.Common.{◌≡◌, ◌++◌, drop, flat_map, string_bytes}
use Rattle.doc_names.specs.NameTexts.{texts_of}
use Rattle.change_text.specs.StateText.{report_line}
use Rattle.change_text.proofs.state.push_reports.Given as goal

abbrev pub invariant-loop-report : goal.invariant-loop-report
invariant-loop-report l = string_bytes l.text ++ flat_map (report_line (texts_of l.names)) (drop l.report-index l.reports) ≡ string_bytes l.fn.text ++ flat_map (report_line (texts_of l.names)) l.reports
