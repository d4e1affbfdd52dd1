-- The text of the reports that count: one line for each, as a line of the input, and how many
-- reports were accepted.
use Rattle.std.specs.Prelude.{ℕ, ◌++◌, List, flat_map, codes, decimal}
use Rattle.bwe_specs.specs.declared.report.Report.{Report}
use Rattle.bwe_specs.specs.declared.report.Target.{Target}
use Rattle.bwe_specs.specs.declared.report.Target.TheVariants.{Task, Link}
use Rattle.doc_names.specs.NameTexts.{NameTexts, entry_at}

-- `demand REPORTER TASK`, or `capacity REPORTER LINK`
unfoldable pub report_words : NameTexts → ℕ → Target → List ℕ
report_words names reporter (Task task) =
    codes "demand " ++ entry_at names.reporters reporter ++ codes " " ++ entry_at names.tasks task
report_words names reporter (Link link) =
    codes "capacity " ++ entry_at names.reporters reporter ++ codes " " ++ entry_at names.links link

-- a report as a line of the input, without its line feed
abbrev pub report_text : NameTexts → Report → List ℕ
report_text names report =
    report_words names report.reporter report.target ++ codes " " ++ decimal report.amount

abbrev pub report_line : NameTexts → Report → List ℕ
report_line names report = report_text names report ++ codes "\n"

-- a line for each report, and the number of reports accepted
unfoldable pub state_text_of : NameTexts → List Report → ℕ → List ℕ
state_text_of names reports count =
    flat_map (report_line names) reports ++ codes "state " ++ decimal count ++ codes "\n"
