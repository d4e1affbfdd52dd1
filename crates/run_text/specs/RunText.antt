-- The text of a run, row by row. A text is the list of its bytes.
use Rattle.std.specs.Prelude.{ℕ, suc, ◌++◌, List, [], ◌∷◌, length, flat_map, codes, decimal}
use Rattle.bwe_specs.specs.Allocation.{Table}
use Rattle.bwe_specs.specs.declared.report.Target.{Target}
use Rattle.bwe_specs.specs.declared.report.Target.TheVariants.{Task, Link}
use Rattle.bwe_specs.specs.declared.report.Report.{Report}
use Rattle.doc_names.specs.NameTexts.{NameTexts, entry_at}
use Rattle.crew_log.specs.declared.log.ReadLine.{ReadLine}
use Rattle.crew_log.specs.declared.log.ReaderLog.{ReaderLog}
use Rattle.crew_log.specs.declared.log.CrewLog.{CrewLog}
use Rattle.table_text.specs.TableText.{text_of}

-- the text of each item, with its number, one after another
abbrev pub numbered : {A : Type 0} → (ℕ → A → List ℕ) → ℕ → List A → List ℕ
numbered text number [] = []
numbered text number (item ∷ items) = text number item ++ numbered text (suc number) items

-- the word before a report of the history
unfoldable pub report_word : Target → List ℕ
report_word (Task number) = codes "report "
report_word (Link number) = codes "capacity "

-- the words before a report that a reader saw beyond the history
unfoldable pub beyond_word : Target → List ℕ
beyond_word (Task number) = codes "beyond "
beyond_word (Link number) = codes "beyond capacity "

-- the name of a report's task or link
unfoldable pub target_name : NameTexts → Target → List ℕ
target_name names (Task number) = entry_at names.tasks number
target_name names (Link number) = entry_at names.links number

-- a report's place, reporter, target and amount
abbrev pub told : NameTexts → ℕ → Report → List ℕ
told names place report =
    decimal place ++ codes " " ++ entry_at names.reporters report.reporter ++ codes " "
    ++ target_name names report.target ++ codes " " ++ decimal report.amount ++ codes "\n"

-- a report of the history
abbrev pub report_line : NameTexts → ℕ → Report → List ℕ
report_line names place report = report_word report.target ++ told names place report

-- a report beyond the history
abbrev pub beyond_line : NameTexts → ℕ → Report → List ℕ
beyond_line names place report = beyond_word report.target ++ told names place report

-- how many reports a reporter sent
abbrev pub sent_line : NameTexts → ℕ → ℕ → List ℕ
sent_line names number sent =
    codes "reporter " ++ entry_at names.reporters number ++ codes " sent " ++ decimal sent
    ++ codes "\n"

-- what one read showed
abbrev pub shown : ReadLine → List ℕ
shown line = codes "floor " ++ decimal line.floor ++ codes " prefix " ++ decimal line.prefix
    ++ codes " total " ++ decimal line.total ++ codes "\n"

abbrev pub read_line : ReadLine → List ℕ
read_line line = codes "read " ++ shown line

abbrev pub final_line : ReadLine → List ℕ
final_line line = codes "final " ++ shown line

-- what a reader saw: how long its final log is, what that has beyond the history, its reads, and
-- the last one
abbrev pub reader_lines : NameTexts → ℕ → ℕ → ReaderLog → List ℕ
reader_lines names history number reader =
    codes "reader " ++ decimal number ++ codes " length " ++ decimal reader.length ++ codes "\n"
    ++ numbered (beyond_line names) history reader.beyond.items
    ++ flat_map read_line reader.reads.items
    ++ final_line reader.last

-- the whole text
unfoldable pub run_text_of : NameTexts → CrewLog Table → List ℕ
run_text_of names log =
    codes "history " ++ decimal (length log.history.items) ++ codes "\n"
    ++ numbered (report_line names) 0 log.history.items
    ++ numbered (sent_line names) 0 log.sent.items
    ++ numbered (reader_lines names (length log.history.items)) 0 log.readers.items
    ++ text_of names log.table
