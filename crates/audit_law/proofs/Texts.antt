-- The text of a run is its lines, and the table's text behind them.
use Rattle.std.proofs.Common.{◌≡◌, ◌++◌, ℕ, suc, List, [], ◌∷◌, length, map, codes, decimal, refl, sym, ap, ◌∙◌, append_assoc, append-nil, All}
use Rattle.std.specs.Prelude.{flat_map}
use Rattle.std.proofs.lemmas.List.Elements.{All-head, All-tail}
use Rattle.bwe_specs.specs.declared.report.Target.{Target}
use Rattle.bwe_specs.specs.declared.report.Target.TheVariants.{Task, Link}
use Rattle.bwe_specs.specs.declared.report.Report.{Report}
use Rattle.bwe_specs.specs.Allocation.{Table}
use Rattle.crew_log.specs.declared.log.ReadLine.{ReadLine}
use Rattle.crew_log.specs.declared.log.ReaderLog.{ReaderLog}
use Rattle.crew_log.specs.declared.log.CrewLog.{CrewLog}
use Rattle.table_text.specs.TableText.{text_of}
use Rattle.doc_names.specs.NameTexts.{NameTexts}
use Rattle.run_text.specs.RunText.{beyond_line, final_line as final_text, numbered, read_line as read_text, reader_lines as reader_text, report_line as report_text, report_word, run_text_of, sent_line as sent_text, target_name}
use Rattle.audit_law.proofs.Lines.{printed, printed-append, spaced}
use Rattle.audit_law.proofs.LineForms.{history_line, reader_line, report_line, sent_line}
use Rattle.audit_law.proofs.Histories.{report_lines}
use Rattle.audit_law.proofs.Steps.{sent_lines}
use Rattle.audit_law.proofs.Blocks.{final_words, read_lines, read_words}
use Rattle.audit_law.proofs.Readers.{Seen, all_seen, seen_lines}

-- one line more
line_more : (text line rest : List ℕ) (later : List (List ℕ)) → text ≡ line ++ 10 ∷ [] → rest ≡ printed later → text ++ rest ≡ printed (line ∷ later)
line_more text line rest later is others =
    ap (λ (t : List ℕ). t ++ rest) is ∙ append_assoc line (10 ∷ []) rest ∙ ap (λ (r : List ℕ). line ++ 10 ∷ r) others

-- ---- one line

told_is : (place name target amount : List ℕ)
    → place ++ codes " " ++ name ++ codes " " ++ target ++ codes " " ++ amount ++ codes "\n" ≡ spaced (place ∷ name ∷ target ∷ amount ∷ []) ++ 10 ∷ []
told_is place name target amount = simp append_assoc

report_is : (names : NameTexts) (place reporter amount : ℕ) (target : Target)
    → report_text names place (record { reporter = reporter; target = target; amount = amount }) ≡ spaced (report_line names place (record { reporter = reporter; target = target; amount = amount })) ++ 10 ∷ []
unfolding report_word target_name
report_is names place reporter amount (Task number) = ap (λ (t : List ℕ). codes "report " ++ t) (told_is (decimal place) _ _ (decimal amount))
report_is names place reporter amount (Link number) = ap (λ (t : List ℕ). codes "capacity " ++ t) (told_is (decimal place) _ _ (decimal amount))

sent_is : (name sent : List ℕ) → codes "reporter " ++ name ++ codes " sent " ++ sent ++ codes "\n" ≡ spaced (codes "reporter" ∷ name ∷ codes "sent" ∷ sent ∷ []) ++ 10 ∷ []
sent_is name sent = simp append_assoc

reader_is : (number length : List ℕ) → codes "reader " ++ number ++ codes " length " ++ length ++ codes "\n" ≡ spaced (codes "reader" ∷ number ∷ codes "length" ∷ length ∷ []) ++ 10 ∷ []
reader_is number length = simp append_assoc

shown_is : (floor prefix total : List ℕ) → codes "floor " ++ floor ++ codes " prefix " ++ prefix ++ codes " total " ++ total ++ codes "\n"
    ≡ spaced (codes "floor" ∷ floor ∷ codes "prefix" ∷ prefix ∷ codes "total" ∷ total ∷ []) ++ 10 ∷ []
shown_is floor prefix total = simp append_assoc

read_is : (line : ReadLine) → read_text line ≡ spaced (read_words line) ++ 10 ∷ []
read_is line = ap (λ (t : List ℕ). codes "read " ++ t) (shown_is (decimal line.floor) (decimal line.prefix) (decimal line.total))

final_is : (line : ReadLine) → final_text line ≡ spaced (final_words line) ++ 10 ∷ []
final_is line = ap (λ (t : List ℕ). codes "final " ++ t) (shown_is (decimal line.floor) (decimal line.prefix) (decimal line.total))

-- ---- many lines

reports_are : (names : NameTexts) (place : ℕ) (reports : List Report) → numbered (report_text names) place reports ≡ printed (report_lines names place reports)
reports_are names place [] = refl
reports_are names place (report ∷ reports) =
    line_more (report_text names place report) (spaced (report_line names place report)) (numbered (report_text names) (suc place) reports) (report_lines names (suc place) reports)
    (report_is names place report.reporter report.amount report.target) (reports_are names (suc place) reports)

sent_are : (names : NameTexts) (reporter : ℕ) (scripts : List (List Report)) → numbered (sent_text names) reporter (map (λ script. length script) scripts) ≡ printed (sent_lines names reporter scripts)
sent_are names reporter [] = refl
sent_are names reporter (script ∷ scripts) =
    line_more (sent_text names reporter (length script)) (spaced (sent_line names reporter (length script))) (numbered (sent_text names) (suc reporter) (map (λ script. length script) scripts))
    (sent_lines names (suc reporter) scripts) (sent_is _ (decimal (length script))) (sent_are names (suc reporter) scripts)

reads_are : (reads : List ReadLine) (last : ReadLine) → flat_map read_text reads ++ final_text last ≡ printed (read_lines reads last)
reads_are [] last = final_is last
reads_are (read ∷ reads) last =
    append_assoc (read_text read) (flat_map read_text reads) (final_text last)
    ∙ line_more (read_text read) (spaced (read_words read)) (flat_map read_text reads ++ final_text last) (read_lines reads last) (read_is read) (reads_are reads last)

-- what a reader of a log saw
abbrev pub seen_of : ReaderLog → Seen
seen_of reader = record { reads = reader.reads.items; last = reader.last }

abbrev pub all_seen_of : List ReaderLog → List Seen
all_seen_of readers = map seen_of readers

-- the reader's final log is the history
pub record IsClosed (history : ℕ) (reader : ReaderLog) : Type 0 where
  pub none : reader.beyond.items ≡ []
  pub length_so : reader.length ≡ history

reader_printed : (names : NameTexts) (history number : ℕ) (reader : ReaderLog) → IsClosed history reader → reader_text names history number reader ≡ printed (seen_lines history number (seen_of reader))
reader_printed names history number reader closed =
    ap (λ (beyond : List Report). head ++ numbered (beyond_line names) history beyond ++ flat_map read_text reader.reads.items ++ final_text reader.last) closed.none
    ∙ ap (λ (h : List ℕ). h ++ flat_map read_text reader.reads.items ++ final_text reader.last) (append-nil head)
    ∙ append_assoc head (flat_map read_text reader.reads.items) (final_text reader.last)
    ∙ line_more head (spaced (reader_line number history)) (flat_map read_text reader.reads.items ++ final_text reader.last) (read_lines reader.reads.items reader.last)
    (reader_is (decimal number) (decimal reader.length) ∙ ap (λ (n : ℕ). spaced (reader_line number n) ++ 10 ∷ []) closed.length_so) (reads_are reader.reads.items reader.last)
  where
    head : List ℕ
    head = codes "reader " ++ decimal number ++ codes " length " ++ decimal reader.length ++ codes "\n"

readers_are : (names : NameTexts) (history number : ℕ) (readers : List ReaderLog) → All (IsClosed history) readers
    → numbered (reader_text names history) number readers ≡ printed (all_seen history number (all_seen_of readers))
readers_are names history number [] closed = refl
readers_are names history number (reader ∷ readers) closed =
    ap (λ (t : List ℕ). t ++ numbered (reader_text names history) (suc number) readers) (reader_printed names history number reader (All-head (IsClosed history) reader readers closed))
    ∙ ap (λ (t : List ℕ). printed (seen_lines history number (seen_of reader)) ++ t) (readers_are names history (suc number) readers (All-tail (IsClosed history) reader readers closed))
    ∙ sym (printed-append (seen_lines history number (seen_of reader)) (all_seen history (suc number) (all_seen_of readers)))

-- ---- the whole

-- the lines before the table
unfoldable pub front_lines : NameTexts → List Report → List (List Report) → List Seen → List (List ℕ)
front_lines names history scripts seen =
    (((spaced (history_line (length history)) ∷ []) ++ report_lines names 0 history) ++ sent_lines names 0 scripts) ++ all_seen (length history) 0 seen

history_is : (number : List ℕ) → codes "history " ++ number ++ codes "\n" ≡ printed (spaced (codes "history" ∷ number ∷ []) ∷ [])
history_is number = refl

pub run_text_is : (names : NameTexts) (log : CrewLog Table) (scripts : List (List Report)) → log.sent.items ≡ map (λ script. length script) scripts → All (IsClosed (length log.history.items)) log.readers.items
    → run_text_of names log ≡ printed (front_lines names log.history.items scripts (all_seen_of log.readers.items)) ++ text_of names log.table
unfolding run_text_of front_lines
run_text_is names log scripts sent closed = ap (λ (t : List ℕ). t ++ text_of names log.table) whole where
  history : List Report
  history = log.history.items

  reports : List (List ℕ)
  reports = report_lines names 0 history

  first : List (List ℕ)
  first = spaced (history_line (length history)) ∷ []

  senders : List (List ℕ)
  senders = sent_lines names 0 scripts

  seen : List (List ℕ)
  seen = all_seen (length history) 0 (all_seen_of log.readers.items)

  whole : codes "history " ++ decimal (length history) ++ codes "\n" ++ numbered (report_text names) 0 history ++ numbered (sent_text names) 0 log.sent.items ++ numbered (reader_text names (length history)) 0 log.readers.items
      ≡ printed (((first ++ reports) ++ senders) ++ seen)
  whole =
      ap (λ (r : List ℕ). codes "history " ++ decimal (length history) ++ codes "\n" ++ r ++ numbered (sent_text names) 0 log.sent.items ++ numbered (reader_text names (length history)) 0 log.readers.items) (reports_are names 0 history)
      ∙ ap (λ (s : List ℕ). printed first ++ printed reports ++ s ++ numbered (reader_text names (length history)) 0 log.readers.items) (ap (numbered (sent_text names) 0) sent ∙ sent_are names 0 scripts)
      ∙ ap (λ (r : List ℕ). printed first ++ printed reports ++ printed senders ++ r) (readers_are names (length history) 0 log.readers.items closed)
      ∙ sym (
      printed-append ((first ++ reports) ++ senders) seen
      ∙ ap (λ (t : List ℕ). t ++ printed seen) (printed-append (first ++ reports) senders ∙ ap (λ (t : List ℕ). t ++ printed senders) (printed-append first reports))
      )
