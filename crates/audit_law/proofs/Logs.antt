-- Closed legal runs by their crew logs, and by the lists that their lines show.
use Rattle.std.proofs.Common.{◌≡◌, ◌<◌, ◌≤◌, ◌++◌, ℕ, List, [], ◌∷◌, Vec, Global, length, map, take, get_or, refl, sym, ap, ◌∙◌, subst, arith, append-nil, All}
use Rattle.std.specs.Prelude.{slice_index_or}
use Rattle.std.proofs.lemmas.List.{get_or-map, length-append, length-map, nil_from_length}
use Rattle.std.proofs.lemmas.List.Elements.{All-cons, All-head, All-nil, All-tail, All-map}
use Rattle.bwe_specs.specs.declared.report.Report.{Report}
use Rattle.bwe_specs.specs.Allocation.{Table}
use Rattle.bwe_specs.specs.Reports.{reports_of}
use Rattle.board_core.specs.Core.{IsAllowed}
use Rattle.bwe_specs.specs.Fit.{IsFit}
use Rattle.limit_table.specs.Tables.{total_of as table_total}
use Rattle.crew_log.specs.declared.log.ReadLine.{ReadLine}
use Rattle.crew_log.specs.declared.log.ReaderLog.{ReaderLog}
use Rattle.crew_log.specs.declared.log.CrewLog.{CrewLog}
use Rattle.crew_log.specs.Lines.{IsLineOf, NeverGoBack}
use Rattle.crew_log.specs.LegalCrewLog.{IsReaderOf, lines_of as reader_lines_of}
use Rattle.table_text.specs.TableText.{text_of}
use Rattle.doc_names.specs.NameTexts.{NameTexts}
use Rattle.bwe_specs.specs.Lists.{lists_of}
use Rattle.audit_law.specs.ClosedRun.{AreAudited, IsClosedRun, IsInterleaving}
use Rattle.audit_law.proofs.Vectors.{vec_of}
use Rattle.audit_law.proofs.Lines.{printed}
use Rattle.audit_law.proofs.Histories.{history_length}
use Rattle.audit_law.proofs.Blocks.{IsRight}
use Rattle.audit_law.proofs.Readers.{IsSeen, Seen}
use Rattle.audit_law.proofs.Texts.{IsClosed, all_seen_of, front_lines, run_text_is, seen_of}
use Rattle.audit_law.proofs.Whole.{IsRun}

-- ---- scripts as lists

no_reports : Vec Report Global
no_reports = vec_of [] (omega arith)

pub script_at : (scripts : List (Vec Report Global)) (number : ℕ) (other : Vec Report Global) → number < length scripts
    → slice_index_or (lists_of scripts) number [] ≡ (slice_index_or scripts number other).items
script_at scripts number other within = get_or-map (λ (script : Vec Report Global). script.items) scripts number other [] within

pub script_count : (scripts : List (Vec Report Global)) → length (lists_of scripts) ≡ length scripts
script_count scripts = length-map scripts (λ (script : Vec Report Global). script.items)

lengths-are : (scripts : List (Vec Report Global)) → map (λ script. length script.items) scripts ≡ map (λ script. length script) (lists_of scripts)
lengths-are [] = refl
lengths-are (script ∷ scripts) = ap (λ (rest : List ℕ). length script.items ∷ rest) (lengths-are scripts)

module _ (tasks links : ℕ) (scripts : List (Vec Report Global)) (history : List Report) where
  interleaving_from : ((number : ℕ) (other : Vec Report Global) → number < length scripts → reports_of number history ≡ (slice_index_or scripts number other).items)
      → All (IsAllowed (length scripts) (IsFit tasks links)) history → IsInterleaving tasks links (lists_of scripts) history
  interleaving_from each no_other = record {
    each = λ number lt. let within : number < length scripts = omega (arith, lt, script_count scripts) in each number no_reports within ∙ sym (script_at scripts number no_reports within);
    no_other = subst (λ (n : ℕ). All (λ report. (report.reporter < n) × IsFit tasks links report) history) (sym (script_count scripts)) no_other;
  }

  pub each_from : IsInterleaving tasks links (lists_of scripts) history → (number : ℕ) (other : Vec Report Global) → number < length scripts → reports_of number history ≡ (slice_index_or scripts number other).items
  each_from legal number other within = legal.each number (omega (arith, within, script_count scripts)) ∙ script_at scripts number other within

  allowed_from : IsInterleaving tasks links (lists_of scripts) history → All (IsAllowed (length scripts) (IsFit tasks links)) history
  allowed_from legal = subst (λ (n : ℕ). All (λ report. (report.reporter < n) × IsFit tasks links report) history) (script_count scripts) legal.no_other

-- ---- readers

-- the table is that of the reports
abbrev Belongs : (List Report → Table) → List Report → Table → Type 0
Belongs table_of reports table = table ≡ table_of reports

-- the total of the table of so many first reports
abbrev total_at : (List Report → Table) → List Report → ℕ → ℕ
total_at table_of history prefix = table_total (table_of (take prefix history))

abbrev AreFew : Seen → Type 0
AreFew seen = length seen.reads ≤ 1000

module _ (table_of : List Report → Table) (allowed : Report → Type 0) (reads : ℕ) (history : List Report) where
  -- the reader's part of a legal log, which ends with the history
  abbrev IsPart : ReaderLog → Type 0
  IsPart reader = IsReaderOf (Belongs table_of) table_total allowed reads history reader × (reader.length ≡ length history)

  reader_closed : (reader : ReaderLog) → IsPart reader → IsClosed (length history) reader
  reader_closed reader (is, same) = record {
    none = nil_from_length reader.beyond.items (omega (arith, is.length_so, same, length-append history reader.beyond.items));
    length_so = same;
  }

  reader_seen : (reader : ReaderLog) → IsPart reader → IsSeen (total_at table_of history) (length history) reads (seen_of reader)
  reader_seen reader (is, same) = record {
    count = is.reads_so;
    is = record {
      never_back = subst (NeverGoBack 0 (reader_lines_of reader)) same is.never_back;
      right = λ k d lt. line_right (get_or (reader_lines_of reader) k d) (subst (λ (reports : List Report). IsLineOf (Belongs table_of) table_total reports (get_or (reader_lines_of reader) k d)) whole (is.lines k d lt));
      covers = is.covers;
    };
  }
    where
      whole : history ++ reader.beyond.items ≡ history
      whole = ap (λ (beyond : List Report). history ++ beyond) (reader_closed reader (is, same)).none ∙ append-nil history

      line_right : (line : ReadLine) → IsLineOf (Belongs table_of) table_total history line → IsRight (total_at table_of history) (length history) line
      line_right line of = (of.within, of.total ∙ ap table_total of.belongs_so)

  -- a reader of which this was seen
  abbrev reader_from : (seen : Seen) → length seen.reads ≤ 1000 → ReaderLog
  reader_from seen few = record { reads = vec_of seen.reads (omega (arith, few)); last = seen.last; length = length history; beyond = vec_of [] (omega arith) }

  readers_from : (seen : List Seen) → All AreFew seen → List ReaderLog
  readers_from [] few = []
  readers_from (first ∷ later) few =
      reader_from first (All-head AreFew first later few) ∷ readers_from later (All-tail AreFew first later few)

  seen-readers : (seen : List Seen) (few : All AreFew seen) → all_seen_of (readers_from seen few) ≡ seen
  unfolding readers_from
  seen-readers [] few = refl
  seen-readers (first ∷ later) few = ap (λ (rest : List Seen). first ∷ rest) (seen-readers later (All-tail AreFew first later few))

  length-readers : (seen : List Seen) (few : All AreFew seen) → length (readers_from seen few) ≡ length seen
  length-readers seen few = sym (length-map (readers_from seen few) seen_of) ∙ ap length (seen-readers seen few)

  reader_is : (seen : Seen) (few : length seen.reads ≤ 1000) → IsSeen (total_at table_of history) (length history) reads seen
      → IsReaderOf (Belongs table_of) table_total allowed reads history (reader_from seen few)
  reader_is seen few is = record {
    reads_so = is.count;
    length_so = ap length (sym (append-nil history));
    allowed_so = All-nil allowed;
    lines = λ k d lt. subst (λ (reports : List Report). IsLineOf (Belongs table_of) table_total reports (get_or (seen.reads ++ seen.last ∷ []) k d)) (sym (append-nil history))
        (line_of (get_or (seen.reads ++ seen.last ∷ []) k d) (is.is.right k d lt));
    never_back = is.is.never_back;
    covers = is.is.covers;
  }
    where
      line_of : (line : ReadLine) → IsRight (total_at table_of history) (length history) line → IsLineOf (Belongs table_of) table_total history line
      line_of line right = record { table = table_of (take line.prefix history); within = right.0; belongs_so = refl; total = right.1 }

  readers_are : (seen : List Seen) (few : All AreFew seen) → All (IsSeen (total_at table_of history) (length history) reads) seen
      → All IsPart (readers_from seen few)
  unfolding readers_from
  readers_are [] few all = All-nil IsPart
  readers_are (first ∷ later) few all =
      All-cons IsPart
      (reader_from first (All-head AreFew first later few)) (readers_from later (All-tail AreFew first later few))
      (reader_is first (All-head AreFew first later few) (All-head (IsSeen (total_at table_of history) (length history) reads) first later all), refl)
      (readers_are later (All-tail AreFew first later few) (All-tail (IsSeen (total_at table_of history) (length history) reads) first later all))

-- ---- the whole

module _ (names : NameTexts) (table_of : List Report → Table) (table : Table) (tasks links : ℕ) (scripts : List (Vec Report Global)) (audited : AreAudited names table_of table tasks links scripts) where
  -- the log of a closed legal run, by what its lines show
  pub run_of : (text : List ℕ) → IsClosedRun names table_of tasks links scripts text → IsRun names tasks links (lists_of scripts) (λ reports. table_total (table_of reports)) table text
  run_of text run = go run.log.readers.items refl where
    log : CrewLog Table
    log = run.log

    history : List Report
    history = log.history.items

    allowed : Report → Type 0
    allowed = IsAllowed (length scripts) (IsFit tasks links)

    legal : IsInterleaving tasks links (lists_of scripts) history
    legal = interleaving_from tasks links scripts history run.legal.scripts_so run.legal.no_other

    part : All (IsPart table_of allowed run.reads history) log.readers.items
    part k d lt = (run.legal.each_reader k d lt, run.closed k d lt)

    closed : All (IsClosed (length history)) log.readers.items
    closed k d lt = reader_closed table_of allowed run.reads history (get_or log.readers.items k d) (part k d lt)

    text_so : text ≡ printed (front_lines names history (lists_of scripts) (all_seen_of log.readers.items)) ++ text_of names table
    text_so =
        run.text_so
        ∙ run_text_is names log (lists_of scripts) (run.legal.sent ∙ lengths-are scripts) closed
        ∙ ap (λ (t : Table). printed (front_lines names history (lists_of scripts) (all_seen_of log.readers.items)) ++ text_of names t) (run.legal.table_so ∙ audited.table_so history legal)

    seen : All (IsSeen (total_at table_of history) (length history) run.reads) (all_seen_of log.readers.items)
    seen = All-map (IsSeen (total_at table_of history) (length history) run.reads) seen_of log.readers.items (λ k d lt. reader_seen table_of allowed run.reads history (get_or log.readers.items k d) (part k d lt))

    go : (readers : List ReaderLog) → log.readers.items ≡ readers → IsRun names tasks links (lists_of scripts) (λ reports. table_total (table_of reports)) table text
    go [] is = absurd (omega (arith, run.some_readers, run.legal.readers_so, ap length is))
    go (first ∷ later) is = record {
      history = history;
      reads = run.reads;
      first = seen_of first;
      later = all_seen_of later;
      legal = legal;
      few_reads = run.few_reads;
      few = omega (arith, run.few_readers, run.legal.readers_so, ap length is, length-map later seen_of);
      seen = subst (λ (readers : List ReaderLog). All (IsSeen (total_at table_of history) (length history) run.reads) (all_seen_of readers)) is seen;
      text_so = text_so ∙ ap (λ (readers : List ReaderLog). printed (front_lines names history (lists_of scripts) (all_seen_of readers)) ++ text_of names table) is;
    }

  -- and the other way round
  pub closed_of : (text : List ℕ) → IsRun names tasks links (lists_of scripts) (λ reports. table_total (table_of reports)) table text → IsClosedRun names table_of tasks links scripts text
  closed_of text run = record {
    log = log;
    readers = length seen;
    reads = run.reads;
    some_readers = omega arith;
    few_readers = run.few;
    few_reads = run.few_reads;
    legal = record {
      scripts_so = each_from tasks links scripts history run.legal;
      no_other = allowed_from tasks links scripts history run.legal;
      sent = refl;
      readers_so = count;
      each_reader = λ k d lt. (parts k d lt).0;
      table_so = sym (audited.table_so history run.legal);
    };
    closed = λ k d lt. (parts k d lt).1;
    text_so =
        run.text_so
        ∙ ap (λ (s : List Seen). printed (front_lines names history (lists_of scripts) s) ++ text_of names table) (sym (seen-readers table_of allowed run.reads history seen few))
        ∙ sym (run_text_is names log (lists_of scripts) (lengths-are scripts) (λ k d lt. reader_closed table_of allowed run.reads history (get_or readers k d) (parts k d lt)));
  }
    where
      history : List Report
      history = run.history

      allowed : Report → Type 0
      allowed = IsAllowed (length scripts) (IsFit tasks links)

      seen : List Seen
      seen = run.first ∷ run.later

      few : All AreFew seen
      few k d lt = omega (arith, (run.seen k d lt).count, run.few_reads)

      readers : List ReaderLog
      readers = readers_from table_of allowed run.reads history seen few

      count : length readers ≡ length seen
      count = length-readers table_of allowed run.reads history seen few

      parts : All (IsPart table_of allowed run.reads history) readers
      parts = readers_are table_of allowed run.reads history seen few run.seen

      log : CrewLog Table
      log = record {
        history = vec_of history (omega (arith, history_length tasks links (lists_of scripts) history run.legal, audited.scripts_so.few));
        sent = vec_of (map (λ script. length script.items) scripts) (omega (arith, length-map scripts (λ (script : Vec Report Global). length script.items), script_count scripts, audited.scripts_so.few_reporters));
        readers = vec_of readers (omega (arith, count, run.few));
        table = table;
      }
