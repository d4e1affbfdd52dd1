-- What was read without a fault is the beginning of a legal text, where the reading has not stopped among the reads of a reader.
use Rattle.std.proofs.Common.{◌≡◌, ◌<◌, ◌≤◌, ◌+◌, ◌-◌, ◌^◌, ◌++◌, ◌==◌, ◌&&◌, ℕ, suc, Bool, true, false, cond, not, List, [], ◌∷◌, length, get_or, set, take, drop, nat_lt, codes, Option, Some, None, Result, Ok, Err, refl, sym, ap, ◌∙◌, subst, arith, All, replicate, take-append-drop}
use Rattle.std.specs.Prelude.{nat_le, slice_index_or}
use Rattle.std.specs.Str.{bytes_eq}
use Rattle.std.proofs.lemmas.Bool.{ltb-false, ltb-true}
use Rattle.std.proofs.lemmas.List.{length-take-le, length_push}
use Rattle.std.proofs.lemmas.List.Elements.{All-cons, All-nil, All-take, All-weaker}
use Rattle.std.proofs.lemmas.Option.{slice_get_within}
use Rattle.bwe_specs.specs.declared.report.Report.{Report}
use Rattle.bwe_specs.specs.Fit.{IsFit}
use Rattle.crew_log.specs.declared.log.ReadLine.{ReadLine}
use Rattle.text_scan.specs.Words.{words_of}
use Rattle.doc_names.specs.NameTexts.{NameTexts, entry_at}
use Rattle.run_audit.specs.Forms.{history_of, reader_of, sent_of, shown_of}
use Rattle.run_audit.specs.History.{Printed, Reported, begins, continue_with, fault, history_in, line_after, none_printed, take_line, take_lines, total_of}
use Rattle.run_audit.specs.Walk.{Walk, Walked, after_final, after_line, after_read, after_reader, after_reporter, after_shown, after_table, due_from, goes_on, is_over, is_reader, is_wanted, leads_to, new_block, reader_leads, sent_leads, shown_leads, step_from, with_table}
use Rattle.run_audit.specs.Verdict.{at_end, go_on, is_total, judge}
use Rattle.run_audit.specs.declared.forms.ReaderWords.{ReaderWords}
use Rattle.run_audit.specs.declared.forms.Shown.{Shown}
use Rattle.run_audit.specs.declared.due.Block.{Block}
use Rattle.run_audit.specs.declared.due.Due.{Due}
use Rattle.run_audit.specs.declared.due.Due.TheVariants.{Reporter, Reader, Line, Next, Table}
use Rattle.run_audit.specs.declared.due.Step.{Step}
use Rattle.run_audit.specs.declared.verdict.AuditCause.{AuditCause}
use Rattle.run_audit.specs.declared.verdict.AuditCause.TheVariants as causes
use Rattle.run_audit.specs.declared.verdict.AuditVerdict.{AuditVerdict}
use Rattle.run_audit.specs.declared.verdict.AuditVerdict.TheVariants.{Legal, Wrong}
use Rattle.run_audit.specs.declared.verdict.Fault.{Fault}
use Rattle.audit_law.specs.ClosedRun.{AreNames, AreScripts, IsInterleaving}
use Rattle.audit_law.specs.FirstFault.{IsNoRead}
use Rattle.audit_law.proofs.Lines.{spaced}
use Rattle.audit_law.proofs.LineForms.{history_line}
use Rattle.run_audit.proofs.Takes.{lines_full}
use Rattle.audit_law.proofs.Histories.{Begin, HasTaken, IsTaken, all_taken, begin_more, begin_none, history_length, history_taken, line_read, lines_next, report_lines, taken_more, taken_none}
use Rattle.audit_law.proofs.Laters.{goes-on, laters}
use Rattle.audit_law.proofs.Steps.{IsLegalFrom, IsTable, all_sent, due_some, sent_lines, step_on, table_next, table_on}
use Rattle.audit_law.proofs.Blocks.{IsRight}
use Rattle.audit_law.proofs.Readers.{IsSeen, Seen, all_seen, readers_on}
use Rattle.audit_law.proofs.SameFaults.{IsTakenOr, fault_least, history_least, judged, one_more}

-- ---- what may be due

module _ (names : NameTexts) (scripts : List (List Report)) where
  -- a reporter that is due has a script, and up to the table its first line does not begin as one of a reader
  abbrev IsSound : Due → List (List ℕ) → Type 0
  IsSound (Reporter next) table = (next < length scripts) × IsTable table
  IsSound Reader table = IsTable table
  IsSound (Line block) table = IsTable table
  IsSound (Next readers reads) table = IsTable table
  IsSound Table table = Unit {0}

  abbrev IsOutside : Due → Type 0
  IsOutside (Reporter next) = Unit {0}
  IsOutside Reader = Unit {0}
  IsOutside (Line block) = ⊥
  IsOutside (Next readers reads) = Unit {0}
  IsOutside Table = Unit {0}

  abbrev LeadsSoundly : Result Walked AuditCause → Type 0
  LeadsSoundly (Ok walked) = IsSound walked.walk.due walked.walk.table
  LeadsSoundly (Err cause) = Unit {0}

  sound_due : (table : List (List ℕ)) (next : ℕ) → IsTable table → IsSound (due_from scripts next) table
  sound_due table next is = go (nat_lt next (length scripts)) refl where
    go : (within : Bool) → nat_lt next (length scripts) ≡ within → IsSound (cond within (Reporter next) Reader) table
    go true e = (ltb-true next (length scripts) e, is)
    go false e = is

  sound_table : (table : List (List ℕ)) (line : List ℕ) → LeadsSoundly (after_table table line)
  sound_table [] line = tt
  sound_table (wanted ∷ table) line = go (bytes_eq line wanted) where
    go : (same : Bool) → LeadsSoundly (cond {A = Result Walked AuditCause} same (Ok (record { walk = record { due = Table; table = table }; shown = None })) (Err causes.Table))
    go true = tt
    go false = tt

  sound_reader : (table : List (List ℕ)) (total number : ℕ) (wanted : Option ℕ) (words : List (List ℕ)) → IsTable table → LeadsSoundly (with_table table (after_reader total number wanted words))
  unfolding after_reader
  sound_reader table total number wanted words is = go (reader_of words) where
    go : (told : Option ReaderWords) → LeadsSoundly (with_table table (reader_leads total number wanted told))
    go None = tt
    go (Some told) = test ((told.number == number) && nat_lt told.number 64) (told.length == total) where
      test : (right whole : Bool) → LeadsSoundly (with_table table (cond {A = Result Step AuditCause} right (cond {A = Result Step AuditCause} whole (leads_to (Line (new_block number wanted))) (Err causes.Length)) (Err causes.Reader)))
      test false whole = tt
      test true false = tt
      test true true = is

  sound_reporter : (table : List (List ℕ)) (next : ℕ) (words : List (List ℕ)) → IsTable table → LeadsSoundly (with_table table (after_reporter names scripts next words))
  unfolding after_reporter
  sound_reporter table next words is = go (sent_of names words) where
    go : (told : Option ℕ) → LeadsSoundly (with_table table (sent_leads names scripts next words told))
    go None = tt
    go (Some sent) = test (bytes_eq (entry_at words 1) (entry_at names.reporters next) && (sent == length (slice_index_or scripts next []))) where
      test : (right : Bool) → LeadsSoundly (with_table table (cond {A = Result Step AuditCause} right (leads_to (due_from scripts (next + 1))) (Err causes.Sent)))
      test true = sound_due table (next + 1) is
      test false = tt

  sound_read : (table : List (List ℕ)) (total : ℕ) (block : Block) (shown : Shown) → IsTable table → LeadsSoundly (with_table table (after_read total block shown))
  unfolding after_read
  sound_read table total block shown is = test (nat_lt block.reads 1000) (goes_on total block shown) where
    test : (few goes : Bool) → LeadsSoundly (with_table table (cond {A = Result Step AuditCause} few (cond {A = Result Step AuditCause} goes (Ok (record { due = Line (record block { reads = block.reads + 1; prefix = shown.prefix }); shown = Some shown })) (Err causes.Prefix)) (Err causes.Reader)))
    test false goes = tt
    test true false = tt
    test true true = is

  sound_final : (table : List (List ℕ)) (total : ℕ) (block : Block) (shown : Shown) → IsTable table → LeadsSoundly (with_table table (after_final total block shown))
  unfolding after_final
  sound_final table total block shown is = test (is_wanted block.wanted block.reads) (goes_on total block shown && nat_le total shown.prefix) where
    test : (few goes : Bool) → LeadsSoundly (with_table table (cond {A = Result Step AuditCause} few (cond {A = Result Step AuditCause} goes (Ok (record { due = Next (block.number + 1) block.reads; shown = Some shown })) (Err causes.Prefix)) (Err causes.Reader)))
    test false goes = tt
    test true false = tt
    test true true = is

  sound_shown : (table : List (List ℕ)) (total : ℕ) (block : Block) (words : List (List ℕ)) → IsTable table → LeadsSoundly (with_table table (after_shown total block words))
  unfolding after_shown
  sound_shown table total block words is = go (shown_of (codes "read") words) (shown_of (codes "final") words) where
    go : (read final : Option Shown) → LeadsSoundly (with_table table (shown_leads total block read final))
    go (Some read) final = sound_read table total block read is
    go None (Some final) = sound_final table total block final is
    go None None = tt

  -- what is due stays sound
  sound_after : (due : Due) (table : List (List ℕ)) (line : List ℕ) → IsSound due table → LeadsSoundly (after_line names scripts (record { due = due; table = table }) line)
  unfolding after_line step_from
  sound_after (Reporter next) table line sound = sound_reporter table next (words_of line) sound.1
  sound_after Reader table line sound = sound_reader table (total_of scripts) 0 None (words_of line) sound
  sound_after (Line block) table line sound = sound_shown table (total_of scripts) block (words_of line) sound
  sound_after (Next readers reads) table line sound = go (is_reader line) where
    go : (reader : Bool) → LeadsSoundly (cond {A = Result Walked AuditCause} (not reader) (after_table table line) (with_table table (after_reader (total_of scripts) readers (Some reads) (words_of line))))
    go true = sound_reader table (total_of scripts) readers (Some reads) (words_of line) sound
    go false = sound_table table line
  sound_after Table table line sound = sound_table table line

  -- ---- among the reads of a reader no other cause comes

  abbrev HasCauseOfReads : Result Walked AuditCause → Type 0
  HasCauseOfReads (Ok walked) = Unit {0}
  HasCauseOfReads (Err cause) = IsNoRead cause → ⊥

  cause_shown : (table : List (List ℕ)) (total : ℕ) (block : Block) (words : List (List ℕ)) → HasCauseOfReads (with_table table (after_shown total block words))
  unfolding after_shown after_read after_final
  cause_shown table total block words = go (shown_of (codes "read") words) (shown_of (codes "final") words) where
    test : (step : Step) (few goes : Bool) → HasCauseOfReads (with_table table (cond {A = Result Step AuditCause} few (cond {A = Result Step AuditCause} goes (Ok step) (Err causes.Prefix)) (Err causes.Reader)))
    test step false goes = λ none. none
    test step true false = λ none. none
    test step true true = tt

    go : (read final : Option Shown) → HasCauseOfReads (with_table table (shown_leads total block read final))
    go (Some read) final = test (record { due = Line (record block { reads = block.reads + 1; prefix = read.prefix }); shown = Some read }) (nat_lt block.reads 1000) (goes_on total block read)
    go None (Some final) = test (record { due = Next (block.number + 1) block.reads; shown = Some final }) (is_wanted block.wanted block.reads) (goes_on total block final && nat_le total final.prefix)
    go None None = λ none. none

  cause_in_block : (block : Block) (table : List (List ℕ)) (line : List ℕ) → HasCauseOfReads (after_line names scripts (record { due = Line block; table = table }) line)
  unfolding after_line step_from
  cause_in_block block table line = cause_shown table (total_of scripts) block (words_of line)

  outside : (due : Due) (table : List (List ℕ)) (line : List ℕ) (cause : AuditCause) → after_line names scripts (record { due = due; table = table }) line ≡ Err cause → IsNoRead cause → IsOutside due
  outside (Reporter next) table line cause e kind = tt
  outside Reader table line cause e kind = tt
  outside (Line block) table line cause e kind = subst HasCauseOfReads e (cause_in_block block table line) kind
  outside (Next readers reads) table line cause e kind = tt
  outside Table table line cause e kind = tt

  -- ---- behind the history

  module _ (are : AreNames names) (named : length scripts ≤ length names.reporters) (few : (number : ℕ) → number < length scripts → length (slice_index_or scripts number []) < 2 ^ 64) (small : total_of scripts < 2 ^ 64)
      (total_at : ℕ → ℕ) (fit : (prefix : ℕ) → prefix ≤ total_of scripts → total_at prefix < 2 ^ 64) where
    -- a reader that read nothing but the whole history at the end
    last_read : ReadLine
    last_read = record { floor = total_of scripts; prefix = total_of scripts; total = total_at (total_of scripts) }

    one_reader : Seen
    one_reader = record { reads = []; last = last_read }

    has_seen : IsSeen total_at (total_of scripts) 0 one_reader
    unfolding one_reader last_read
    has_seen = record {
      count = refl;
      is = record {
        never_back = (omega arith, omega arith, omega arith);
        right = All-cons (IsRight total_at (total_of scripts)) last_read [] (omega arith, refl) (All-nil (IsRight total_at (total_of scripts)));
        covers = omega arith;
      };
    }

    from_reader : (table : List (List ℕ)) → IsTable table → IsLegalFrom names scripts total_at [] (record { due = Reader; table = table }) (all_seen (total_of scripts) 0 (one_reader ∷ []) ++ table)
    from_reader table is =
        readers_on names scripts total_at [] small fit table 0 one_reader [] refl is (omega arith) (omega arith)
        (All-cons (IsSeen total_at (total_of scripts) 0) one_reader [] has_seen (All-nil (IsSeen total_at (total_of scripts) 0)))

    from_reporter : (table : List (List ℕ)) (next : ℕ) → next < length scripts → IsTable table
        → IsLegalFrom names scripts total_at [] (record { due = Reporter next; table = table }) (sent_lines names next (drop next scripts) ++ (all_seen (total_of scripts) 0 (one_reader ∷ []) ++ table))
    from_reporter table next within is =
        subst (λ (due : Due). IsLegalFrom names scripts total_at [] (record { due = due; table = table }) (sent_lines names next (drop next scripts) ++ rest)) (due_some names scripts total_at [] next within)
        (subst (λ (n : ℕ). IsLegalFrom names scripts total_at [] (record { due = due_from scripts n; table = table }) (sent_lines names n (drop next scripts) ++ rest)) (length-take-le next scripts (omega (arith, within)))
        (all_sent names scripts total_at [] are named few table rest (take next scripts) (drop next scripts) (sym (take-append-drop next scripts)) (from_reader table is)))
      where
        rest : List (List ℕ)
        rest = all_seen (total_of scripts) 0 (one_reader ∷ []) ++ table

    -- lines with which all ends well
    from_there : (due : Due) (table : List (List ℕ)) → IsSound due table → IsOutside due → (rest : List (List ℕ)) × IsLegalFrom names scripts total_at [] (record { due = due; table = table }) rest
    from_there (Reporter next) table sound out = (sent_lines names next (drop next scripts) ++ (all_seen (total_of scripts) 0 (one_reader ∷ []) ++ table), from_reporter table next sound.0 sound.1)
    from_there Reader table sound out = (all_seen (total_of scripts) 0 (one_reader ∷ []) ++ table, from_reader table sound)
    from_there (Line block) table sound out = absurd out
    from_there (Next readers reads) table sound out = (table, table_next names scripts total_at [] readers reads table refl sound)
    from_there Table table sound out = (table, table_on names scripts total_at [] table refl)

    -- the lines before the one at fault, and with which all ends well behind them
    abbrev pub Ends : Walk → ℕ → ℕ → List (List ℕ) → Type 0
    Ends walk number line lines = (rest : List (List ℕ)) × (line ≤ number + length lines) × IsLegalFrom names scripts total_at [] walk (take (line - number) lines ++ rest)

    here : (walk : Walk) (number line : ℕ) (lines : List (List ℕ)) → number ≡ line → IsSound walk.due walk.table → IsOutside walk.due → Ends walk number line lines
    here walk number line lines same sound out =
        let there = from_there walk.due walk.table sound out in
        let count : 0 ≡ line - number = omega (arith, same) in
        (there.0, omega (arith, same), subst (λ (n : ℕ). IsLegalFrom names scripts total_at [] walk (take n lines ++ there.0)) count there.1)

    over_is_outside : (due : Due) (table : List (List ℕ)) → is_over (record { due = due; table = table }) ≡ true → IsOutside due
    over_is_outside (Reporter next) table e = tt
    over_is_outside Reader table e = tt
    over_is_outside (Line block) table e = absurd cc
    over_is_outside (Next readers reads) table e = tt
    over_is_outside Table table e = tt

    pub walk_ends : (left : List ℕ) (lines : List (List ℕ)) (walk : Walk) (number line : ℕ) (cause : AuditCause) → IsNoRead cause → IsSound walk.due walk.table
        → judge names scripts total_at left walk number lines ≡ Wrong line cause → Ends walk number line lines
    unfolding judge
    walk_ends left [] walk number line cause kind sound is = end (is_over walk) left refl is where
      end : (over : Bool) (left : List ℕ) → is_over walk ≡ over → at_end over number left ≡ Wrong line cause → Ends walk number line []
      end false left over e = let form : causes.Form ≡ cause = cc in absurd (subst IsNoRead (sym form) kind)
      end true [] over e = absurd cc
      end true (byte ∷ left) over e = let same : number ≡ line = cc in here walk number line [] same sound (over_is_outside walk.due walk.table over)
    walk_ends left (first ∷ lines) walk number line cause kind sound is =
        go (after_line names scripts walk first) refl (λ next well later. walk_ends left lines next (number + 1) line cause kind well later) is
      where
        Later : Type 0
        Later = (next : Walk) → IsSound next.due next.table → judge names scripts total_at left next (number + 1) lines ≡ Wrong line cause → Ends next (number + 1) line lines

        go : (answer : Result Walked AuditCause) → after_line names scripts walk first ≡ answer → Later → go_on total_at number (λ next. judge names scripts total_at left next (number + 1) lines) answer ≡ Wrong line cause
            → Ends walk number line (first ∷ lines)
        go (Err other) after later e =
            let same : number ≡ line = cc in
            let which : other ≡ cause = cc in
            here walk number line (first ∷ lines) same sound (outside walk.due walk.table first cause (after ∙ ap (λ (c : AuditCause). Err c) which) kind)
        go (Ok walked) after later e = test (is_total total_at walked.shown) refl e where
          test : (right : Bool) → is_total total_at walked.shown ≡ right → cond right (judge names scripts total_at left walked.walk (number + 1) lines) (Wrong number causes.Total) ≡ Wrong line cause → Ends walk number line (first ∷ lines)
          test false right e = let total : causes.Total ≡ cause = cc in absurd (subst IsNoRead (sym total) kind)
          test true right e =
              let well : IsSound walked.walk.due walked.walk.table = subst LeadsSoundly after (sound_after walk.due walk.table first sound) in
              let more : number + 1 ≤ line = fault_least names scripts total_at left lines walked.walk (number + 1) line cause e in
              let ended : Ends walked.walk (number + 1) line lines = later walked.walk well e in
              let count : suc (line - (number + 1)) ≡ line - number = omega (arith, more) in (
                ended.0,
                omega (arith, ended.1),
                subst (λ (n : ℕ). IsLegalFrom names scripts total_at [] walk (take n (first ∷ lines) ++ ended.0)) count
                    (step_on names scripts total_at [] walk first (take (line - (number + 1)) lines ++ ended.0) walked after right ended.2),
              )

  -- ---- the history

  module _ (are : AreNames names) (tasks links : ℕ) (given : AreScripts names tasks links scripts) (few : (number : ℕ) → number < length scripts → length (slice_index_or scripts number []) < 2 ^ 64)
      (total : List Report → ℕ) (totals : (reports : List Report) → All (IsFit tasks links) reports → total reports < 2 ^ 64) (table : List (List ℕ)) (is_table : IsTable table) where
    abbrev AreAllowed : List Report → Type 0
    AreAllowed reports = All (λ report. (report.reporter < length scripts) × IsFit tasks links report) reports

    abbrev total_in : List Report → ℕ → ℕ
    total_in reports prefix = total (take prefix reports)

    small : total_of scripts < 2 ^ 64
    small = omega (arith, given.few)

    fits : (reports : List Report) → AreAllowed reports → (prefix : ℕ) → prefix ≤ total_of scripts → total_in reports prefix < 2 ^ 64
    fits reports all prefix within =
        totals (take prefix reports) (All-take (IsFit tasks links) prefix reports (All-weaker (λ (report : Report). (report.reporter < length scripts) × IsFit tasks links report) (IsFit tasks links) (λ report is. is.1) reports all))

    outside_due : IsOutside (due_from scripts 0)
    outside_due = go (nat_lt 0 (length scripts)) where
      go : (within : Bool) → IsOutside (cond within (Reporter 0) Reader)
      go true = tt
      go false = tt

    -- lines with which all ends well behind a history
    closing : (reports : List Report) → AreAllowed reports → (rest : List (List ℕ)) × IsLegalFrom names scripts (total_in reports) [] (record { due = due_from scripts 0; table = table }) rest
    closing reports all = from_there are given.reporters_named few small (total_in reports) (fits reports all) (due_from scripts 0) table (sound_due table 0 is_table) outside_due

    abbrev printed_of : List Report → List ℕ → Printed
    printed_of done taken = record { reports = done; taken = taken }

    -- lines with which all ends well behind a part of a history
    all_from : (done : List Report) (taken : List ℕ) → HasTaken tasks links scripts done taken → Begin scripts done
        → (rest : List (List ℕ)) × (judged names scripts total table [] (take_lines names scripts (printed_of done taken) rest) ≡ Legal)
    all_from done taken has begin = (
      report_lines names (length done) later ++ close.0,
      ap (judged names scripts total table []) (all_taken names are tasks links scripts given later done taken close.0 has legal) ∙ close.1 (length (done ++ later) + 1),
    )
      where
        later : List Report
        later = laters done 0 scripts

        legal : IsInterleaving tasks links scripts (done ++ later)
        legal = goes-on names tasks links scripts done taken given has begin

        close : (rest : List (List ℕ)) × IsLegalFrom names scripts (total_in (done ++ later)) [] (record { due = due_from scripts 0; table = table }) rest
        close = closing (done ++ later) legal.no_other

    abbrev HistoryEnds : List Report → List ℕ → ℕ → List (List ℕ) → Type 0
    HistoryEnds done taken line lines = (rest : List (List ℕ)) × (line ≤ length done + 1 + length lines)
        × (judged names scripts total table [] (take_lines names scripts (printed_of done taken) (take (line - (length done + 1)) lines ++ rest)) ≡ Legal)

    history_full : (left : List ℕ) (lines : List (List ℕ)) (done : List Report) (taken : List ℕ) (line : ℕ) (cause : AuditCause) → IsNoRead cause → HasTaken tasks links scripts done taken → total_of scripts ≤ length done
        → judge names scripts (total_in done) left (record { due = due_from scripts 0; table = table }) (length done + 1) lines ≡ Wrong line cause → HistoryEnds done taken line lines
    history_full left lines done taken line cause kind has full e =
        let ended = walk_ends are given.reporters_named few small (total_in done) (fits done has.no_other) left lines (record { due = due_from scripts 0; table = table }) (length done + 1) line cause kind (sound_due table 0 is_table) e in (
          ended.0,
          ended.1,
          ap (judged names scripts total table []) (lines_full names scripts (printed_of done taken) (take (line - (length done + 1)) lines ++ ended.0) full) ∙ ended.2 (length done + 1),
        )

    history_ends : (left : List ℕ) (lines : List (List ℕ)) (done : List Report) (taken : List ℕ) (line : ℕ) (cause : AuditCause) → IsNoRead cause → HasTaken tasks links scripts done taken → Begin scripts done
        → judged names scripts total table left (take_lines names scripts (printed_of done taken) lines) ≡ Wrong line cause → HistoryEnds done taken line lines
    unfolding take_lines
    history_ends left [] done taken line cause kind has begin is = go (nat_lt (length done) (total_of scripts)) refl is where
      go : (short : Bool) → nat_lt (length done) (total_of scripts) ≡ short
          → judged names scripts total table left (cond {A = Result Reported Fault} short (fault (line_after (printed_of done taken)) causes.Form) (Ok (record { reports = done; lines = [] }))) ≡ Wrong line cause
          → HistoryEnds done taken line []
      go true test e = let form : causes.Form ≡ cause = cc in absurd (subst IsNoRead (sym form) kind)
      go false test e = history_full left [] done taken line cause kind has (ltb-false (length done) (total_of scripts) test) e
    history_ends left (first ∷ lines) done taken line cause kind has begin is =
        go (nat_lt (length done) (total_of scripts)) refl (λ next taken' more begun rest. history_ends left lines next taken' line cause kind more begun rest) is
      where
        printed : Printed
        printed = printed_of done taken

        Later : Type 0
        Later = (next : List Report) (taken' : List ℕ) → HasTaken tasks links scripts next taken' → Begin scripts next
            → judged names scripts total table left (take_lines names scripts (printed_of next taken') lines) ≡ Wrong line cause → HistoryEnds next taken' line lines

        one : Later → length done < total_of scripts → (next : Printed) → take_line names scripts printed first ≡ Ok next
            → judged names scripts total table left (take_lines names scripts next lines) ≡ Wrong line cause → HistoryEnds done taken line (first ∷ lines)
        one later short next taken_so rest =
            let here : IsTaken names tasks links scripts given printed next first = line_read names tasks links scripts given printed next first taken_so in
            let report : Report = here.report in
            let more : HasTaken tasks links scripts (done ++ report ∷ []) (set taken report.reporter (get_or taken report.reporter 0 + 1)) =
            taken_more tasks links scripts done taken report has here.there here.fit (slice_get_within (get_or scripts report.reporter []) (get_or taken report.reporter 0) report here.place) in
            let wrong : judged names scripts total table left (take_lines names scripts (printed_of (done ++ report ∷ []) (set taken report.reporter (get_or taken report.reporter 0 + 1))) lines) ≡ Wrong line cause =
            subst (λ (n : Printed). judged names scripts total table left (take_lines names scripts n lines) ≡ Wrong line cause) here.next_so rest in
            let least : length (done ++ report ∷ []) + 1 ≤ line =
            history_least names scripts total table left lines (printed_of (done ++ report ∷ []) (set taken report.reporter (get_or taken report.reporter 0 + 1))) line cause wrong in
            let ended : HistoryEnds (done ++ report ∷ []) (set taken report.reporter (get_or taken report.reporter 0 + 1)) line lines =
            later (done ++ report ∷ []) (set taken report.reporter (get_or taken report.reporter 0 + 1)) more (begin_more names tasks links scripts given done taken report has begin here.there here.place) wrong in
            let longer : length (done ++ report ∷ []) ≡ length done + 1 = omega (arith, length_push done report) in
            let count : suc (line - (length (done ++ report ∷ []) + 1)) ≡ line - (length done + 1) = omega (arith, least, longer) in (
              ended.0,
              omega (arith, ended.1, longer),
              subst (λ (n : ℕ). judged names scripts total table [] (take_lines names scripts printed (take n (first ∷ lines) ++ ended.0)) ≡ Legal) count
                  (ap (judged names scripts total table []) (lines_next names scripts printed next first (take (line - (length (done ++ report ∷ []) + 1)) lines ++ ended.0) short taken_so)
                  ∙ ap (λ (n : Printed). judged names scripts total table [] (take_lines names scripts n (take (line - (length (done ++ report ∷ []) + 1)) lines ++ ended.0))) here.next_so
                  ∙ ended.2),
            )

        stopped : (error : Fault) → error.line ≡ length done + 1 → ◌≡◌ {A = AuditVerdict} (Wrong error.line error.cause) (Wrong line cause) → HistoryEnds done taken line (first ∷ lines)
        stopped error at e =
            let same : error.line ≡ line = cc in
            let count : 0 ≡ line - (length done + 1) = omega (arith, at, same) in
            let ended = all_from done taken has begin in (
              ended.0,
              omega (arith, at, same),
              subst (λ (n : ℕ). judged names scripts total table [] (take_lines names scripts printed (take n (first ∷ lines) ++ ended.0)) ≡ Legal) count ended.1,
            )

        step : Later → length done < total_of scripts → (answer : Result Printed Fault) → take_line names scripts printed first ≡ answer → IsTakenOr names scripts printed answer
            → judged names scripts total table left (continue_with (λ next. take_lines names scripts next lines) answer) ≡ Wrong line cause → HistoryEnds done taken line (first ∷ lines)
        step later short (Err error) answered at e = stopped error at e
        step later short (Ok next) answered more e = one later short next answered e

        go : (short : Bool) → nat_lt (length done) (total_of scripts) ≡ short → Later
            → judged names scripts total table left (cond {A = Result Reported Fault} short (continue_with (λ next. take_lines names scripts next lines) (take_line names scripts printed first)) (Ok (record { reports = done; lines = first ∷ lines }))) ≡ Wrong line cause
            → HistoryEnds done taken line (first ∷ lines)
        go true test later e = step later (ltb-true (length done) (total_of scripts) test) (take_line names scripts printed first) refl (one_more names scripts printed first) e
        go false test later e = history_full left (first ∷ lines) done taken line cause kind has (ltb-false (length done) (total_of scripts) test) e

    -- ---- the whole text

    abbrev pub TextEnds : ℕ → List (List ℕ) → Type 0
    TextEnds line lines = (rest : List (List ℕ)) × (line ≤ length lines) × (judged names scripts total table [] (history_in names scripts (take line lines ++ rest)) ≡ Legal)

    from_nothing : (lines : List (List ℕ)) → TextEnds 0 lines
    from_nothing lines = (
      spaced (history_line (length later)) ∷ report_lines names 0 later ++ close.0,
      omega arith,
      ap (judged names scripts total table []) (history_taken names are tasks links scripts given later close.0 legal (history_length tasks links scripts later legal)) ∙ close.1 (length later + 1),
    )
      where
        later : List Report
        later = laters [] 0 scripts

        legal : IsInterleaving tasks links scripts later
        legal = goes-on names tasks links scripts [] (replicate (length scripts) 0) given (taken_none tasks links scripts) (begin_none scripts)

        close : (rest : List (List ℕ)) × IsLegalFrom names scripts (total_in later) [] (record { due = due_from scripts 0; table = table }) rest
        close = closing later legal.no_other

    pub text_ends : (left : List ℕ) (lines : List (List ℕ)) (line : ℕ) (cause : AuditCause) → IsNoRead cause → judged names scripts total table left (history_in names scripts lines) ≡ Wrong line cause → TextEnds line lines
    unfolding history_in
    text_ends left [] line cause kind is = let form : causes.Form ≡ cause = cc in absurd (subst IsNoRead (sym form) kind)
    text_ends left (first ∷ lines) line cause kind is = go (history_of (words_of first)) refl is where
      go : (number : Option ℕ) → history_of (words_of first) ≡ number → judged names scripts total table left (begins (total_of scripts) number (take_lines names scripts (none_printed scripts) lines)) ≡ Wrong line cause → TextEnds line (first ∷ lines)
      go None read e = let form : causes.Form ≡ cause = cc in absurd (subst IsNoRead (sym form) kind)
      go (Some number) read e = test (number == total_of scripts) refl e where
        test : (right : Bool) → (number == total_of scripts) ≡ right → judged names scripts total table left (cond {A = Result Reported Fault} right (take_lines names scripts (none_printed scripts) lines) (fault 0 causes.Script)) ≡ Wrong line cause → TextEnds line (first ∷ lines)
        test false right e = let at : 0 ≡ line = cc in subst (λ (n : ℕ). TextEnds n (first ∷ lines)) at (from_nothing (first ∷ lines))
        test true right e =
            let least : 1 ≤ line = history_least names scripts total table left lines (none_printed scripts) line cause e in
            let ended : HistoryEnds [] (replicate (length scripts) 0) line lines = history_ends left lines [] (replicate (length scripts) 0) line cause kind (taken_none tasks links scripts) (begin_none scripts) e in
            let count : suc (line - 1) ≡ line = omega (arith, least) in (
              ended.0,
              omega (arith, ended.1),
              subst (λ (n : ℕ). judged names scripts total table [] (history_in names scripts (take n (first ∷ lines) ++ ended.0)) ≡ Legal) count
                  (ap (λ (told : Option ℕ). judged names scripts total table [] (begins (total_of scripts) told (take_lines names scripts (none_printed scripts) (take (line - 1) lines ++ ended.0)))) read
                  ∙ ap (λ (b : Bool). judged names scripts total table [] (cond {A = Result Reported Fault} b (take_lines names scripts (none_printed scripts) (take (line - 1) lines ++ ended.0)) (fault 0 causes.Script))) right
                  ∙ ended.2),
            )
