-- The verdict on a whole text, there and back.
use Rattle.std.proofs.Common.{◌≡◌, ◌<◌, ◌≤◌, ◌+◌, ◌^◌, ◌++◌, ℕ, zero, suc, List, [], ◌∷◌, length, take, Result, Ok, Err, refl, sym, ap, ◌∙◌, subst, arith, append_assoc, append-nil, All}
use Rattle.std.specs.Prelude.{slice_index_or}
use Rattle.std.proofs.lemmas.List.Elements.{All-append, All-cons, All-nil, All-take, All-weaker}
use Rattle.std.proofs.lemmas.List.Sums.{sum_by-cons}
use Rattle.bwe_specs.specs.declared.report.Report.{Report}
use Rattle.bwe_specs.specs.Allocation.{Table}
use Rattle.bwe_specs.specs.Fit.{IsFit}
use Rattle.table_text.specs.TableText.{text_of}
use Rattle.text_scan.specs.Lines.{left_of, lines_of}
use Rattle.doc_names.specs.NameTexts.{NameTexts}
use Rattle.run_audit.specs.History.{Reported, history_in, total_of}
use Rattle.run_audit.specs.Verdict.{judge, judge_rest, verdict_of}
use Rattle.run_audit.specs.declared.due.Due.TheVariants.{Reader}
use Rattle.run_audit.specs.declared.verdict.Fault.{Fault}
use Rattle.run_audit.specs.declared.verdict.AuditVerdict.TheVariants.{Legal}
use Rattle.audit_law.specs.ClosedRun.{AreNames, AreScripts, IsInterleaving}
use Rattle.audit_law.proofs.Lines.{HasNo, left_of-printed, lines_of-printed, printed, printed-append, spaced, text_is}
use Rattle.audit_law.proofs.LineForms.{history_line}
use Rattle.audit_law.proofs.Clean.{history_clean, line_clean}
use Rattle.audit_law.proofs.Histories.{IsHistory, history_is, history_length, history_taken, report_lines}
use Rattle.audit_law.proofs.Steps.{IsSent, all_sent, sent_lines, sent_read_back}
use Rattle.audit_law.proofs.Readers.{AreAllRead, IsSeen, Seen, all_back, all_seen, readers_on}
use Rattle.audit_law.proofs.Texts.{front_lines}
use Rattle.audit_law.proofs.Ends.{reports_clean, seen_clean, sents_clean, table_begins, table_left}

-- each script has at most as many reports as all
pub script-le : (scripts : List (List Report)) (number : ℕ) → number < length scripts → length (slice_index_or scripts number []) ≤ total_of scripts
script-le [] number within = absurd (omega (arith, within))
script-le (script ∷ scripts) zero within = omega (arith, sum_by-cons (λ (list : List Report). length list) script scripts)
script-le (script ∷ scripts) (suc number) within = omega (arith, sum_by-cons (λ (list : List Report). length list) script scripts, script-le scripts number (omega (arith, within)))

script_lengths : (scripts : List (List Report)) → total_of scripts < 2 ^ 64 → All (λ script. length script < 2 ^ 64) scripts
script_lengths [] small = All-nil (λ (script : List Report). length script < 2 ^ 64)
script_lengths (script ∷ scripts) small =
    let sum : total_of (script ∷ scripts) ≡ length script + total_of scripts = sum_by-cons (λ (list : List Report). length list) script scripts in
    All-cons (λ (script : List Report). length script < 2 ^ 64) script scripts (omega (arith, sum, small)) (script_lengths scripts (omega (arith, sum, small)))

module _ (names : NameTexts) (tasks links : ℕ) (scripts : List (List Report)) (total : List Report → ℕ) (table : Table) where
  -- a history, what each reader saw, and the table's text behind their lines
  pub record IsRun (text : List ℕ) : Type 0 where
    pub history : List Report
    pub reads : ℕ
    pub first : Seen
    pub later : List Seen
    pub legal : IsInterleaving tasks links scripts history
    pub few_reads : reads ≤ 1000
    pub few : length (first ∷ later) ≤ 64
    pub seen : All (IsSeen (λ prefix. total (take prefix history)) (length history) reads) (first ∷ later)
    pub text_so : text ≡ printed (front_lines names history scripts (first ∷ later)) ++ text_of names table

  module _ (are : AreNames names) (given : AreScripts names tasks links scripts) (totals : (reports : List Report) → All (IsFit tasks links) reports → total reports < 2 ^ 64) where
    fit_at : (history : List Report) → IsInterleaving tasks links scripts history → (prefix : ℕ) → total (take prefix history) < 2 ^ 64
    fit_at history legal prefix =
        totals (take prefix history) (All-take (IsFit tasks links) prefix history (All-weaker (λ (report : Report). (report.reporter < length scripts) × IsFit tasks links report) (IsFit tasks links) (λ report is. is.1) history legal.no_other))

    front_clean : (history : List Report) (reads : ℕ) (seen : List Seen) → IsInterleaving tasks links scripts history → length seen ≤ 64
        → All (IsSeen (λ prefix. total (take prefix history)) (length history) reads) seen → All (HasNo 10) (front_lines names history scripts seen)
    unfolding front_lines
    front_clean history reads seen legal few all =
        let small : length history < 2 ^ 64 = omega (arith, history_length tasks links scripts history legal, given.few) in
        All-append (HasNo 10) (((spaced (history_line (length history)) ∷ []) ++ report_lines names 0 history) ++ sent_lines names 0 scripts) (all_seen (length history) 0 seen)
        (All-append (HasNo 10) ((spaced (history_line (length history)) ∷ []) ++ report_lines names 0 history) (sent_lines names 0 scripts)
        (All-cons (HasNo 10) (spaced (history_line (length history))) (report_lines names 0 history) (line_clean (history_line (length history)) (history_clean (length history) small))
        (reports_clean names are tasks links 0 history (omega (arith, small)) (All-weaker (λ (report : Report). (report.reporter < length scripts) × IsFit tasks links report) (IsFit tasks links) (λ report is. is.1) history legal.no_other)))
        (sents_clean names are 0 scripts (script_lengths scripts (omega (arith, given.few)))))
        (seen_clean (λ prefix. total (take prefix history)) (length history) small (λ prefix within. fit_at history legal prefix) reads 0 seen (omega (arith, few)) all)

    front_is : (history : List Report) (seen : List Seen) (lines : List (List ℕ))
        → front_lines names history scripts seen ++ lines
        ≡ spaced (history_line (length history)) ∷ report_lines names 0 history ++ (sent_lines names 0 scripts ++ (all_seen (length history) 0 seen ++ lines))
    unfolding front_lines
    front_is history seen lines = simp append_assoc

    lines_legal : (history : List Report) (reads : ℕ) (first : Seen) (later : List Seen) (left : List ℕ) → left ≡ [] → IsInterleaving tasks links scripts history → reads ≤ 1000 → length (first ∷ later) ≤ 64
        → All (IsSeen (λ prefix. total (take prefix history)) (length history) reads) (first ∷ later)
        → judge_rest names scripts total (lines_of (text_of names table)) left (history_in names scripts (front_lines names history scripts (first ∷ later) ++ lines_of (text_of names table))) ≡ Legal
    lines_legal history reads first later left none legal few_reads few seen =
        ap (λ (lines : List (List ℕ)). judge_rest names scripts total tabled left (history_in names scripts lines)) (front_is history (first ∷ later) tabled)
        ∙ ap (judge_rest names scripts total tabled left) (history_taken names are tasks links scripts given history rest legal count)
        ∙ all_sent names scripts (λ prefix. total (take prefix history)) left are given.reporters_named (λ number within. omega (arith, script-le scripts number within, given.few)) tabled
        (all_seen (length history) 0 (first ∷ later) ++ tabled) [] scripts refl
        (subst (λ (n : ℕ). (number : ℕ) → judge names scripts (λ prefix. total (take prefix history)) left (record { due = Reader; table = tabled }) number (all_seen n 0 (first ∷ later) ++ tabled) ≡ Legal) (sym count)
        (readers_on names scripts (λ prefix. total (take prefix history)) left (omega (arith, given.few)) (λ prefix within. fit_at history legal prefix) tabled reads first later none (table_begins names table) few_reads few
        (subst (λ (n : ℕ). All (IsSeen (λ prefix. total (take prefix history)) n reads) (first ∷ later)) count seen)))
        (length history + 1)
      where
        count : length history ≡ total_of scripts
        count = history_length tasks links scripts history legal

        tabled : List (List ℕ)
        tabled = lines_of (text_of names table)

        rest : List (List ℕ)
        rest = sent_lines names 0 scripts ++ (all_seen (length history) 0 (first ∷ later) ++ tabled)

    pub run_legal : (text : List ℕ) → IsRun text → verdict_of names scripts total (text_of names table) text ≡ Legal
    unfolding verdict_of
    run_legal text run =
        ap (λ (t : List ℕ). judge_rest names scripts total tabled (left_of t) (history_in names scripts (lines_of t))) run.text_so
        ∙ ap (λ (lines : List (List ℕ)). judge_rest names scripts total tabled left (history_in names scripts lines)) (lines_of-printed front (text_of names table) clean)
        ∙ lines_legal run.history run.reads run.first run.later left none run.legal run.few_reads run.few run.seen
      where
        tabled : List (List ℕ)
        tabled = lines_of (text_of names table)

        front : List (List ℕ)
        front = front_lines names run.history scripts (run.first ∷ run.later)

        left : List ℕ
        left = left_of (printed front ++ text_of names table)

        clean : All (HasNo 10) front
        clean = front_clean run.history run.reads (run.first ∷ run.later) run.legal run.few run.seen

        none : left ≡ []
        none = left_of-printed front (text_of names table) clean ∙ table_left names table

    pub legal_run : (text : List ℕ) → verdict_of names scripts total (text_of names table) text ≡ Legal → IsRun text
    unfolding verdict_of
    legal_run text legal = go (history_in names scripts (lines_of text)) refl legal where
      tabled : List (List ℕ)
      tabled = lines_of (text_of names table)

      go : (answer : Result Reported Fault) → history_in names scripts (lines_of text) ≡ answer → judge_rest names scripts total tabled (left_of text) answer ≡ Legal → IsRun text
      go (Err fault) read e = absurd cc
      go (Ok reported) read e =
          let is : IsHistory names tasks links scripts given (lines_of text) reported = history_is names tasks links scripts given (lines_of text) reported read in
          let sent : IsSent names scripts (λ prefix. total (take prefix reported.reports)) (left_of text) 0 scripts tabled reported.lines =
          sent_read_back names scripts (λ prefix. total (take prefix reported.reports)) (left_of text) tabled (length reported.reports + 1) [] scripts reported.lines refl e in
          let all : AreAllRead names scripts (λ prefix. total (take prefix reported.reports)) (left_of text) tabled sent.rest =
          all_back names scripts (λ prefix. total (take prefix reported.reports)) (left_of text) tabled sent.number sent.rest sent.legal in
          let lines : lines_of text ≡ front_lines names reported.reports scripts (all.first ∷ all.later) ++ tabled =
          is.lines_so
          ∙ ap (λ (rest : List (List ℕ)). spaced (history_line (length reported.reports)) ∷ report_lines names 0 reported.reports ++ rest) (sent.lines_so ∙ ap (λ (rest : List (List ℕ)). sent_lines names 0 scripts ++ rest) (all.lines_so ∙ ap (λ (n : ℕ). all_seen n 0 (all.first ∷ all.later) ++ tabled) (sym is.all)))
          ∙ sym (front_is reported.reports (all.first ∷ all.later) tabled) in
          record {
            history = reported.reports;
            reads = all.reads;
            first = all.first;
            later = all.later;
            legal = is.legal;
            few_reads = all.few_reads;
            few = all.few;
            seen = subst (λ (n : ℕ). All (IsSeen (λ prefix. total (take prefix reported.reports)) n all.reads) (all.first ∷ all.later)) (sym is.all) all.seen;
            text_so =
                text_is text
                ∙ ap (λ (left : List ℕ). printed (lines_of text) ++ left) all.none
                ∙ append-nil (printed (lines_of text))
                ∙ ap printed lines
                ∙ printed-append (front_lines names reported.reports scripts (all.first ∷ all.later)) tabled
                ∙ ap (λ (t : List ℕ). printed (front_lines names reported.reports scripts (all.first ∷ all.later)) ++ t)
                (sym (text_is (text_of names table) ∙ ap (λ (left : List ℕ). printed tabled ++ left) (table_left names table) ∙ append-nil (printed tabled)));
          }

    -- lines that are judged legal are those of a run
    pub run_of_lines : (lines : List (List ℕ)) → judge_rest names scripts total (lines_of (text_of names table)) [] (history_in names scripts lines) ≡ Legal
        → (text : List ℕ) × IsRun text × (lines_of text ≡ lines)
    run_of_lines lines legal = go (history_in names scripts lines) refl legal where
      tabled : List (List ℕ)
      tabled = lines_of (text_of names table)

      go : (answer : Result Reported Fault) → history_in names scripts lines ≡ answer → judge_rest names scripts total tabled [] answer ≡ Legal → (text : List ℕ) × IsRun text × (lines_of text ≡ lines)
      go (Err fault) read e = absurd cc
      go (Ok reported) read e =
          let is : IsHistory names tasks links scripts given lines reported = history_is names tasks links scripts given lines reported read in
          let sent : IsSent names scripts (λ prefix. total (take prefix reported.reports)) [] 0 scripts tabled reported.lines =
          sent_read_back names scripts (λ prefix. total (take prefix reported.reports)) [] tabled (length reported.reports + 1) [] scripts reported.lines refl e in
          let all : AreAllRead names scripts (λ prefix. total (take prefix reported.reports)) [] tabled sent.rest =
          all_back names scripts (λ prefix. total (take prefix reported.reports)) [] tabled sent.number sent.rest sent.legal in
          let front : List (List ℕ) = front_lines names reported.reports scripts (all.first ∷ all.later) in
          let lines_so : lines ≡ front ++ tabled =
          is.lines_so
          ∙ ap (λ (rest : List (List ℕ)). spaced (history_line (length reported.reports)) ∷ report_lines names 0 reported.reports ++ rest) (sent.lines_so ∙ ap (λ (rest : List (List ℕ)). sent_lines names 0 scripts ++ rest) (all.lines_so ∙ ap (λ (n : ℕ). all_seen n 0 (all.first ∷ all.later) ++ tabled) (sym is.all)))
          ∙ sym (front_is reported.reports (all.first ∷ all.later) tabled) in
          let seen : All (IsSeen (λ prefix. total (take prefix reported.reports)) (length reported.reports) all.reads) (all.first ∷ all.later) =
          subst (λ (n : ℕ). All (IsSeen (λ prefix. total (take prefix reported.reports)) n all.reads) (all.first ∷ all.later)) (sym is.all) all.seen in (
            printed front ++ text_of names table,
            record {
              history = reported.reports;
              reads = all.reads;
              first = all.first;
              later = all.later;
              legal = is.legal;
              few_reads = all.few_reads;
              few = all.few;
              seen = seen;
              text_so = refl;
            },
            lines_of-printed front (text_of names table) (front_clean reported.reports all.reads (all.first ∷ all.later) is.legal all.few seen) ∙ sym lines_so,
          )
