-- How the text of a table begins and ends, and that no line before it has a line feed.
use Rattle.std.proofs.Common.{◌≡◌, ◌<◌, ◌≤◌, ◌+◌, ◌^◌, ◌++◌, ◌==◌, ℕ, suc, Bool, true, false, cond, List, [], ◌∷◌, length, codes, decimal, refl, ◌∙◌, arith, All}
use Rattle.std.specs.List.{count_by, onto_first, sum_by}
use Rattle.std.specs.Prelude.{flat_map}
use Rattle.bwe_specs.specs.Reports.{numbers}
use Rattle.std.proofs.lemmas.List.Elements.{All-append, All-cons, All-head, All-nil, All-tail}
use Rattle.std.proofs.lemmas.List.Splits.{length-slice_split}
use Rattle.bwe_specs.specs.declared.report.Report.{Report}
use Rattle.bwe_specs.specs.Allocation.{Table}
use Rattle.crew_log.specs.declared.log.ReadLine.{ReadLine}
use Rattle.bwe_specs.specs.Fit.{IsFit}
use Rattle.table_text.specs.TableText.{closing_line, group_lines, link_line, task_line, text_of}
use Rattle.std.proofs.lemmas.List.Sums.{sum_by-cons}
use Rattle.text_scan.specs.Lines.{all_but_last, last_of, left_of, lines_of, pieces_of}
use Rattle.doc_names.specs.NameTexts.{NameTexts}
use Rattle.audit_law.specs.ClosedRun.{AreNames}
use Rattle.audit_law.proofs.Lines.{HasNo, spaced}
use Rattle.audit_law.proofs.LineForms.{reader_line, report_line, sent_line}
use Rattle.audit_law.proofs.Clean.{final_clean, line_clean, read_clean, reader_clean, report_clean, sent_clean, shown_clean}
use Rattle.audit_law.proofs.Histories.{report_lines}
use Rattle.audit_law.proofs.Steps.{IsTable, sent_lines}
use Rattle.audit_law.proofs.Blocks.{IsBlock, IsRight, final_words, read_lines, read_words}
use Rattle.audit_law.proofs.Readers.{IsSeen, Seen, all_seen}

-- ---- the table's text

last-onto : (byte : ℕ) (pieces : List (List ℕ)) → 2 ≤ length pieces → last_of (onto_first byte pieces) ≡ last_of pieces
last-onto byte [] two = absurd (omega (arith, two))
last-onto byte (piece ∷ []) two = absurd (omega (arith, two))
last-onto byte (piece ∷ next ∷ pieces) two = refl

last-more : (piece : List ℕ) (pieces : List (List ℕ)) → 2 ≤ length pieces → last_of (piece ∷ pieces) ≡ last_of pieces
last-more piece [] two = absurd (omega (arith, two))
last-more piece (next ∷ pieces) two = refl

some_feed : (text : List ℕ) → 1 ≤ count_by (λ (byte : ℕ). byte == 10) (text ++ 10 ∷ [])
some_feed [] = omega arith
some_feed (byte ∷ text) = omega (arith, sum_by-cons (λ (b : ℕ). cond (b == 10) 1 0) byte (text ++ 10 ∷ []), some_feed text)

two_pieces : (text : List ℕ) → 2 ≤ length (pieces_of (text ++ 10 ∷ []))
two_pieces text =
    omega (arith, length-slice_split (λ (byte : ℕ). byte == 10) (text ++ 10 ∷ []), some_feed text)

last_empty : (text : List ℕ) → last_of (pieces_of (text ++ 10 ∷ [])) ≡ []
last_empty [] = refl
last_empty (byte ∷ text) = go (byte == 10) (last_empty text) where
  pieces : List (List ℕ)
  pieces = pieces_of (text ++ 10 ∷ [])

  go : (b : Bool) → last_of pieces ≡ [] → last_of (cond b ([] ∷ pieces) (onto_first byte pieces)) ≡ []
  go true none = last-more [] pieces (two_pieces text) ∙ none
  go false none = last-onto byte pieces (two_pieces text) ∙ none

nothing_left : (text : List ℕ) → left_of (text ++ 10 ∷ []) ≡ []
unfolding left_of
nothing_left text = last_empty text

pub table_left : (names : NameTexts) (table : Table) → left_of (text_of names table) ≡ []
unfolding text_of
table_left names table = nothing_left (
    codes "table " ++ decimal table.prefix ++ codes "\n"
    ++ flat_map (closing_line names) table.closings
    ++ flat_map (link_line names table.loads) (numbers (length table.loads))
    ++ flat_map (group_lines names table.groups) (numbers (length table.groups))
    ++ flat_map (task_line names table.limits) (numbers (length table.limits))
    ++ codes "total " ++ decimal (sum_by (λ line. line.amount) table.groups)
    )

begins_t : (pieces : List (List ℕ)) → IsTable (all_but_last (onto_first 116 pieces))
begins_t [] = tt
begins_t (piece ∷ []) = tt
begins_t (piece ∷ next ∷ pieces) = refl

begun_t : (text : List ℕ) → IsTable (lines_of (116 ∷ text))
unfolding lines_of
begun_t text = begins_t (pieces_of text)

pub table_begins : (names : NameTexts) (table : Table) → IsTable (lines_of (text_of names table))
unfolding text_of
table_begins names table = begun_t _

-- ---- no line feed in a line

module _ (names : NameTexts) (are : AreNames names) where
  pub reports_clean : (tasks links place : ℕ) (reports : List Report) → place + length reports < 2 ^ 64 → All (IsFit tasks links) reports → All (HasNo 10) (report_lines names place reports)
  reports_clean tasks links place [] small fit = All-nil (HasNo 10)
  reports_clean tasks links place (report ∷ reports) small fit =
      let here : IsFit tasks links report = All-head (IsFit tasks links) report reports fit in
      All-cons (HasNo 10) (spaced (report_line names place report)) (report_lines names (suc place) reports)
      (line_clean (report_line names place report) (report_clean names are place report (omega (arith, small)) (omega (arith, here.1))))
      (reports_clean tasks links (suc place) reports (omega (arith, small)) (All-tail (IsFit tasks links) report reports fit))

  pub sents_clean : (reporter : ℕ) (scripts : List (List Report)) → All (λ script. length script < 2 ^ 64) scripts → All (HasNo 10) (sent_lines names reporter scripts)
  sents_clean reporter [] few = All-nil (HasNo 10)
  sents_clean reporter (script ∷ scripts) few =
      All-cons (HasNo 10) (spaced (sent_line names reporter (length script))) (sent_lines names (suc reporter) scripts)
      (line_clean (sent_line names reporter (length script)) (sent_clean names are reporter (length script) (All-head (λ (s : List Report). length s < 2 ^ 64) script scripts few)))
      (sents_clean (suc reporter) scripts (All-tail (λ (s : List Report). length s < 2 ^ 64) script scripts few))

module _ (total_at : ℕ → ℕ) (total : ℕ) (small : total < 2 ^ 64) (fit : (prefix : ℕ) → prefix ≤ total → total_at prefix < 2 ^ 64) where
  reads_clean : (reads : List ReadLine) (last : ReadLine) (least : ℕ) → IsBlock total_at total least reads last → All (HasNo 10) (read_lines reads last)
  reads_clean [] last least is =
      let right : IsRight total_at total last = All-head (IsRight total_at total) last [] is.right in
      All-cons (HasNo 10) (spaced (final_words last)) []
      (line_clean (final_words last) (shown_clean (codes "final") last.floor last.prefix last.total final_clean (omega (arith, is.never_back.1, right.0, small)) (omega (arith, right.0, small)) (omega (arith, right.1, fit last.prefix right.0))))
      (All-nil (HasNo 10))
  reads_clean (read ∷ reads) last least is =
      let right : IsRight total_at total read = All-head (IsRight total_at total) read (reads ++ last ∷ []) is.right in
      All-cons (HasNo 10) (spaced (read_words read)) (read_lines reads last)
      (line_clean (read_words read) (shown_clean (codes "read") read.floor read.prefix read.total read_clean (omega (arith, is.never_back.1, right.0, small)) (omega (arith, right.0, small)) (omega (arith, right.1, fit read.prefix right.0))))
      (reads_clean reads last read.prefix (record { never_back = is.never_back.2; right = All-tail (IsRight total_at total) read (reads ++ last ∷ []) is.right; covers = is.covers }))

  pub seen_clean : (reads number : ℕ) (seen : List Seen) → number + length seen < 2 ^ 64 → All (IsSeen total_at total reads) seen → All (HasNo 10) (all_seen total number seen)
  seen_clean reads number [] few all = All-nil (HasNo 10)
  seen_clean reads number (first ∷ later) few all =
      let here : IsSeen total_at total reads first = All-head (IsSeen total_at total reads) first later all in
      All-cons (HasNo 10) (spaced (reader_line number total)) (read_lines first.reads first.last ++ all_seen total (suc number) later)
      (line_clean (reader_line number total) (reader_clean number total (omega (arith, few)) small))
      (All-append (HasNo 10) (read_lines first.reads first.last) (all_seen total (suc number) later) (reads_clean first.reads first.last 0 here.is)
      (seen_clean reads (suc number) later (omega (arith, few)) (All-tail (IsSeen total_at total reads) first later all)))
