-- What `state` printed, read again.
use Rattle.std.proofs.Common.{◌≡◌, ℕ, ◌+◌, ◌%◌, ◌<◌, ◌≤◌, ◌^◌, ◌==◌, Bool, true, false, List, [], ◌∷◌, ◌++◌, length, map, flat_map, reverse, Option, Some, None, find, filter_map, cond, refl, sym, ◌∙◌, ap, ap₂, subst, arith, nat_le, nat_lt, append-nil, append_assoc, length-append, codes, decimal, ne_eqb}
use Rattle.std.specs.List.{All, cons_option, list_all}
use Rattle.std.proofs.lemmas.Bool.{and_parts, le-leb, leb-true, ltb-true}
use Rattle.std.proofs.lemmas.Fmt.{decimal_by_steps}
use Rattle.std.proofs.lemmas.List.Elements.{All-append, All-cons, All-head, All-nil, All-tail}
use Rattle.bwe_specs.specs.declared.report.Report.{Report}
use Rattle.bwe_specs.specs.declared.report.Target.{Target}
use Rattle.bwe_specs.specs.declared.report.Target.TheVariants.{Task, Link}
use Rattle.bwe_specs.specs.Reports.{numbers, is_task, is_link}
use Rattle.bwe_specs.specs.Allocation.{Plan}
use Rattle.bwe_specs.specs.Fit.{IsInRange}
use Rattle.allocator.specs.Frames.{task_count}
use Rattle.last_reports.specs.Compaction.{last_report}
use Rattle.last_reports.specs.Snapshot.{snapshot}
use Rattle.doc_parts.specs.Document.{Accepted}
use Rattle.doc_parts.specs.Plans.{plan_of}
use Rattle.table_laws.proofs.Named.{all-reverse}
use Rattle.live_lines.specs.Cutting.{Held, within, with_byte, lines_from, held_after, last_line, all_lines}
use Rattle.live_lines.specs.Known.{Known}
use Rattle.live_lines.specs.Meaning.{meaning_of}
use Rattle.live_lines.specs.declared.line.LineMeaning.TheVariants.{NewReport, State}
use Rattle.doc_names.specs.NameTexts.{NameTexts, entry_at}
use Rattle.change_text.specs.StateText.{report_words, report_text, report_line, state_text_of}
use Rattle.change_text.specs.StateLaw.{AreReadable, is_plain}
use Rattle.change_text.proofs.StateFacts.{lines_are_read}
use Rattle.live_session.specs.Standing.{Standing}
use Rattle.live_session.specs.Answers.{known_of, standing_in, answer_in}
use Rattle.live_session.specs.Laws.{IsTakenUp, PrintedSnapshot}
use Rattle.live_session.proofs.Documents.{IsRead, are-readable, is-read}
use Rattle.live_session.proofs.Lawful.{promised}
use Rattle.live_session.proofs.Said.{IsSaid, all-said}

-- ---- lines that line feeds end

-- no byte is a line feed
abbrev Unfed : List ℕ → Type 0
Unfed [] = Unit {0}
Unfed (byte ∷ bytes) = ((byte == 10) ≡ false) × Unfed bytes

unfed-append : (one two : List ℕ) → Unfed one → Unfed two → Unfed (one ++ two)
unfed-append [] two are also = also
unfed-append (byte ∷ one) two are also = (are.0, unfed-append one two are.1 also)

unfed-plain : (text : List ℕ) → list_all is_plain text ≡ true → Unfed text
unfed-plain [] all = tt
unfed-plain (byte ∷ text) all =
    let parts = and_parts (is_plain byte) (list_all is_plain text) all in
    let range = and_parts (nat_lt 32 byte) (nat_lt byte 128) parts.0 in
    let high = ltb-true 32 byte range.0 in
    (ne_eqb byte 10 (λ e. omega (arith, e, high)), unfed-plain text parts.1)

unfed-decimal : (n : ℕ) → n < 2 ^ 64 → Unfed (decimal n)
unfed-decimal n small =
    decimal_by_steps (λ n digits. Unfed digits) (λ n lt. (ne_eqb (48 + n) 10 (λ e. omega (arith, e)), tt))
    (λ n digits le are. unfed-append digits ((48 + n % 10) ∷ []) are (ne_eqb (48 + n % 10) 10 (λ e. omega (arith, e)), tt)) n small

first-line : (held text rest : List ℕ) → Unfed text → length (held ++ text) ≤ 255 → lines_from (Some held) (text ++ 10 ∷ rest) ≡ Some (held ++ text) ∷ lines_from (Some []) rest
unfolding lines_from
first-line held [] rest unfed few = ap (λ (text : List ℕ). Some text ∷ lines_from (Some []) rest) (sym (append-nil held))
first-line held (byte ∷ text) rest unfed few =
    let longer : length (held ++ byte ∷ text) ≡ length held + length (byte ∷ text) = length-append held (byte ∷ text) in
    let size : length (held ++ byte ∷ []) ≤ 255 = omega (arith, length-append held (byte ∷ []), longer, few) in
    let kept : with_byte (Some held) byte ≡ Some (held ++ byte ∷ []) = rw (le-leb (length (held ++ byte ∷ [])) 255 size) refl in
    let joined : (held ++ byte ∷ []) ++ text ≡ held ++ byte ∷ text = append_assoc held (byte ∷ []) text in
    rw unfed.0
    (ap (λ (now : Held). lines_from now (text ++ 10 ∷ rest)) kept
    ∙ first-line (held ++ byte ∷ []) text rest unfed.1 (subst (λ (t : List ℕ). length t ≤ 255) (sym joined) few)
    ∙ ap (λ (t : List ℕ). Some t ∷ lines_from (Some []) rest) joined)

held-line : (held : Held) (text rest : List ℕ) → Unfed text → held_after held (text ++ 10 ∷ rest) ≡ held_after (Some []) rest
unfolding held_after
held-line held [] rest unfed = refl
held-line held (byte ∷ text) rest unfed = rw unfed.0 (held-line (with_byte held byte) text rest unfed.1)

short-line : (text : List ℕ) → within text ≡ Some text → length text ≤ 255
short-line text is = go (nat_le (length text) 255) refl where
  go : (b : Bool) → nat_le (length text) 255 ≡ b → length text ≤ 255
  go true e = leb-true (length text) 255 e
  go false e = absurd (let none : None ≡ Some text = sym (rw e refl) ∙ is in cc)

-- ---- the lines of reports

module _ (known : Known) (names : AreReadable known) where
  abbrev text : Report → List ℕ
  text report = report_text known.names report

  unfed-words : (reporter : ℕ) (target : Target) → reporter < length known.names.reporters → IsInRange (length known.names.tasks) (length known.names.links) target
      → Unfed (report_words known.names reporter target)
  unfolding report_words
  unfed-words reporter (Task task) there in_range =
      unfed-append (codes "demand " ++ entry_at known.names.reporters reporter ++ codes " ") (entry_at known.names.tasks task)
      (unfed-append (codes "demand " ++ entry_at known.names.reporters reporter) (codes " ")
      (unfed-append (codes "demand ") (entry_at known.names.reporters reporter) (refl, (refl, (refl, (refl, (refl, (refl, (refl, tt))))))) (unfed-plain _ (names.reporters reporter there).0.plain)) (refl, tt))
      (unfed-plain _ (names.tasks task in_range).0.plain)
  unfed-words reporter (Link link) there in_range =
      unfed-append (codes "capacity " ++ entry_at known.names.reporters reporter ++ codes " ") (entry_at known.names.links link)
      (unfed-append (codes "capacity " ++ entry_at known.names.reporters reporter) (codes " ")
      (unfed-append (codes "capacity ") (entry_at known.names.reporters reporter) (refl, (refl, (refl, (refl, (refl, (refl, (refl, (refl, (refl, tt))))))))) (unfed-plain _ (names.reporters reporter there).0.plain)) (refl, tt))
      (unfed-plain _ (names.links link in_range).0.plain)

  unfed-text : (report : Report) → IsSaid known report → Unfed (text report)
  unfed-text report said =
      unfed-append (report_words known.names report.reporter report.target ++ codes " ") (decimal report.amount)
      (unfed-append (report_words known.names report.reporter report.target) (codes " ") (unfed-words report.reporter report.target said.reporter said.fit.0) (refl, tt))
      (unfed-decimal report.amount (omega (arith, said.fit.1)))

  read : (report : Report) → IsSaid known report → (within (text report) ≡ Some (text report)) × (meaning_of known (Some (text report)) ≡ NewReport report)
  read report said = lines_are_read known report names said.reporter said.fit said.owner

  abbrev lines_of : List Report → List ℕ
  lines_of reports = flat_map (report_line known.names) reports

  ends-line : (report : Report) (rest : List ℕ) → report_line known.names report ++ rest ≡ text report ++ 10 ∷ rest
  ends-line report rest = append_assoc (text report) (codes "\n") rest

  said-lines : (reports : List Report) → All (IsSaid known) reports → lines_from (Some []) (lines_of reports) ≡ map (λ report. Some (text report)) reports
  unfolding lines_from
  said-lines [] all = refl
  said-lines (report ∷ reports) all =
      let said = All-head (IsSaid known) report reports all in
      ap (lines_from (Some [])) (ends-line report (lines_of reports))
      ∙ first-line [] (text report) (lines_of reports) (unfed-text report said) (short-line (text report) (read report said).0)
      ∙ ap (λ (lines : List Held). Some (text report) ∷ lines) (said-lines reports (All-tail (IsSaid known) report reports all))

  nothing-held : (reports : List Report) → All (IsSaid known) reports → held_after (Some []) (lines_of reports) ≡ Some []
  unfolding held_after
  nothing-held [] all = refl
  nothing-held (report ∷ reports) all =
      ap (held_after (Some [])) (ends-line report (lines_of reports))
      ∙ held-line (Some []) (text report) (lines_of reports) (unfed-text report (All-head (IsSaid known) report reports all))
      ∙ nothing-held reports (All-tail (IsSaid known) report reports all)

  all-lines : (reports : List Report) → All (IsSaid known) reports → all_lines (lines_of reports) ≡ map (λ report. Some (text report)) reports
  unfolding all_lines
  all-lines reports all =
      ap (λ (held : Held). lines_from (Some []) (lines_of reports) ++ last_line held) (nothing-held reports all)
      ∙ append-nil (lines_from (Some []) (lines_of reports)) ∙ said-lines reports all

  meanings : (reports : List Report) → All (IsSaid known) reports → map (meaning_of known) (map (λ report. Some (text report)) reports) ≡ map (λ report. NewReport report) reports
  meanings [] all = refl
  meanings (report ∷ reports) all =
      ap₂ (λ meaning more. meaning ∷ more) (read report (All-head (IsSaid known) report reports all)).1 (meanings reports (All-tail (IsSaid known) report reports all))

-- ---- a snapshot has reports of the list alone

module _ (P : Report → Type 0) where
  all-found : (p : Report → Bool) (reports : List Report) → All P reports → (report : Report) → find p reports ≡ Some report → P report
  all-found p [] all report found = absurd (cc)
  all-found p (first ∷ reports) all report found = go (p first) (all-found p reports (All-tail P first reports all) report) found where
    go : (b : Bool) → (find p reports ≡ Some report → P report) → cond b (Some first) (find p reports) ≡ Some report → P report
    go true later is = let same : first ≡ report = cc in subst P same (All-head P first reports all)
    go false later is = later is

  all-last : (test : Target → Bool) (reports : List Report) → All P reports → (report : Report) → last_report test reports ≡ Some report → P report
  unfolding last_report
  all-last test reports all report last = all-found (λ report. test report.target) (reverse reports) (all-reverse P reports all) report last

  all-cons : (first : Option Report) (reports : List Report) → ((report : Report) → first ≡ Some report → P report) → All P reports → All P (cons_option first reports)
  all-cons None reports each all = all
  all-cons (Some report) reports each all = All-cons P report reports (each report refl) all

  all-given : (given : ℕ → Option Report) → ((place : ℕ) (report : Report) → given place ≡ Some report → P report) → (places : List ℕ) → All P (filter_map given places)
  all-given given each [] = All-nil P
  all-given given each (place ∷ places) = all-cons (given place) (filter_map given places) (each place) (all-given given each places)

  all-snapshot : (tasks links : ℕ) (reports : List Report) → All P reports → All P (snapshot tasks links reports)
  unfolding snapshot
  all-snapshot tasks links reports all =
      All-append P _ _ (all-given (λ task. last_report (is_task task) reports) (λ task. all-last (is_task task) reports all) (numbers tasks))
      (all-given (λ link. last_report (is_link link) reports) (λ link. all-last (is_link link) reports all) (numbers links))

in-range : (tasks links more_tasks more_links : ℕ) (target : Target) → tasks ≡ more_tasks → links ≡ more_links → IsInRange tasks links target → IsInRange more_tasks more_links target
in-range tasks links more_tasks more_links (Task task) same also lt = omega (arith, same, lt)
in-range tasks links more_tasks more_links (Link link) same also lt = omega (arith, also, lt)

state-text : (names : NameTexts) (reports : List Report) (count : ℕ) → state_text_of names reports count ≡ flat_map (report_line names) reports ++ codes "state " ++ decimal count ++ codes "\n"
unfolding state_text_of
state-text names reports count = refl

-- where the names can be read back, and the reports are by the owners
taken-up : (accepted : Accepted) (lines : List Held) (line : Held) → AreReadable (known_of accepted)
    → length accepted.names.tasks ≡ task_count (plan_of accepted) → length accepted.names.links ≡ length (plan_of accepted).capacities
    → All (IsSaid (known_of accepted)) (standing_in accepted lines).accepted → meaning_of (known_of accepted) line ≡ State → IsTakenUp accepted lines line
taken-up accepted lines line names tasks links said is =
    let known : Known = known_of accepted in
    let plan : Plan = plan_of accepted in
    let standing : Standing = standing_in accepted lines in
    let counted : List Report = snapshot (task_count plan) (length plan.capacities) standing.accepted in
    let all : All (IsSaid known) counted = all-snapshot (IsSaid known) (task_count plan) (length plan.capacities) standing.accepted said in
    record {
      said = flat_map (report_line known.names) counted;
      written = ap (answer_in known plan standing (length lines + 1)) is ∙ state-text known.names counted (length standing.accepted);
      table =
          promised accepted lines (all_lines (flat_map (report_line known.names) counted))
          (λ at d lt. in-range (length known.names.tasks) (length known.names.links) (task_count plan) (length plan.capacities) _ tasks links (said at d lt).fit.0)
          (ap (map (meaning_of known)) (all-lines known names counted all) ∙ meanings known names counted all);
    }

pub printed : PrintedSnapshot
printed bytes accepted e lines line is =
    let read : IsRead accepted = is-read bytes accepted e in
    taken-up accepted lines line (are-readable accepted read.names) read.tasks read.links (all-said accepted lines read.script) is
