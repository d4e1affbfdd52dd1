-- The blocks of all readers and the table behind them, there and back.
use Rattle.std.proofs.Common.{◌≡◌, ◌<◌, ◌≤◌, ◌+◌, ◌^◌, ◌++◌, ◌==◌, ◌&&◌, ℕ, zero, suc, Bool, true, false, cond, not, List, [], ◌∷◌, length, nat_lt, Option, Some, None, Result, Ok, Err, refl, sym, ap, ◌∙◌, subst, arith, append_assoc, All}
use Rattle.std.proofs.lemmas.List.Elements.{All-cons, All-head, All-nil, All-tail}
use Rattle.std.proofs.lemmas.Bool.{and_from, and_parts, eq-eqb, eqb-true, lt-ltb, ltb-true}
use Rattle.bwe_specs.specs.declared.report.Report.{Report}
use Rattle.crew_log.specs.declared.log.ReadLine.{ReadLine}
use Rattle.text_scan.specs.Words.{words_of}
use Rattle.doc_names.specs.NameTexts.{NameTexts}
use Rattle.run_audit.specs.Forms.{reader_of}
use Rattle.run_audit.specs.History.{total_of}
use Rattle.run_audit.specs.Walk.{Walked, after_line, after_reader, after_table, is_reader, leads_to, new_block, reader_leads, step_from, with_table}
use Rattle.run_audit.specs.Verdict.{go_on, judge}
use Rattle.run_audit.specs.declared.due.Due.{Due}
use Rattle.run_audit.specs.declared.due.Due.TheVariants.{Reader, Line, Next, Table}
use Rattle.run_audit.specs.declared.due.Step.{Step}
use Rattle.run_audit.specs.declared.forms.ReaderWords.{ReaderWords}
use Rattle.run_audit.specs.declared.verdict.AuditCause.{AuditCause}
use Rattle.run_audit.specs.declared.verdict.AuditCause.TheVariants as causes
use Rattle.run_audit.specs.declared.verdict.AuditVerdict.TheVariants.{Legal}
use Rattle.audit_law.proofs.Lines.{spaced, spaced_words}
use Rattle.audit_law.proofs.LineForms.{reader_line, reader_printed, reader_read}
use Rattle.audit_law.proofs.Clean.{reader_clean, words_printed}
use Rattle.audit_law.proofs.Steps.{IsLegalFrom, IsStepped, IsTable, ended, no_line, step_back, step_on, table_back, table_next}
use Rattle.audit_law.proofs.Blocks.{IsBlock, IsBlockRead, block_back, block_on, read_lines}

-- what a reader saw
pub record Seen : Type 0 where
  pub reads : List ReadLine
  pub last : ReadLine

-- the lines of a reader
abbrev pub seen_lines : ℕ → ℕ → Seen → List (List ℕ)
seen_lines total number seen = spaced (reader_line number total) ∷ read_lines seen.reads seen.last

-- the lines of readers, from this number on
abbrev pub all_seen : ℕ → ℕ → List Seen → List (List ℕ)
all_seen total number [] = []
all_seen total number (seen ∷ later) = seen_lines total number seen ++ all_seen total (suc number) later

-- the reader made so many reads, up to the whole history
pub record IsSeen (total_at : ℕ → ℕ) (total reads : ℕ) (seen : Seen) : Type 0 where
  pub count : length seen.reads ≡ reads
  pub is : IsBlock total_at total 0 seen.reads seen.last

module _ (names : NameTexts) (scripts : List (List Report)) (total_at : ℕ → ℕ) (left : List ℕ) where
  module _ (small : total_of scripts < 2 ^ 64) (fit : (prefix : ℕ) → prefix ≤ total_of scripts → total_at prefix < 2 ^ 64) where
    reader_on : (table : List (List ℕ)) (number : ℕ) (wanted : Option ℕ) → number < 64
        → with_table table (after_reader (total_of scripts) number wanted (words_of (spaced (reader_line number (total_of scripts)))))
        ≡ Ok (record { walk = record { due = Line (new_block number wanted); table = table }; shown = None })
    unfolding after_reader
    reader_on table number wanted few =
        ap (λ (words : List (List ℕ)). with_table table (reader_leads total number wanted (reader_of words))) (words_printed (reader_line number total) (omega arith) (reader_clean number total (omega (arith, few)) small))
        ∙ ap (λ (told : Option ReaderWords). with_table table (reader_leads total number wanted told)) (reader_printed number total (omega (arith, few)) small)
        ∙ ap (λ (b : Bool). with_table table (cond {A = Result Step AuditCause} b (cond {A = Result Step AuditCause} (total == total) (leads_to (Line (new_block number wanted))) (Err causes.Length)) (Err causes.Reader)))
        (and_from (number == number) (nat_lt number 64) (eq-eqb number number refl) (lt-ltb number 64 few))
        ∙ ap (λ (b : Bool). with_table table (cond {A = Result Step AuditCause} b (leads_to (Line (new_block number wanted))) (Err causes.Length))) (eq-eqb total total refl)
      where
        total : ℕ
        total = total_of scripts

    first_on : (table : List (List ℕ)) → after_line names scripts (record { due = Reader; table = table }) (spaced (reader_line 0 (total_of scripts)))
        ≡ Ok (record { walk = record { due = Line (new_block 0 None); table = table }; shown = None })
    unfolding after_line step_from
    first_on table = reader_on table 0 None (omega arith)

    next_on : (table : List (List ℕ)) (number reads : ℕ) → number < 64 → after_line names scripts (record { due = Next number reads; table = table }) (spaced (reader_line number (total_of scripts)))
        ≡ Ok (record { walk = record { due = Line (new_block number (Some reads)); table = table }; shown = None })
    unfolding after_line step_from
    next_on table number reads few = reader_on table number (Some reads) few

    readers_next : (table : List (List ℕ)) (reads : ℕ) (later : List Seen) (number : ℕ) → left ≡ [] → IsTable table → reads ≤ 1000 → number + length later ≤ 64
        → All (IsSeen total_at (total_of scripts) reads) later
        → IsLegalFrom names scripts total_at left (record { due = Next number reads; table = table }) (all_seen (total_of scripts) number later ++ table)
    readers_next table reads [] number none is few room seen = table_next names scripts total_at left number reads table none is
    readers_next table reads (first ∷ later) number none is few room seen =
        step_on names scripts total_at left (record { due = Next number reads; table = table }) (spaced (reader_line number (total_of scripts))) ((read_lines first.reads first.last ++ all_seen (total_of scripts) (suc number) later) ++ table)
        (record { walk = record { due = Line (new_block number (Some reads)); table = table }; shown = None }) (next_on table number reads (omega (arith, room))) refl
        (subst (IsLegalFrom names scripts total_at left (record { due = Line (new_block number (Some reads)); table = table })) (sym (append_assoc (read_lines first.reads first.last) (all_seen (total_of scripts) (suc number) later) table))
        (block_on names scripts total_at left small fit table (all_seen (total_of scripts) (suc number) later ++ table) first.reads first.last (new_block number (Some reads)) here.is (omega (arith, here.count, few))
        (eq-eqb (0 + length first.reads) reads (omega (arith, here.count)))
        (subst (λ (n : ℕ). IsLegalFrom names scripts total_at left (record { due = Next (number + 1) n; table = table }) (all_seen (total_of scripts) (suc number) later ++ table)) (omega (arith, here.count))
        (subst (λ (n : ℕ). IsLegalFrom names scripts total_at left (record { due = Next n reads; table = table }) (all_seen (total_of scripts) (suc number) later ++ table)) (omega arith)
        (readers_next table reads later (suc number) none is few (omega (arith, room)) (All-tail (IsSeen total_at (total_of scripts) reads) first later seen))))))
      where
        here : IsSeen total_at (total_of scripts) reads first
        here = All-head (IsSeen total_at (total_of scripts) reads) first later seen

    pub readers_on : (table : List (List ℕ)) (reads : ℕ) (first : Seen) (later : List Seen) → left ≡ [] → IsTable table → reads ≤ 1000 → length (first ∷ later) ≤ 64
        → All (IsSeen total_at (total_of scripts) reads) (first ∷ later)
        → IsLegalFrom names scripts total_at left (record { due = Reader; table = table }) (all_seen (total_of scripts) 0 (first ∷ later) ++ table)
    readers_on table reads first later none is few room seen =
        step_on names scripts total_at left (record { due = Reader; table = table }) (spaced (reader_line 0 (total_of scripts))) ((read_lines first.reads first.last ++ all_seen (total_of scripts) 1 later) ++ table)
        (record { walk = record { due = Line (new_block 0 None); table = table }; shown = None }) (first_on table) refl
        (subst (IsLegalFrom names scripts total_at left (record { due = Line (new_block 0 None); table = table })) (sym (append_assoc (read_lines first.reads first.last) (all_seen (total_of scripts) 1 later) table))
        (block_on names scripts total_at left small fit table (all_seen (total_of scripts) 1 later ++ table) first.reads first.last (new_block 0 None) here.is (omega (arith, here.count, few)) refl
        (subst (λ (n : ℕ). IsLegalFrom names scripts total_at left (record { due = Next 1 n; table = table }) (all_seen (total_of scripts) 1 later ++ table)) (omega (arith, here.count))
        (readers_next table reads later 1 none is few (omega (arith, room)) (All-tail (IsSeen total_at (total_of scripts) reads) first later seen)))))
      where
        here : IsSeen total_at (total_of scripts) reads first
        here = All-head (IsSeen total_at (total_of scripts) reads) first later seen

  -- ---- the other way round

  record IsReaderLine (number : ℕ) (wanted : Option ℕ) (table : List (List ℕ)) (line : List ℕ) (walked : Walked) : Type 0 where
    line_so : line ≡ spaced (reader_line number (total_of scripts))
    few : number < 64
    walked_so : walked ≡ record { walk = record { due = Line (new_block number wanted); table = table }; shown = None }

  reader_back : (number : ℕ) (wanted : Option ℕ) (table : List (List ℕ)) (line : List ℕ) (walked : Walked) → with_table table (after_reader (total_of scripts) number wanted (words_of line)) ≡ Ok walked
      → IsReaderLine number wanted table line walked
  unfolding after_reader
  reader_back number wanted table line walked is = go (reader_of (words_of line)) refl is where
    go : (told : Option ReaderWords) → reader_of (words_of line) ≡ told → with_table table (reader_leads (total_of scripts) number wanted told) ≡ Ok walked → IsReaderLine number wanted table line walked
    go None read e = absurd cc
    go (Some told) read e = test ((told.number == number) && nat_lt told.number 64) (told.length == total_of scripts) refl refl e where
      test : (right whole : Bool) → ((told.number == number) && nat_lt told.number 64) ≡ right → (told.length == total_of scripts) ≡ whole
          → with_table table (cond {A = Result Step AuditCause} right (cond {A = Result Step AuditCause} whole (leads_to (Line (new_block number wanted))) (Err causes.Length)) (Err causes.Reader)) ≡ Ok walked
          → IsReaderLine number wanted table line walked
      test false whole right_so whole_so e = absurd cc
      test true false right_so whole_so e = absurd cc
      test true true right_so whole_so e =
          let parts = and_parts (told.number == number) (nat_lt told.number 64) right_so in
          let same : told.number ≡ number = eqb-true told.number number parts.0 in
          record {
            line_so =
                spaced_words line ∙ ap spaced (reader_read (words_of line) told read) ∙ ap (λ (n : ℕ). spaced (reader_line n told.length)) same
                ∙ ap (λ (n : ℕ). spaced (reader_line number n)) (eqb-true told.length (total_of scripts) whole_so);
            few = omega (arith, same, ltb-true told.number 64 parts.1);
            walked_so = cc;
          }

  -- behind a block a line that does not begin as a reader's is one of the table
  as_table : (number reads : ℕ) (table : List (List ℕ)) (place : ℕ) (line : List ℕ) (lines : List (List ℕ)) → is_reader line ≡ false
      → judge names scripts total_at left (record { due = Next number reads; table = table }) place (line ∷ lines) ≡ judge names scripts total_at left (record { due = Table; table = table }) place (line ∷ lines)
  unfolding judge after_line
  as_table number reads table place line lines is =
      ap (λ (b : Bool). go_on total_at place (λ next. judge names scripts total_at left next (place + 1) lines) (cond {A = Result Walked AuditCause} (not b) (after_table table line) (with_table table (step_from names scripts (Next number reads) (words_of line))))) is

  as_reader : (number reads : ℕ) (table : List (List ℕ)) (line : List ℕ) (walked : Walked) → is_reader line ≡ true → after_line names scripts (record { due = Next number reads; table = table }) line ≡ Ok walked
      → with_table table (after_reader (total_of scripts) number (Some reads) (words_of line)) ≡ Ok walked
  unfolding after_line step_from
  as_reader number reads table line walked is e =
      sym (ap (λ (b : Bool). cond {A = Result Walked AuditCause} (not b) (after_table table line) (with_table table (after_reader (total_of scripts) number (Some reads) (words_of line)))) is) ∙ e

  as_first : (table : List (List ℕ)) (line : List ℕ) (walked : Walked) → after_line names scripts (record { due = Reader; table = table }) line ≡ Ok walked
      → with_table table (after_reader (total_of scripts) 0 None (words_of line)) ≡ Ok walked
  unfolding after_line step_from
  as_first table line walked e = e

  -- the blocks of so many readers at most, and the table
  record AreRead (number room reads : ℕ) (table lines : List (List ℕ)) : Type 0 where
    later : List Seen
    few : length later ≤ room
    seen : All (IsSeen total_at (total_of scripts) reads) later
    lines_so : lines ≡ all_seen (total_of scripts) number later ++ table
    none : left ≡ []

  none_read : (number room reads : ℕ) (table lines : List (List ℕ)) → lines ≡ table → left ≡ [] → AreRead number room reads table lines
  none_read number room reads table lines same none = record { later = []; few = omega arith; seen = All-nil (IsSeen total_at (total_of scripts) reads); lines_so = same; none = none }

  block_seen : (number reads : ℕ) (table lines : List (List ℕ)) → IsBlockRead names scripts total_at left (new_block number (Some reads)) table lines
      → (seen : Seen) × (rest : List (List ℕ)) × (place : ℕ) × (lines ≡ read_lines seen.reads seen.last ++ rest) × IsSeen total_at (total_of scripts) reads seen
      × (judge names scripts total_at left (record { due = Next (suc number) reads; table = table }) place rest ≡ Legal)
  block_seen number reads table lines block =
      let count : length block.reads ≡ reads = omega (arith, eqb-true (0 + length block.reads) reads block.wanted) in
      let seen : Seen = record { reads = block.reads; last = block.last } in (
        seen,
        block.rest,
        block.number,
        block.lines_so,
        record { count = count; is = block.is },
        subst (λ (n : ℕ). judge names scripts total_at left (record { due = Next n reads; table = table }) block.number block.rest ≡ Legal) (omega arith)
            (subst (λ (n : ℕ). judge names scripts total_at left (record { due = Next (number + 1) n; table = table }) block.number block.rest ≡ Legal) (omega (arith, count)) block.legal),
      )

  end_back : (table : List (List ℕ)) (number reads place : ℕ) → judge names scripts total_at left (record { due = Next number reads; table = table }) place [] ≡ Legal → (table ≡ []) × (left ≡ [])
  unfolding judge
  end_back table number reads place legal = ended names scripts total_at left table place legal

  table_read : (table : List (List ℕ)) (number room reads place : ℕ) (line : List ℕ) (lines : List (List ℕ)) → is_reader line ≡ false
      → judge names scripts total_at left (record { due = Next number reads; table = table }) place (line ∷ lines) ≡ Legal → AreRead number room reads table (line ∷ lines)
  table_read table number room reads place line lines is legal =
      let end = table_back names scripts total_at left (line ∷ lines) table place (sym (as_table number reads table place line lines is) ∙ legal) in
      none_read number room reads table (line ∷ lines) end.0 end.1

  -- a reader's first line, and what is behind it
  record IsBegun (number : ℕ) (wanted : Option ℕ) (table : List (List ℕ)) (line : List ℕ) (lines : List (List ℕ)) : Type 0 where
    line_so : line ≡ spaced (reader_line number (total_of scripts))
    few : number < 64
    block : IsBlockRead names scripts total_at left (new_block number wanted) table lines

  begun : (number : ℕ) (wanted : Option ℕ) (due : Due) (table : List (List ℕ)) (place : ℕ) (line : List ℕ) (lines : List (List ℕ))
      → ((walked : Walked) → after_line names scripts (record { due = due; table = table }) line ≡ Ok walked → with_table table (after_reader (total_of scripts) number wanted (words_of line)) ≡ Ok walked)
      → judge names scripts total_at left (record { due = due; table = table }) place (line ∷ lines) ≡ Legal → IsBegun number wanted table line lines
  begun number wanted due table place line lines leads legal =
      let step : IsStepped names scripts total_at left (record { due = due; table = table }) place line lines = step_back names scripts total_at left (record { due = due; table = table }) place line lines legal in
      let here : IsReaderLine number wanted table line step.walked = reader_back number wanted table line step.walked (leads step.walked step.is) in
      record {
        line_so = here.line_so;
        few = here.few;
        block = block_back names scripts total_at left table lines (place + 1) (new_block number wanted) (omega arith) (subst (λ (walked : Walked). judge names scripts total_at left walked.walk (place + 1) lines ≡ Legal) here.walked_so step.legal);
      }

  readers_back : (table : List (List ℕ)) (reads room number : ℕ) (place : ℕ) (lines : List (List ℕ)) → number + room ≡ 64
      → judge names scripts total_at left (record { due = Next number reads; table = table }) place lines ≡ Legal → AreRead number room reads table lines
  readers_back table reads zero number place [] full legal = let end = end_back table number reads place legal in none_read number zero reads table [] (sym end.0) end.1
  readers_back table reads (suc room) number place [] full legal = let end = end_back table number reads place legal in none_read number (suc room) reads table [] (sym end.0) end.1
  readers_back table reads zero number place (line ∷ lines) full legal = go (is_reader line) refl where
    go : (b : Bool) → is_reader line ≡ b → AreRead number zero reads table (line ∷ lines)
    go false is = table_read table number zero reads place line lines is legal
    go true is = let here : IsBegun number (Some reads) table line lines = begun number (Some reads) (Next number reads) table place line lines (λ walked e. as_reader number reads table line walked is e) legal in absurd (omega (arith, here.few, full))
  readers_back table reads (suc room) number place (line ∷ lines) full legal = go (λ number place lines full legal. readers_back table reads room number place lines full legal) (is_reader line) refl where
    Later : Type 0
    Later = (number : ℕ) (place : ℕ) (lines : List (List ℕ)) → number + room ≡ 64
        → judge names scripts total_at left (record { due = Next number reads; table = table }) place lines ≡ Legal → AreRead number room reads table lines

    go : Later → (b : Bool) → is_reader line ≡ b → AreRead number (suc room) reads table (line ∷ lines)
    go later false is = table_read table number (suc room) reads place line lines is legal
    go later true is =
        let here : IsBegun number (Some reads) table line lines = begun number (Some reads) (Next number reads) table place line lines (λ walked e. as_reader number reads table line walked is e) legal in
        let block = block_seen number reads table lines here.block in
        let rest : AreRead (suc number) room reads table block.1 = later (suc number) block.2 block.1 (omega (arith, full)) block.5 in
        record {
          later = block.0 ∷ rest.later;
          few = omega (arith, rest.few);
          seen = All-cons (IsSeen total_at (total_of scripts) reads) block.0 rest.later block.4 rest.seen;
          lines_so =
              ap (λ (first : List ℕ). first ∷ lines) here.line_so
              ∙ ap (λ (others : List (List ℕ)). spaced (reader_line number (total_of scripts)) ∷ others)
              (block.3 ∙ ap (λ (others : List (List ℕ)). read_lines block.0.reads block.0.last ++ others) rest.lines_so
              ∙ sym (append_assoc (read_lines block.0.reads block.0.last) (all_seen (total_of scripts) (suc number) rest.later) table));
          none = rest.none;
        }

  -- the blocks of all readers, and the table
  pub record AreAllRead (table lines : List (List ℕ)) : Type 0 where
    pub reads : ℕ
    pub first : Seen
    pub later : List Seen
    pub few_reads : reads ≤ 1000
    pub few : length (first ∷ later) ≤ 64
    pub seen : All (IsSeen total_at (total_of scripts) reads) (first ∷ later)
    pub lines_so : lines ≡ all_seen (total_of scripts) 0 (first ∷ later) ++ table
    pub none : left ≡ []

  pub all_back : (table : List (List ℕ)) (place : ℕ) (lines : List (List ℕ)) → judge names scripts total_at left (record { due = Reader; table = table }) place lines ≡ Legal → AreAllRead table lines
  all_back table place [] legal = absurd (no_line names scripts total_at left Reader table place refl legal)
  all_back table place (line ∷ lines) legal =
      let here : IsBegun 0 None table line lines = begun 0 None Reader table place line lines (λ walked e. as_first table line walked e) legal in
      let block : IsBlockRead names scripts total_at left (new_block 0 None) table lines = here.block in
      let first : Seen = record { reads = block.reads; last = block.last } in
      let reads : ℕ = length block.reads in
      let rest : AreRead 1 63 reads table block.rest =
      readers_back table reads 63 1 block.number block.rest refl
      (subst (λ (n : ℕ). judge names scripts total_at left (record { due = Next 1 n; table = table }) block.number block.rest ≡ Legal) (omega arith) block.legal) in
      record {
        reads = reads;
        first = first;
        later = rest.later;
        few_reads = omega (arith, block.few);
        few = omega (arith, rest.few);
        seen = All-cons (IsSeen total_at (total_of scripts) reads) first rest.later (record { count = refl; is = block.is }) rest.seen;
        lines_so =
            ap (λ (l : List ℕ). l ∷ lines) here.line_so
            ∙ ap (λ (others : List (List ℕ)). spaced (reader_line 0 (total_of scripts)) ∷ others)
            (block.lines_so ∙ ap (λ (others : List (List ℕ)). read_lines block.reads block.last ++ others) rest.lines_so
            ∙ sym (append_assoc (read_lines block.reads block.last) (all_seen (total_of scripts) 1 rest.later) table));
        none = rest.none;
      }
