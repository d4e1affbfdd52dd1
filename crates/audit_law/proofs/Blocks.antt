-- The lines of a reader, there and back.
use Rattle.std.proofs.Common.{◌≡◌, ◌<◌, ◌≤◌, ◌+◌, ◌^◌, ◌++◌, ◌&&◌, ℕ, Bool, true, false, cond, List, [], ◌∷◌, length, nat_lt, codes, Option, Some, None, Result, Ok, Err, refl, sym, ap, ◌∙◌, subst, arith, All, inl, inr, ◌⊎◌}
use Rattle.std.specs.Prelude.{nat_le}
use Rattle.std.proofs.lemmas.List.Elements.{All-cons, All-head, All-nil, All-tail}
use Rattle.std.proofs.lemmas.Bool.{and_from, and_parts, eq-eqb, eqb-true, leb-true, le-leb, lt-ltb, ltb-true}
use Rattle.bwe_specs.specs.declared.report.Report.{Report}
use Rattle.crew_log.specs.declared.log.ReadLine.{ReadLine}
use Rattle.crew_log.specs.Lines.{NeverGoBack}
use Rattle.text_scan.specs.Words.{words_of}
use Rattle.doc_names.specs.NameTexts.{NameTexts}
use Rattle.run_audit.specs.Forms.{shown_of}
use Rattle.run_audit.specs.History.{total_of}
use Rattle.run_audit.specs.Walk.{Walked, after_final, after_line, after_read, after_shown, goes_on, is_wanted, shown_leads, step_from, with_table}
use Rattle.run_audit.specs.Verdict.{is_total, judge}
use Rattle.run_audit.specs.declared.due.Block.{Block}
use Rattle.run_audit.specs.declared.due.Due.TheVariants.{Line, Next}
use Rattle.run_audit.specs.declared.due.Step.{Step}
use Rattle.run_audit.specs.declared.forms.Shown.{Shown}
use Rattle.run_audit.specs.declared.verdict.AuditCause.{AuditCause}
use Rattle.run_audit.specs.declared.verdict.AuditCause.TheVariants as causes
use Rattle.run_audit.specs.declared.verdict.AuditVerdict.TheVariants.{Legal}
use Rattle.audit_law.proofs.Lines.{spaced, spaced_words}
use Rattle.audit_law.proofs.LineForms.{shown_line, shown_printed, shown_read}
use Rattle.audit_law.proofs.Clean.{IsClean, final_clean, read_clean, shown_clean, words_printed}
use Rattle.audit_law.proofs.Steps.{IsLegalFrom, IsStepped, no_line, step_back, step_on}

-- ---- what a block says

abbrev pub read_words : ReadLine → List (List ℕ)
read_words line = shown_line (codes "read") line.floor line.prefix line.total

abbrev pub final_words : ReadLine → List (List ℕ)
final_words line = shown_line (codes "final") line.floor line.prefix line.total

-- the lines of the reads, and the last one
abbrev pub read_lines : List ReadLine → ReadLine → List (List ℕ)
read_lines [] last = spaced (final_words last) ∷ []
read_lines (read ∷ reads) last = spaced (read_words read) ∷ read_lines reads last

-- the line shows the total of so many reports, of which there are no more than this
abbrev pub IsRight : (ℕ → ℕ) → ℕ → ReadLine → Type 0
IsRight total_at total line = (line.prefix ≤ total) × (line.total ≡ total_at line.prefix)

-- lines that follow a prefix, up to the whole history
pub record IsBlock (total_at : ℕ → ℕ) (total least : ℕ) (reads : List ReadLine) (last : ReadLine) : Type 0 where
  pub never_back : NeverGoBack least (reads ++ last ∷ []) total
  pub right : All (IsRight total_at total) (reads ++ last ∷ [])
  pub covers : total ≤ last.prefix

abbrev to_shown : ReadLine → Shown
to_shown line = record { floor = line.floor; prefix = line.prefix; total = line.total }

abbrev of_shown : Shown → ReadLine
of_shown shown = record { floor = shown.floor; prefix = shown.prefix; total = shown.total }

least_most : (least : ℕ) (lines : List ReadLine) (most : ℕ) → NeverGoBack least lines most → least ≤ most
least_most least [] most never = never
least_most least (line ∷ lines) most never = omega (arith, never.0, never.1, least_most line.prefix lines most never.2)

module _ (names : NameTexts) (scripts : List (List Report)) (total_at : ℕ → ℕ) (left : List ℕ) where
  module _ (small : total_of scripts < 2 ^ 64) (fit : (prefix : ℕ) → prefix ≤ total_of scripts → total_at prefix < 2 ^ 64) where
    going : (block : Block) (line : ReadLine) → block.prefix ≤ line.floor → line.floor ≤ line.prefix → line.prefix ≤ total_of scripts → goes_on (total_of scripts) block (to_shown line) ≡ true
    going block line low covers within =
        and_from (nat_le block.prefix line.floor) (nat_le line.floor line.prefix && nat_le line.prefix (total_of scripts)) (le-leb block.prefix line.floor low)
        (and_from (nat_le line.floor line.prefix) (nat_le line.prefix (total_of scripts)) (le-leb line.floor line.prefix covers) (le-leb line.prefix (total_of scripts) within))

    shown_so : (line : ReadLine) (kind : List ℕ) → line.floor ≤ line.prefix → IsRight total_at (total_of scripts) line → shown_of kind (shown_line kind line.floor line.prefix line.total) ≡ Some (to_shown line)
    shown_so line kind covers right =
        shown_printed kind line.floor line.prefix line.total (omega (arith, small, covers, right.0)) (omega (arith, small, right.0)) (omega (arith, right.1, fit line.prefix right.0))

    clean_so : (line : ReadLine) (kind : List ℕ) → IsClean kind → line.floor ≤ line.prefix → IsRight total_at (total_of scripts) line → All IsClean (shown_line kind line.floor line.prefix line.total)
    clean_so line kind clean covers right =
        shown_clean kind line.floor line.prefix line.total clean (omega (arith, small, covers, right.0)) (omega (arith, small, right.0)) (omega (arith, right.1, fit line.prefix right.0))

    read_on : (block : Block) (table : List (List ℕ)) (line : ReadLine) → block.reads < 1000 → block.prefix ≤ line.floor → line.floor ≤ line.prefix → IsRight total_at (total_of scripts) line
        → after_line names scripts (record { due = Line block; table = table }) (spaced (read_words line))
        ≡ Ok (record { walk = record { due = Line (record block { reads = block.reads + 1; prefix = line.prefix }); table = table }; shown = Some (to_shown line) })
    unfolding after_line step_from after_shown after_read
    read_on block table line few low covers right =
        ap (λ (words : List (List ℕ)). with_table table (shown_leads (total_of scripts) block (shown_of (codes "read") words) (shown_of (codes "final") words))) (words_printed (read_words line) (omega arith) (clean_so line (codes "read") read_clean covers right))
        ∙ ap (λ (shown : Option Shown). with_table table (shown_leads (total_of scripts) block shown (shown_of (codes "final") (read_words line)))) (shown_so line (codes "read") covers right)
        ∙ ap (λ (b : Bool). with_table table (cond {A = Result Step AuditCause} b (cond {A = Result Step AuditCause} (goes_on (total_of scripts) block (to_shown line)) (Ok next) (Err causes.Prefix)) (Err causes.Reader))) (lt-ltb block.reads 1000 few)
        ∙ ap (λ (b : Bool). with_table table (cond {A = Result Step AuditCause} b (Ok next) (Err causes.Prefix))) (going block line low covers right.0)
      where
        next : Step
        next = record { due = Line (record block { reads = block.reads + 1; prefix = line.prefix }); shown = Some (to_shown line) }

    no_read : (line : ReadLine) → shown_of (codes "read") (final_words line) ≡ None
    unfolding shown_of
    no_read line = refl

    final_on : (block : Block) (table : List (List ℕ)) (line : ReadLine) → is_wanted block.wanted block.reads ≡ true → block.prefix ≤ line.floor → line.floor ≤ line.prefix → IsRight total_at (total_of scripts) line → total_of scripts ≤ line.prefix
        → after_line names scripts (record { due = Line block; table = table }) (spaced (final_words line))
        ≡ Ok (record { walk = record { due = Next (block.number + 1) block.reads; table = table }; shown = Some (to_shown line) })
    unfolding after_line step_from after_shown after_final
    final_on block table line wanted low covers right whole =
        ap (λ (words : List (List ℕ)). with_table table (shown_leads (total_of scripts) block (shown_of (codes "read") words) (shown_of (codes "final") words))) (words_printed (final_words line) (omega arith) (clean_so line (codes "final") final_clean covers right))
        ∙ ap (λ (shown : Option Shown). with_table table (shown_leads (total_of scripts) block shown (shown_of (codes "final") (final_words line)))) (no_read line)
        ∙ ap (λ (shown : Option Shown). with_table table (shown_leads (total_of scripts) block None shown)) (shown_so line (codes "final") covers right)
        ∙ ap (λ (b : Bool). with_table table (cond {A = Result Step AuditCause} b (cond {A = Result Step AuditCause} (goes_on (total_of scripts) block (to_shown line) && nat_le (total_of scripts) line.prefix) (Ok next) (Err causes.Prefix)) (Err causes.Reader))) wanted
        ∙ ap (λ (b : Bool). with_table table (cond {A = Result Step AuditCause} b (Ok next) (Err causes.Prefix)))
        (and_from (goes_on (total_of scripts) block (to_shown line)) (nat_le (total_of scripts) line.prefix) (going block line low covers right.0) (le-leb (total_of scripts) line.prefix whole))
      where
        next : Step
        next = record { due = Next (block.number + 1) block.reads; shown = Some (to_shown line) }

    pub block_on : (table lines : List (List ℕ)) (reads : List ReadLine) (last : ReadLine) (block : Block) → IsBlock total_at (total_of scripts) block.prefix reads last
        → block.reads + length reads ≤ 1000 → is_wanted block.wanted (block.reads + length reads) ≡ true
        → IsLegalFrom names scripts total_at left (record { due = Next (block.number + 1) (block.reads + length reads); table = table }) lines
        → IsLegalFrom names scripts total_at left (record { due = Line block; table = table }) (read_lines reads last ++ lines)
    block_on table lines [] last block is few wanted legal =
        step_on names scripts total_at left (record { due = Line block; table = table }) (spaced (final_words last)) lines
        (record { walk = record { due = Next (block.number + 1) block.reads; table = table }; shown = Some (to_shown last) })
        (final_on block table last (subst (λ (n : ℕ). is_wanted block.wanted n ≡ true) (omega arith) wanted) is.never_back.0 is.never_back.1 right is.covers)
        (eq-eqb (total_at last.prefix) last.total (sym right.1))
        (subst (λ (n : ℕ). IsLegalFrom names scripts total_at left (record { due = Next (block.number + 1) n; table = table }) lines) (omega arith) legal)
      where
        right : IsRight total_at (total_of scripts) last
        right = All-head (IsRight total_at (total_of scripts)) last [] is.right
    block_on table lines (read ∷ reads) last block is few wanted legal =
        step_on names scripts total_at left (record { due = Line block; table = table }) (spaced (read_words read)) (read_lines reads last ++ lines)
        (record { walk = record { due = Line next; table = table }; shown = Some (to_shown read) })
        (read_on block table read (omega (arith, few)) is.never_back.0 is.never_back.1 right)
        (eq-eqb (total_at read.prefix) read.total (sym right.1))
        (block_on table lines reads last next (record { never_back = is.never_back.2; right = All-tail (IsRight total_at (total_of scripts)) read (reads ++ last ∷ []) is.right; covers = is.covers }) (omega (arith, few))
        (subst (λ (n : ℕ). is_wanted block.wanted n ≡ true) counts wanted)
        (subst (λ (n : ℕ). IsLegalFrom names scripts total_at left (record { due = Next (block.number + 1) n; table = table }) lines) counts legal))
      where
        next : Block
        next = record block { reads = block.reads + 1; prefix = read.prefix }

        right : IsRight total_at (total_of scripts) read
        right = All-head (IsRight total_at (total_of scripts)) read (reads ++ last ∷ []) is.right

        counts : block.reads + length (read ∷ reads) ≡ (block.reads + 1) + length reads
        counts = omega arith

  -- ---- the other way round

  -- a line of a block that is not at fault: a read, or the last one
  record IsReadLine (block : Block) (table : List (List ℕ)) (line : List ℕ) (walked : Walked) : Type 0 where
    read : ReadLine
    line_so : line ≡ spaced (read_words read)
    few : block.reads < 1000
    goes : goes_on (total_of scripts) block (to_shown read) ≡ true
    walked_so : walked ≡ record { walk = record { due = Line (record block { reads = block.reads + 1; prefix = read.prefix }); table = table }; shown = Some (to_shown read) }

  record IsFinalLine (block : Block) (table : List (List ℕ)) (line : List ℕ) (walked : Walked) : Type 0 where
    last : ReadLine
    line_so : line ≡ spaced (final_words last)
    wanted : is_wanted block.wanted block.reads ≡ true
    goes : goes_on (total_of scripts) block (to_shown last) ≡ true
    covers : total_of scripts ≤ last.prefix
    walked_so : walked ≡ record { walk = record { due = Next (block.number + 1) block.reads; table = table }; shown = Some (to_shown last) }

  line_back : (block : Block) (table : List (List ℕ)) (line : List ℕ) (walked : Walked) → after_line names scripts (record { due = Line block; table = table }) line ≡ Ok walked
      → IsReadLine block table line walked ⊎ IsFinalLine block table line walked
  unfolding after_line step_from after_shown after_read after_final
  line_back block table line walked is = go (shown_of (codes "read") (words_of line)) (shown_of (codes "final") (words_of line)) refl refl is where
    read_at : (told : Shown) → shown_of (codes "read") (words_of line) ≡ Some told → with_table table (after_read (total_of scripts) block told) ≡ Ok walked → IsReadLine block table line walked
    read_at told read e = test (nat_lt block.reads 1000) (goes_on (total_of scripts) block told) refl refl e where
      next : Step
      next = record { due = Line (record block { reads = block.reads + 1; prefix = told.prefix }); shown = Some told }

      test : (few goes : Bool) → nat_lt block.reads 1000 ≡ few → goes_on (total_of scripts) block told ≡ goes
          → with_table table (cond {A = Result Step AuditCause} few (cond {A = Result Step AuditCause} goes (Ok next) (Err causes.Prefix)) (Err causes.Reader)) ≡ Ok walked → IsReadLine block table line walked
      test false goes few_so goes_so e = absurd cc
      test true false few_so goes_so e = absurd cc
      test true true few_so goes_so e = record {
        read = of_shown told;
        line_so = spaced_words line ∙ ap spaced (shown_read (codes "read") (words_of line) told read).0;
        few = ltb-true block.reads 1000 few_so;
        goes = goes_so;
        walked_so = cc;
      }

    final_at : (told : Shown) → shown_of (codes "final") (words_of line) ≡ Some told → with_table table (after_final (total_of scripts) block told) ≡ Ok walked → IsFinalLine block table line walked
    final_at told read e = test (is_wanted block.wanted block.reads) (goes_on (total_of scripts) block told && nat_le (total_of scripts) told.prefix) refl refl e where
      next : Step
      next = record { due = Next (block.number + 1) block.reads; shown = Some told }

      test : (wanted goes : Bool) → is_wanted block.wanted block.reads ≡ wanted → (goes_on (total_of scripts) block told && nat_le (total_of scripts) told.prefix) ≡ goes
          → with_table table (cond {A = Result Step AuditCause} wanted (cond {A = Result Step AuditCause} goes (Ok next) (Err causes.Prefix)) (Err causes.Reader)) ≡ Ok walked → IsFinalLine block table line walked
      test false goes wanted_so goes_so e = absurd cc
      test true false wanted_so goes_so e = absurd cc
      test true true wanted_so goes_so e =
          let parts = and_parts (goes_on (total_of scripts) block told) (nat_le (total_of scripts) told.prefix) goes_so in
          record {
            last = of_shown told;
            line_so = spaced_words line ∙ ap spaced (shown_read (codes "final") (words_of line) told read).0;
            wanted = wanted_so;
            goes = parts.0;
            covers = leb-true (total_of scripts) told.prefix parts.1;
            walked_so = cc;
          }

    go : (read final : Option Shown) → shown_of (codes "read") (words_of line) ≡ read → shown_of (codes "final") (words_of line) ≡ final
        → with_table table (shown_leads (total_of scripts) block read final) ≡ Ok walked → IsReadLine block table line walked ⊎ IsFinalLine block table line walked
    go (Some told) final read_so final_so e = inl (read_at told read_so e)
    go None (Some told) read_so final_so e = inr (final_at told final_so e)
    go None None read_so final_so e = absurd cc

  gone : (block : Block) (line : ReadLine) → goes_on (total_of scripts) block (to_shown line) ≡ true → (block.prefix ≤ line.floor) × (line.floor ≤ line.prefix) × (line.prefix ≤ total_of scripts)
  gone block line is =
      let parts = and_parts (nat_le block.prefix line.floor) (nat_le line.floor line.prefix && nat_le line.prefix (total_of scripts)) is in
      let later = and_parts (nat_le line.floor line.prefix) (nat_le line.prefix (total_of scripts)) parts.1 in
      (leb-true block.prefix line.floor parts.0, leb-true line.floor line.prefix later.0, leb-true line.prefix (total_of scripts) later.1)

  -- the lines of a block, and what is behind them
  pub record IsBlockRead (block : Block) (table lines : List (List ℕ)) : Type 0 where
    pub reads : List ReadLine
    pub last : ReadLine
    pub rest : List (List ℕ)
    pub number : ℕ
    pub lines_so : lines ≡ read_lines reads last ++ rest
    pub is : IsBlock total_at (total_of scripts) block.prefix reads last
    pub few : block.reads + length reads ≤ 1000
    pub wanted : is_wanted block.wanted (block.reads + length reads) ≡ true
    pub legal : judge names scripts total_at left (record { due = Next (block.number + 1) (block.reads + length reads); table = table }) number rest ≡ Legal

  pub block_back : (table : List (List ℕ)) (lines : List (List ℕ)) (number : ℕ) (block : Block) → block.reads ≤ 1000
      → judge names scripts total_at left (record { due = Line block; table = table }) number lines ≡ Legal → IsBlockRead block table lines
  block_back table [] number block few legal = absurd (no_line names scripts total_at left (Line block) table number refl legal)
  block_back table (line ∷ lines) number block few legal = go (λ next few legal. block_back table lines (number + 1) next few legal) (line_back block table line step.walked step.is) where
    step : IsStepped names scripts total_at left (record { due = Line block; table = table }) number line lines
    step = step_back names scripts total_at left (record { due = Line block; table = table }) number line lines legal

    Later : Type 0
    Later = (next : Block) → next.reads ≤ 1000 → judge names scripts total_at left (record { due = Line next; table = table }) (number + 1) lines ≡ Legal → IsBlockRead next table lines

    read_first : Later → IsReadLine block table line step.walked → IsBlockRead block table (line ∷ lines)
    read_first later here =
        let next : Block = record block { reads = block.reads + 1; prefix = here.read.prefix } in
        let rest : IsBlockRead next table lines =
        later next (omega (arith, here.few)) (subst (λ (walked : Walked). judge names scripts total_at left walked.walk (number + 1) lines ≡ Legal) here.walked_so step.legal) in
        let parts = gone block here.read here.goes in
        let total : total_at here.read.prefix ≡ here.read.total = eqb-true (total_at here.read.prefix) here.read.total (subst (λ (walked : Walked). is_total total_at walked.shown ≡ true) here.walked_so step.right) in
        let counts : (block.reads + 1) + length rest.reads ≡ block.reads + length (here.read ∷ rest.reads) = omega arith in
        record {
          reads = here.read ∷ rest.reads;
          last = rest.last;
          rest = rest.rest;
          number = rest.number;
          lines_so = ap (λ (first : List ℕ). first ∷ lines) here.line_so ∙ ap (λ (others : List (List ℕ)). spaced (read_words here.read) ∷ others) rest.lines_so;
          is = record {
            never_back = (parts.0, parts.1, rest.is.never_back);
            right = All-cons (IsRight total_at (total_of scripts)) here.read (rest.reads ++ rest.last ∷ []) (parts.2, sym total) rest.is.right;
            covers = rest.is.covers;
          };
          few = omega (arith, rest.few);
          wanted = subst (λ (n : ℕ). is_wanted block.wanted n ≡ true) counts rest.wanted;
          legal = subst (λ (n : ℕ). judge names scripts total_at left (record { due = Next (block.number + 1) n; table = table }) rest.number rest.rest ≡ Legal) counts rest.legal;
        }

    last_first : IsFinalLine block table line step.walked → IsBlockRead block table (line ∷ lines)
    last_first here =
        let parts = gone block here.last here.goes in
        let total : total_at here.last.prefix ≡ here.last.total = eqb-true (total_at here.last.prefix) here.last.total (subst (λ (walked : Walked). is_total total_at walked.shown ≡ true) here.walked_so step.right) in
        let counts : block.reads ≡ block.reads + length {A = ReadLine} [] = omega arith in
        record {
          reads = [];
          last = here.last;
          rest = lines;
          number = number + 1;
          lines_so = ap (λ (first : List ℕ). first ∷ lines) here.line_so;
          is = record {
            never_back = (parts.0, parts.1, parts.2);
            right = All-cons (IsRight total_at (total_of scripts)) here.last [] (parts.2, sym total) (All-nil (IsRight total_at (total_of scripts)));
            covers = here.covers;
          };
          few = omega (arith, few);
          wanted = subst (λ (n : ℕ). is_wanted block.wanted n ≡ true) counts here.wanted;
          legal =
              subst (λ (n : ℕ). judge names scripts total_at left (record { due = Next (block.number + 1) n; table = table }) (number + 1) lines ≡ Legal) counts
              (subst (λ (walked : Walked). judge names scripts total_at left walked.walk (number + 1) lines ≡ Legal) here.walked_so step.legal);
        }

    go : Later → IsReadLine block table line step.walked ⊎ IsFinalLine block table line step.walked → IsBlockRead block table (line ∷ lines)
    go later (inl read) = read_first later read
    go later (inr last) = last_first last
