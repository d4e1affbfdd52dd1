-- What makes a reader's log legal.
use Rattle.std.proofs.Common.{◌≡◌, ◌≤◌, ◌++◌, ◌∷◌, [], List, ℕ, length, drop, sym, ◌∙◌, ap, subst, arith, refl}
use Rattle.std.specs.List.{All}
use Rattle.std.proofs.lemmas.List.{drop_at}
use Rattle.std.proofs.lemmas.List.Elements.{All-push, All-drop}
use mathlib.Core.List.{IsPrefix}
use Rattle.bwe_specs.specs.declared.report.Report.{Report}
use Rattle.crew_log.specs.declared.log.ReaderLog.{ReaderLog}
use Rattle.crew_log.specs.Lines.{IsLineOf, NeverGoBack}
use Rattle.crew_log.specs.LegalCrewLog.{IsReaderOf}
use Rattle.crew_readers.proofs.Lines.{all_longer, line_more}

-- what a log has after its beginning
pub beyond_of : (history log : List Report) → IsPrefix history log → log ≡ history ++ drop (length history) log
beyond_of history log begins =
    sym begins.1 ∙ ap (λ (rest : List Report). history ++ rest) (sym (drop_at history begins.0 (length history) refl) ∙ ap (drop (length history)) begins.1)

-- a reader that has read the whole history
pub is_reader : {T : Type 0} (belongs : List Report → T → Type 0) (total_of : T → ℕ) (allowed : Report → Type 0) (history before log : List Report) (covered : ℕ) (reader : ReaderLog)
    → IsPrefix history log → IsPrefix before log → reader.beyond.items ≡ drop (length history) log → reader.length ≡ length log → All allowed log
    → All (IsLineOf belongs total_of before) reader.reads.items → NeverGoBack 0 reader.reads.items covered
    → covered ≤ reader.last.floor → length history ≤ reader.last.floor → reader.last.floor ≤ reader.last.prefix → IsLineOf belongs total_of log reader.last
    → IsReaderOf belongs total_of allowed (length reader.reads.items) history reader
is_reader belongs total_of allowed history before log covered reader begins grew beyond length_so allowed_so lines never further whole rises line =
    let is : log ≡ history ++ reader.beyond.items = beyond_of history log begins ∙ ap (λ (rest : List Report). history ++ rest) (sym beyond) in
    let all : All (IsLineOf belongs total_of log) (reader.reads.items ++ reader.last ∷ []) =
    All-push (IsLineOf belongs total_of log) reader.reads.items reader.last (all_longer belongs total_of before log grew reader.reads.items lines) line in
    record {
      reads_so = refl;
      length_so = length_so ∙ ap (λ (reports : List Report). length reports) is;
      allowed_so = subst (All allowed) (sym beyond) (All-drop allowed (length history) log allowed_so);
      lines = subst (λ (reports : List Report). All (IsLineOf belongs total_of reports) (reader.reads.items ++ reader.last ∷ [])) is all;
      never_back = line_more 0 reader.reads.items reader.last covered reader.length further rises (omega (arith, line.within, length_so)) never;
      covers = omega (arith, whole, rises);
    }
