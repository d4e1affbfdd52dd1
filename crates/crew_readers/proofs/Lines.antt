-- Lines of a reader, one after another.
use Rattle.std.proofs.Common.{◌≡◌, ℕ, ◌≤◌, List, [], ◌∷◌, ◌++◌, length, take, sym, ◌∙◌, ap, subst, arith, length-append}
use Rattle.std.proofs.lemmas.List.{take-append-le}
use Rattle.std.proofs.lemmas.List.Elements.{All-weaker}
use Rattle.std.specs.List.{All}
use mathlib.Core.List.{IsPrefix}
use Rattle.bwe_specs.specs.declared.report.Report.{Report}
use Rattle.crew_log.specs.declared.log.ReadLine.{ReadLine}
use Rattle.crew_log.specs.Lines.{IsLineOf, NeverGoBack}

-- where each of two lists begins the other, they are as long
pub prefix_both : {A : Type 0} (xs ys : List A) → IsPrefix xs ys → IsPrefix ys xs → length ys ≡ length xs
prefix_both xs ys p q = omega (arith, sym (ap length p.1) ∙ length-append xs p.0, sym (ap length q.1) ∙ length-append ys q.0)

-- a line of a log is one of a log that begins with it
pub longer : {T : Type 0} (belongs : List Report → T → Type 0) (total_of : T → ℕ) (log log' : List Report) → IsPrefix log log' → (line : ReadLine) → IsLineOf belongs total_of log line → IsLineOf belongs total_of log' line
longer belongs total_of log log' begins line of =
    let same : take line.prefix log' ≡ take line.prefix log = ap (take line.prefix) (sym begins.1) ∙ take-append-le line.prefix log begins.0 of.within in
    record {
      table = of.table;
      within = omega (arith, of.within, sym (ap length begins.1) ∙ length-append log begins.0);
      belongs_so = subst (λ (reports : List Report). belongs reports of.table) (sym same) of.belongs_so;
      total = of.total;
    }

pub all_longer : {T : Type 0} (belongs : List Report → T → Type 0) (total_of : T → ℕ) (log log' : List Report) → IsPrefix log log' → (lines : List ReadLine) → All (IsLineOf belongs total_of log) lines → All (IsLineOf belongs total_of log') lines
all_longer belongs total_of log log' begins = All-weaker (IsLineOf belongs total_of log) (IsLineOf belongs total_of log') (longer belongs total_of log log' begins)

-- the most that was reached may be taken greater
pub reaches_more : (least : ℕ) (lines : List ReadLine) (most most' : ℕ) → most ≤ most' → NeverGoBack least lines most → NeverGoBack least lines most'
reaches_more least [] most most' le never = omega (arith, never)
reaches_more least (line ∷ lines) most most' le never = (never.0, never.1, reaches_more line.prefix lines most most' le never.2)

-- one line more
pub line_more : (least : ℕ) (lines : List ReadLine) (line : ReadLine) (most most' : ℕ) → most ≤ line.floor → line.floor ≤ line.prefix → line.prefix ≤ most' → NeverGoBack least lines most
    → NeverGoBack least (lines ++ line ∷ []) most'
line_more least [] line most most' from rises to never = (omega (arith, never), rises, to)
line_more least (other ∷ lines) line most most' from rises to never = (never.0, never.1, line_more other.prefix lines line most most' from rises to never.2)
