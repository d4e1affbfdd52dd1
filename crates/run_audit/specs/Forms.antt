-- The forms of the lines before the table: which words they have, and what these say.
use Rattle.std.specs.Prelude.{ℕ, Bool, ◌==◌, ◌&&◌, ◌||◌, List, length, Option, Some, None, if◌then◌else◌, codes, position}
use Rattle.std.specs.Str.{bytes_eq}
use Rattle.doc_names.specs.NameTexts.{NameTexts, entry_at}
use Rattle.run_audit.specs.Words.{is_known, is_word, number_at}
use Rattle.run_audit.specs.declared.forms.ReportWords.{ReportWords}
use Rattle.run_audit.specs.declared.forms.ReaderWords.{ReaderWords}
use Rattle.run_audit.specs.declared.forms.Shown.{Shown}

-- `history <number of reports>`
unfoldable pub history_of : List (List ℕ) → Option ℕ
history_of words =
    if (length words == 2) && is_word words 0 (codes "history") then number_at words 1 else None

-- the first word goes with the name in the fourth: a task's in a report, a link's in a capacity
unfoldable pub is_of_known : NameTexts → List (List ℕ) → Bool
is_of_known names words =
    (is_word words 0 (codes "report") && is_known names.tasks (entry_at words 3))
    || (is_word words 0 (codes "capacity") && is_known names.links (entry_at words 3))

abbrev pub report_words : Option ℕ → Option ℕ → Option ℕ → Option ReportWords
report_words None reporter amount = None
report_words (Some place) None amount = None
report_words (Some place) (Some reporter) None = None
report_words (Some place) (Some reporter) (Some amount) =
    Some (record { place = place; reporter = reporter; amount = amount })

-- `report <place> <reporter> <task> <demand>`, or `capacity <place> <reporter> <link> <capacity>`
unfoldable pub report_of : NameTexts → List (List ℕ) → Option ReportWords
report_of names words =
    if (length words == 5) && is_of_known names words
    then report_words (number_at words 1) (position (bytes_eq (entry_at words 2)) names.reporters)
    (number_at words 4) else None

-- the number in `reporter <reporter> sent <number>`
unfoldable pub sent_of : NameTexts → List (List ℕ) → Option ℕ
sent_of names words =
    if (length words == 4)
    && (is_word words 0 (codes "reporter")
    && (is_word words 2 (codes "sent") && is_known names.reporters (entry_at words 1)))
    then number_at words 3 else None

abbrev pub reader_words : Option ℕ → Option ℕ → Option ReaderWords
reader_words None length = None
reader_words (Some number) None = None
reader_words (Some number) (Some length) = Some (record { number = number; length = length })

-- `reader <number> length <length>`
unfoldable pub reader_of : List (List ℕ) → Option ReaderWords
reader_of words =
    if (length words == 4) && (is_word words 0 (codes "reader") && is_word words 2 (codes "length"))
    then reader_words (number_at words 1) (number_at words 3) else None

abbrev pub shown_words : Option ℕ → Option ℕ → Option ℕ → Option Shown
shown_words None prefix total = None
shown_words (Some floor) None total = None
shown_words (Some floor) (Some prefix) None = None
shown_words (Some floor) (Some prefix) (Some total) =
    Some (record { floor = floor; prefix = prefix; total = total })

-- `<kind> floor <floor> prefix <prefix> total <total>`
unfoldable pub shown_of : List ℕ → List (List ℕ) → Option Shown
shown_of kind words =
    if (length words == 7)
    && (is_word words 0 kind
    && (is_word words 1 (codes "floor")
    && (is_word words 3 (codes "prefix") && is_word words 5 (codes "total"))))
    then shown_words (number_at words 2) (number_at words 4) (number_at words 6) else None
