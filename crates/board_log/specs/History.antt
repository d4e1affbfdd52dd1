-- The rule of the history, and what its steps tell.
use Rattle.std.specs.Prelude.{ℕ, ◌≡◌, ◌≢◌, ◌<◌, ◌≤◌, ◌==◌, Bool, true, false, if◌then◌else◌, List, [], ◌∷◌, ◌++◌, length, MatchBool}
use Rattle.std.specs.List.{flat_map, All}
use Rattle.logbook.specs.Pages.{Cell, cell, Step, View, Book, Named, may_make, may_write}
use Rattle.logbook.specs.declared.tokens.Pen.{Pen}
use Rattle.atomic_table.specs.Seated.{TableId}
use Rattle.bwe_specs.specs.declared.report.Report.{Report}
use Rattle.board_log.specs.declared.history.Entry.{Entry}

-- the reports of these pieces, one after another
abbrev pub log_of : List (List Report) → List Report
log_of pieces = flat_map (λ piece. piece) pieces

-- no piece is empty
abbrev pub AreFilled : List (List Report) → Type 0
AreFilled pieces = All (λ piece. 0 < length piece) pieces

-- the last piece is empty: it marks the end of the log
abbrev pub HasEnded : List (List Report) → Type 0
HasEnded pieces = (before : List (List Report)) × (pieces ≡ before ++ [] ∷ [])

-- which history it is: its book, and the key of the pen that adds the first piece
pub record HistoryId : Type 0 where
  pub book : Book
  pub key : ℕ

-- The pieces that were added, the first of them by the pen of this key. Each entry names the pen
-- that was given for it and the pen that may add the next one. Entries of other pens are none, and
-- behind an empty piece there is none.
abbrev pub pieces_from : ℕ → List Entry → List (List Report)
pieces_from key [] = []
pieces_from key (entry ∷ entries) =
    if entry.given == key
    then entry.piece ∷ (if length entry.piece == 0 then [] else pieces_from entry.next entries)
    else pieces_from key entries

-- the key of the pen that may add the next piece
abbrev pub key_after : ℕ → List Entry → ℕ
key_after key [] = key
key_after key (entry ∷ entries) =
    if entry.given == key then key_after entry.next entries else key_after key entries

abbrev pub IsHome : List Cell → ℕ → Type 0
IsHome cells key = (cell cells key).1 ≡ true

-- the book has the word, and each pen that an entry was added by was given
abbrev pub AreGiven : List Cell → List Entry → Type 0
AreGiven cells entries = IsHome cells 0 × All (λ entry. IsHome cells entry.given) entries

-- the word of a book
abbrev pub word_of : Book → Named
word_of book = record { tracked = true; key = 0; book = book }

-- the step gave a pen with which one more word can be made
abbrev pub GivesPen : Step Entry → View Entry ℕ → ℕ → View Entry ℕ → Type 0
GivesPen step before found after = after.1.0.right ≡ may_make

-- behind all that had been seen other pens were given, and then this one for the piece
abbrev pub AddsPiece : Step Entry → View Entry ℕ → ℕ → View Entry ℕ → Type 0
AddsPiece step before found after =
    (since : List Entry) × (after.0 ≡ before.0 ++ since
    ++ record { given = before.1.0.key; next = step.ask.next; piece = step.ask.piece } ∷ [])
    × All (λ entry. entry.given ≢ before.1.0.key) since

-- a pen of this book that can write the word with this key, which the book does not hold yet
pub record IsAway (book : Book) (key : ℕ) (pen : Pen) : Type 0 where
  pub book_is : pen.book ≡ book
  pub right : pen.nib.right ≡ may_write
  pub key_is : pen.nib.key ≡ key

-- the log that was just opened has its word, and the first pen
pub record IsOpened (word : Named) (pen second : Pen) (book : Book) (log : List Entry)
    : Type 0 where
  pub empty : log ≡ []
  pub word_is : word ≡ word_of book
  pub away : IsAway book pen.nib.key pen
  pub spare : second.book ≡ book

-- The holder of the whole log has the word of the named book, and the pen that may add the next
-- piece, until it has ended the log. No piece is empty before.
pub record IsHeld (named : HistoryId) (word : Named) (pen : Pen) (has_ended : Bool) (book : Book)
    (log : List Entry) : Type 0 where
  pub away : has_ended ≡ false → IsAway book (key_after named.key log) pen
  pub filled : MatchBool has_ended (HasEnded (pieces_from named.key log))
      (AreFilled (pieces_from named.key log))
  pub named_so : book ≡ named.book
  pub word_is : word ≡ word_of named.book

-- so many reports stand in a log that the named book has reached
pub record IsReached (named : HistoryId) (len : ℕ) (book : Book) (log : List Entry)
    : Type 0 where
  pub within : len ≤ length (log_of (pieces_from named.key log))
  pub named_so : book ≡ named.book

-- the named book has reached a log whose last piece marks the end
pub record IsEndOf (named : HistoryId) (book : Book) (log : List Entry) : Type 0 where
  pub named_so : book ≡ named.book
  pub ended : HasEnded (pieces_from named.key log)

-- the names of no bases
abbrev pub no_history : HistoryId
no_history = record {
  book = record { number = 0; log_name = 0; cells_name = 0 };
  key = 0;
}

abbrev pub no_table : TableId
no_table = record {
  words = 0;
  slots = 0;
  views_name = 0;
  atom = 0;
  block = 0;
  offset = 0;
  slot_names = [];
}
