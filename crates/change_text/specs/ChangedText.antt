-- A change text put into the text of the table before it, row for row, as a client does that has
-- the two texts and nothing else.
use Rattle.std.specs.Prelude.{ℕ, ◌++◌, ◌||◌, Bool, List, [], ◌∷◌, map, filter, find, flat_map, slice_index_or, codes, if◌then◌else◌}
use Rattle.std.specs.List.{list_any}
use Rattle.std.specs.Option.{unwrap_or}
use Rattle.std.specs.Str.{bytes_eq}
use Rattle.text_scan.specs.Lines.{lines_of}
use Rattle.text_scan.specs.Words.{Text, words_of}

-- ---- rows

-- a row is a line without its line feed
abbrev pub text_of_rows : List Text → Text
text_of_rows rows = flat_map (λ row. row ++ codes "\n") rows

-- a word of a row; the first is word 0. An empty text where the row has no such word
abbrev pub word_at : ℕ → Text → Text
word_at place row = slice_index_or (words_of row) place []

-- whether the first word of a row is this one
unfoldable pub begins_with : Text → Text → Bool
begins_with word row = bytes_eq (word_at 0 row) word

-- ---- blocks

-- a block is the row of a link, a group or a task, and behind that of a group its rows `place`
abbrev pub Block : Type 0
Block = List Text

abbrev pub is_place : Text → Bool
is_place row = begins_with (codes "place") row

abbrev pub is_of_block : Text → Bool
is_of_block row =
    begins_with (codes "link") row || begins_with (codes "group") row
    || begins_with (codes "task") row || is_place row

-- a row above blocks: in one block with the rows `place` that follow, else alone
abbrev pub above : Text → List Block → List Block
above row [] = (row ∷ []) ∷ []
above row ([] ∷ blocks) = (row ∷ []) ∷ blocks
above row ((next ∷ rows) ∷ blocks) =
    if is_place next then (row ∷ next ∷ rows) ∷ blocks else (row ∷ []) ∷ (next ∷ rows) ∷ blocks

abbrev pub blocks_of_rows : List Text → List Block
blocks_of_rows [] = []
blocks_of_rows (row ∷ rows) = above row (blocks_of_rows rows)

-- the blocks of a text
abbrev pub blocks_of : List Text → List Block
blocks_of rows = blocks_of_rows (filter is_of_block rows)

-- what a block is of: the first two words of its first row, as `link ab`
unfoldable pub key_of : Block → Text
key_of [] = []
key_of (row ∷ rows) = word_at 0 row ++ codes " " ++ word_at 1 row

-- the first of these blocks that is of the same as this one, or this one where there is none
abbrev pub newest : List Block → Block → Block
newest changed block =
    unwrap_or (find (λ other. bytes_eq (key_of other) (key_of block)) changed) block

-- ---- the whole text

-- the rows of the closings: those of the change where it has a row `closings`
abbrev pub closings_in : List Text → List Text → List Text
closings_in rows changed =
    filter (begins_with (codes "closing"))
    (if list_any (begins_with (codes "closings")) changed then changed else rows)

-- the rows of a table and of a change as one text: the number of reports and the total are those of
-- the change, and so are the closings where it has a row `closings`; each link, group and task has
-- its block of the change, or else the one that it had
abbrev pub changed_rows : List Text → List Text → Text
changed_rows rows changed =
    codes "table " ++ word_at 1 (slice_index_or changed 0 []) ++ codes "\n"
    ++ text_of_rows (closings_in rows changed)
    ++ flat_map text_of_rows (map (newest (blocks_of changed)) (blocks_of rows))
    ++ text_of_rows (filter (begins_with (codes "total")) changed)

-- a table text with a change text put into it
unfoldable pub with_change_text : Text → Text → Text
with_change_text table change = changed_rows (lines_of table) (lines_of change)
