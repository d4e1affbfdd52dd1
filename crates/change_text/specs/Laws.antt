-- A table that is kept by its changes: what the change has of a number, and the earlier lines where
-- it has nothing.
use Rattle.std.specs.Prelude.{◌≡◌, ◌≢◌, ◌<◌, ◌≤◌, ℕ, ◌++◌, Bool, ◌==◌, List, [], length, flat_map, sum_by, codes, decimal, if◌then◌else◌, All}
use Rattle.bwe_specs.specs.declared.network.Closing.{Closing}
use Rattle.bwe_specs.specs.Allocation.{Table}
use Rattle.bwe_specs.specs.Reports.{numbers}
use Rattle.demand_book.specs.TableChanges.{frame_of}
use Rattle.doc_names.specs.NameTexts.{IsPlain, NameTexts, entry_at}
use Rattle.table_text.specs.TableText.{link_line, group_lines, task_line, text_of}
use Rattle.change_text.specs.ChangeText.{change_text_of, changed, changed_closings, closing_lines}
use Rattle.change_text.specs.ChangedText.{with_change_text}

abbrev pub is_nothing : List ℕ → Bool
is_nothing text = length text == 0

-- the lines of a number: those of the change, or else those of the earlier table
abbrev pub kept : (ℕ → List ℕ) → (ℕ → List ℕ) → ℕ → List ℕ
kept earlier change number = if is_nothing (change number) then earlier number else change number

-- the lines of the closings, without the line that says how many there are
abbrev pub kept_closings : NameTexts → List Closing → List Closing → List ℕ
kept_closings names earlier later =
    if is_nothing (changed_closings names earlier later) then closing_lines names earlier
    else closing_lines names later

-- the text of the earlier table with the change made to it
unfoldable pub kept_text : NameTexts → Table → Table → List ℕ
kept_text names earlier later =
    codes "table " ++ decimal later.prefix ++ codes "\n"
    ++ kept_closings names earlier.closings later.closings
    ++ flat_map (kept (link_line names earlier.loads)
    (changed (link_line names earlier.loads) (link_line names later.loads)))
    (numbers (length earlier.loads))
    ++ flat_map (kept (group_lines names earlier.groups)
    (changed (group_lines names earlier.groups) (group_lines names later.groups)))
    (numbers (length earlier.groups))
    ++ flat_map (kept (task_line names earlier.limits)
    (changed (task_line names earlier.limits) (task_line names later.limits)))
    (numbers (length earlier.limits))
    ++ codes "total " ++ decimal (sum_by (λ line. line.amount) later.groups) ++ codes "\n"

-- the text of the earlier table with the change made to it is the text of the later one
abbrev pub KeptTablesAreMadeTables : Type 0
KeptTablesAreMadeTables = (names : NameTexts) (earlier later : Table)
    → frame_of earlier ≡ frame_of later
    → kept_text names earlier later ≡ text_of names later

-- a number has lines in the change exactly where the two tables print other lines of it
abbrev pub ChangesStandWhereLinesDiffer : Type 0
ChangesStandWhereLinesDiffer = (earlier later : ℕ → List ℕ) (number : ℕ)
    → (earlier number ≡ later number → changed earlier later number ≡ [])
    × (earlier number ≢ later number → changed earlier later number ≡ later number)

-- ---- The text that is written

-- no name has a line feed or a space, and no two names of the list are one
pub record AreTold (names : List (List ℕ)) : Type 0 where
  pub plain : All IsPlain names
  pub apart : (number other : ℕ) → number < other → other < length names
      → entry_at names number ≢ entry_at names other

-- so it is of all names of a table, of which each link, group and task has one
pub record IsTold (names : NameTexts) (table : Table) : Type 0 where
  pub links : AreTold names.links
  pub groups : AreTold names.groups
  pub tasks : AreTold names.tasks
  pub each_link : length table.loads ≤ length names.links
  pub each_group : length table.groups ≤ length names.groups
  pub each_task : length table.limits ≤ length names.tasks

-- the rows of the change text put into the text of the earlier table, each in the place of the row
-- that begins with the same two words, make the text of the later table, byte for byte
abbrev pub ChangedTextIsLaterText : Type 0
ChangedTextIsLaterText = (names : NameTexts) (earlier later : Table)
    → frame_of earlier ≡ frame_of later → IsTold names later
    → with_change_text (text_of names earlier) (change_text_of names earlier later)
    ≡ text_of names later
