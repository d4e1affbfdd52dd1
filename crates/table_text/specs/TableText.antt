-- The text of a table, line by line. A text is the list of its bytes.
use Rattle.std.specs.Prelude.{ℕ, ◌++◌, List, [], length, flat_map, slice_index, slice_index_or, sum_by, codes, decimal, Option, Some, None}
use Rattle.bwe_specs.specs.declared.network.Closing.{Closing}
use Rattle.bwe_specs.specs.Allocation.{Table, GroupLine, PlaceLine}
use Rattle.bwe_specs.specs.Reports.{numbers}
use Rattle.doc_names.specs.NameTexts.{NameTexts, entry_at}

-- where and when a link closed
abbrev pub closing_line : NameTexts → Closing → List ℕ
closing_line names closing =
    codes "closing " ++ entry_at names.links closing.link ++ codes " at " ++ decimal closing.share
    ++ codes "\n"

-- a word, the name of a number, a second word, and what the number has
abbrev pub value_line : List ℕ → List ℕ → List (List ℕ) → List ℕ → ℕ → List ℕ
value_line word between names values number =
    word ++ entry_at names number ++ between ++ decimal (slice_index values number) ++ codes "\n"

-- a link's load
abbrev pub link_line : NameTexts → List ℕ → ℕ → List ℕ
link_line names loads link = value_line (codes "link ") (codes " load ") names.links loads link

-- whether a path group is open, or the link that closed it
unfoldable pub closed_text : NameTexts → Option ℕ → List ℕ
closed_text names None = codes " open\n"
closed_text names (Some link) = codes " closed by " ++ entry_at names.links link ++ codes "\n"

-- what a path group got
abbrev pub place_line : NameTexts → List PlaceLine → ℕ → List ℕ
place_line names lines place =
    let line = slice_index_or lines place (record { amount = 0; closed = None }) in
    codes "place " ++ decimal place ++ codes " amount " ++ decimal line.amount
    ++ closed_text names line.closed

-- where a group stopped, what it got, and a line for each of its path groups
abbrev pub group_lines : NameTexts → List GroupLine → ℕ → List ℕ
group_lines names lines group =
    let line = slice_index_or lines group (record { share = 0; amount = 0; places = [] }) in
    codes "group " ++ entry_at names.groups group ++ codes " share " ++ decimal line.share
    ++ codes " amount " ++ decimal line.amount ++ codes "\n"
    ++ flat_map (place_line names line.places) (numbers (length line.places))

-- a task's limit
abbrev pub task_line : NameTexts → List ℕ → ℕ → List ℕ
task_line names limits task = value_line (codes "task ") (codes " limit ") names.tasks limits task

-- a text, and behind it the lines of all links, groups and tasks, and what the groups get together
abbrev pub with_limits : NameTexts → List ℕ → List GroupLine → List ℕ → List ℕ → List ℕ
with_limits names loads groups limits text =
    text ++ flat_map (link_line names loads) (numbers (length loads))
    ++ flat_map (group_lines names groups) (numbers (length groups))
    ++ flat_map (task_line names limits) (numbers (length limits))
    ++ codes "total " ++ decimal (sum_by (λ line. line.amount) groups) ++ codes "\n"

-- the whole text
unfoldable pub text_of : NameTexts → Table → List ℕ
text_of names table =
    with_limits names table.loads table.groups table.limits
    (codes "table " ++ decimal table.prefix ++ codes "\n"
    ++ flat_map (closing_line names) table.closings)
