-- The text of what a later table has otherwise, line by line. A text is the list of its bytes.
use Rattle.std.specs.Prelude.{ℕ, ◌++◌, List, [], length, flat_map, sum_by, codes, decimal, if◌then◌else◌}
use Rattle.std.specs.Str.{bytes_eq}
use Rattle.bwe_specs.specs.declared.network.Closing.{Closing}
use Rattle.bwe_specs.specs.Allocation.{Table}
use Rattle.bwe_specs.specs.Reports.{numbers}
use Rattle.doc_names.specs.NameTexts.{NameTexts}
use Rattle.table_text.specs.TableText.{closing_line, link_line, group_lines, task_line}

-- what a number has in the later table, exactly where it is printed otherwise than in the earlier
-- one
unfoldable pub changed : (ℕ → List ℕ) → (ℕ → List ℕ) → ℕ → List ℕ
changed earlier later number = if bytes_eq (earlier number) (later number) then [] else later number

abbrev pub closing_lines : NameTexts → List Closing → List ℕ
closing_lines names closings = flat_map (closing_line names) closings

-- how many closings there are and all their lines, exactly where these differ
unfoldable pub changed_closings : NameTexts → List Closing → List Closing → List ℕ
changed_closings names earlier later =
    if bytes_eq (closing_lines names earlier) (closing_lines names later) then []
    else codes "closings " ++ decimal (length later) ++ codes "\n" ++ closing_lines names later

-- the whole text, of two tables of one plan
unfoldable pub change_text_of : NameTexts → Table → Table → List ℕ
change_text_of names earlier later =
    codes "change " ++ decimal later.prefix ++ codes "\n"
    ++ changed_closings names earlier.closings later.closings
    ++ flat_map (changed (link_line names earlier.loads) (link_line names later.loads))
    (numbers (length later.loads))
    ++ flat_map (changed (group_lines names earlier.groups) (group_lines names later.groups))
    (numbers (length later.groups))
    ++ flat_map (changed (task_line names earlier.limits) (task_line names later.limits))
    (numbers (length later.limits))
    ++ codes "total " ++ decimal (sum_by (λ line. line.amount) later.groups) ++ codes "\n"
