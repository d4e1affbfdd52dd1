-- The text of what all groups may have at a share.
use Rattle.std.specs.Prelude.{ℕ, ◌++◌, List, length, flat_map, sum, codes, decimal}
use Rattle.bwe_specs.specs.Reports.{numbers}
use Rattle.doc_names.specs.NameTexts.{NameTexts}
use Rattle.table_text.specs.TableText.{value_line}

-- what a group may have
abbrev pub level_line : NameTexts → List ℕ → ℕ → List ℕ
level_line names values group = value_line (codes "level ") (codes " ") names.groups values group

-- the share, a line for each group, and what they may have together
unfoldable pub levels_text_of : NameTexts → ℕ → List ℕ → List ℕ
levels_text_of names share values =
    codes "levels " ++ decimal share ++ codes "\n"
    ++ flat_map (level_line names values) (numbers (length values))
    ++ codes "total " ++ decimal (sum values) ++ codes "\n"
