-- The text of a table of tiers. A text is the list of its bytes.
use Rattle.std.specs.Prelude.{ℕ, ◌++◌, List, [], length, flat_map, slice_index_or, codes, decimal}
use Rattle.bwe_specs.specs.declared.network.Closing.{Closing}
use Rattle.bwe_specs.specs.Reports.{numbers}
use Rattle.doc_names.specs.NameTexts.{NameTexts}
use Rattle.table_text.specs.TableText.{closing_line, with_limits}
use Rattle.tiers.specs.Tiered.{Tiered}

-- a tier, and where and when its links closed
abbrev pub tier_lines : NameTexts → List (List Closing) → ℕ → List ℕ
tier_lines names tiers tier =
    codes "tier " ++ decimal tier ++ codes "\n"
    ++ flat_map (closing_line names) (slice_index_or tiers tier [])

-- the whole text: the tiers, then what the text of a table has after its closings
unfoldable pub tier_text_of : NameTexts → Tiered → List ℕ
tier_text_of names table =
    with_limits names table.loads table.groups table.limits
    (codes "tiers " ++ decimal table.prefix ++ codes "\n"
    ++ flat_map (tier_lines names table.tiers) (numbers (length table.tiers)))
