-- The part of an input that gives each group its tier: a digit from 0 to 7 for each group, and one
-- line feed.
use Rattle.std.specs.Prelude.{◌≡◌, ℕ, ◌+◌, ◌-◌, Bool, not, ◌&&◌, ◌==◌, nat_lt, nat_le, if◌then◌else◌, List, length, map, slice_index, Option, Some, ◌++◌, codes, decimal}
use Rattle.bwe_specs.specs.Bounded.{lowest_below}
use Rattle.bwe_specs.specs.Reports.{numbers}
use Rattle.tier_text.specs.declared.part.TiersError.{TiersError}
use Rattle.tier_text.specs.declared.part.TiersError.TheVariants.{Refused, OutOfMemory}

-- the byte is a digit from 0 to 7
abbrev pub is_tier_digit : ℕ → Bool
is_tier_digit byte = nat_le 48 byte && nat_lt byte 56

-- the part has at this byte what is due there: a digit for each group, then a line feed, then
-- nothing
abbrev pub is_due : ℕ → List ℕ → ℕ → Bool
is_due groups part at =
    if nat_lt groups at then nat_le (length part) at else
    (nat_lt at (length part)
    && (if nat_lt at groups then is_tier_digit (slice_index part at)
    else slice_index part at == 10))

-- the first byte at fault; the part's length where it ends early
unfoldable pub part_fault : ℕ → List ℕ → Option ℕ
part_fault groups part = lowest_below (groups + 2) (λ at. not (is_due groups part at))

-- the tier of each group
abbrev pub tiers_in : ℕ → List ℕ → List ℕ
tiers_in groups part = map (λ group. slice_index part group - 48) (numbers groups)

-- the error names this fault, or says that memory ran out
abbrev pub TellsFault : Option ℕ → TiersError → Type 0
TellsFault fault (Refused at) = fault ≡ Some at
TellsFault fault OutOfMemory = Unit {0}

-- the row of a refused part
unfoldable pub tiers_line : ℕ → List ℕ
tiers_line at = codes "refused 15 tiers at byte " ++ decimal at ++ codes "\n"
