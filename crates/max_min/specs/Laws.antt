-- The max-min laws, of every network and all values that never fall.
use Rattle.std.specs.Prelude.{◌≡◌, ℕ, suc, ◌+◌, ◌<◌, ◌≤◌, List, length, map, slice_index, true, Some}
use Rattle.bwe_specs.specs.declared.network.Closing.{Closing}
use Rattle.bwe_specs.specs.Paths.{path_group_at, path_group_count, link_load, uses}
use Rattle.bwe_specs.specs.Filling.{Wan, filling, growth, group_stop, closed_by}
use Rattle.bwe_specs.specs.Reports.{numbers}
use Rattle.bwe_specs.specs.Values.{NeverFalls}
use Rattle.bwe_specs.specs.Allocation.{GroupLine, group_line}
use Rattle.table_laws.specs.Growing.{StandsIn}
use Rattle.max_min.specs.MaxMin.{HasOnePathGroupEach, AreShares, HasNoMore, IsMaxMin, IsBestForWorstOff, IsBestByLevel, IsStoppedOn, IsUsedLast, rests_at}

-- Max-min law: where each group has one path group, the filling is max-min fair up to one unit of
-- share: whoever has a higher share in another assignment has it at the cost of another group over
-- the link that stopped it, which stopped no later here, and has no higher share there
abbrev pub MaxMinLaw : Type 0
MaxMinLaw = (wan : Wan) → NeverFalls wan → ((group : ℕ) → wan.value group 0 ≡ 0)
    → HasOnePathGroupEach wan.groups
    → IsMaxMin wan (map (group_line wan (filling wan)) (numbers (length wan.groups)))

-- Worst-off law: a table that is max-min fair so does the best for those who have least, exactly
abbrev pub WorstOffLaw : Type 0
WorstOffLaw = (wan : Wan) (lines : List GroupLine) → IsMaxMin wan lines
    → IsBestForWorstOff wan lines

-- Level law: and for those at each share, where those below are not to have less
abbrev pub LevelLaw : Type 0
LevelLaw = (wan : Wan) (lines : List GroupLine) → IsMaxMin wan lines → IsBestByLevel wan lines

-- Last-path-group law, of any path groups: the same of a link that each group over it uses by no
-- path group but the one on which it stopped, where all groups keep what they have on their other
-- path groups; of the loads there it asks that of this link alone
abbrev pub LastPathGroupLaw : Type 0
LastPathGroupLaw = (wan : Wan) → NeverFalls wan → ((group : ℕ) → wan.value group 0 ≡ 0)
    → (link : ℕ) → IsUsedLast wan (filling wan).closings link
    → (shares : ℕ → ℕ) → AreShares wan shares
    → link_load wan.groups (rests_at wan (filling wan).amounts shares) link
    ≤ slice_index wan.capacities link
    → (group place : ℕ) → IsStoppedOn wan (filling wan).closings group place
    → closed_by (path_group_at wan.groups group place) (filling wan).closings ≡ Some link
    → group_stop wan (filling wan) group < shares group
    → (other : ℕ)
    × HasNoMore wan shares group other link (group_line wan (filling wan) group)
    (group_line wan (filling wan) other)

-- Pushing-out law, of any path groups: under any other amounts, by group and path group, that the
-- capacity of a closed link allows, a path group over the link has less than it has here, and if it
-- grew when the link closed, less than that and its growth to the next share
abbrev pub PushingOutLaw : Type 0
PushingOutLaw = (wan : Wan) → NeverFalls wan → (closing : Closing) (earlier : List Closing)
    → StandsIn (filling wan).closings closing earlier
    → (other : ℕ → ℕ → ℕ)
    → link_load wan.groups other closing.link ≤ slice_index wan.capacities closing.link
    → (group : ℕ) × (place : ℕ) × (group < length wan.groups)
    × (place < path_group_count wan.groups group)
    × (uses (path_group_at wan.groups group place) closing.link ≡ true)
    × (other group place
    < (filling wan).amounts group place
    + growth wan earlier closing.share (suc closing.share) group place)
