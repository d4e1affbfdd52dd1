-- What an operator asks of the lines, loads and closings of a table.
use Rattle.std.specs.Prelude.{◌≡◌, ℕ, ◌+◌, ◌<◌, List, [], ◌∷◌, length, map, slice_index, slice_index_or, sum, true, None, Contains}
use Rattle.bwe_specs.specs.declared.network.Closing.{Closing}
use Rattle.bwe_specs.specs.Bounded.{sum_below}
use Rattle.bwe_specs.specs.Paths.{path_group_at, path_group_count, link_load, uses}
use Rattle.bwe_specs.specs.Filling.{Wan, current_path_group_of, group_amount}
use Rattle.bwe_specs.specs.RightClosings.{amounts_at}
use Rattle.bwe_specs.specs.Allocation.{GroupLine}
use Rattle.table_laws.specs.Growing.{StandsIn, GrowsOver, added_load}

-- the line of a group
abbrev pub line_at : List GroupLine → ℕ → GroupLine
line_at lines group = slice_index_or lines group (record { share = 0; amount = 0; places = [] })

-- The same share; the closings are in their reverse order, the newest first. a group's amount is
-- what its path groups have together, and that is exactly what its function gives at its stop
-- share; at each closing every group that then grew over the link stood at the closing's share; and
-- a group that this closing left without a path group stops at the closing's share
pub record IsSharedAlike (wan : Wan) (lines : List GroupLine) (closings : List Closing)
    : Type 0 where
  pub sums : (group : ℕ) → group < length wan.groups
      → sum (map (λ place. place.amount) (line_at lines group).places)
      ≡ (line_at lines group).amount
  pub at_stop : (group : ℕ) → 0 < path_group_count wan.groups group
      → (line_at lines group).amount ≡ wan.value group (line_at lines group).share
  pub at_closing : (closing : Closing) (earlier : List Closing) → StandsIn closings closing earlier
      → (group : ℕ) → GrowsOver wan earlier group closing.link
      → group_amount wan (amounts_at wan earlier closing.share) group
      ≡ wan.value group closing.share
  pub stopped : (closing : Closing) (earlier : List Closing) → StandsIn closings closing earlier
      → (group : ℕ) → GrowsOver wan earlier group closing.link
      → current_path_group_of wan (closing ∷ earlier) group ≡ None
      → (line_at lines group).share ≡ closing.share

-- No waste; the closings are in their reverse order, the newest first. where a group has less than
-- it may have at the top, each of its path groups uses a closed link; on a closed link the load and
-- what the groups then growing would have put there with the next whole share exceed the capacity,
-- so what is left free is less than that; the groups that did not grow over the link have no part
-- in it; and the load has stayed as it was at the closing
pub record IsWithoutWaste (wan : Wan) (lines : List GroupLine) (loads : List ℕ)
    (closings : List Closing) : Type 0 where
  pub held : (group place : ℕ) → place < path_group_count wan.groups group
      → (line_at lines group).amount < wan.value group wan.top
      → (closing : Closing) × Contains closings closing
      × (uses (path_group_at wan.groups group place) closing.link ≡ true)
  pub little_left : (closing : Closing) (earlier : List Closing) → StandsIn closings closing earlier
      → slice_index wan.capacities closing.link
      < slice_index loads closing.link
      + sum_below (length wan.groups) (added_load wan earlier closing.share closing.link)
  pub of_growing : (closing : Closing) (earlier : List Closing) → StandsIn closings closing earlier
      → (group : ℕ) → (GrowsOver wan earlier group closing.link → ⊥)
      → added_load wan earlier closing.share closing.link group ≡ 0
  pub stays : (closing : Closing) (earlier : List Closing) → StandsIn closings closing earlier
      → slice_index loads closing.link
      ≡ link_load wan.groups (amounts_at wan earlier closing.share) closing.link
