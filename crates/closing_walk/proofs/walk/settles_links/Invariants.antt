use Rattle.std.proofs.Common.{◌≡◌, ℕ, ◌+◌, ◌<◌, ◌≤◌, true, take, length}
use Rattle.bwe_specs.specs.Paths.{path_group_at}
use Rattle.path_groups.specs.Parts.{has_part}
use Rattle.link_front.specs.Front.{wan_in, closings_in}
use Rattle.closing_walk.specs.Known.{AreKnownTwice}
use Rattle.closing_walk.specs.Walk.{Settles, IsHigh, from_at}
use Rattle.closing_walk.proofs.Looked.{unlooked}
use Rattle.closing_walk.proofs.walk.settles_links.Given as goal

-- the links of the parts so far are settled, and each was looked at once
abbrev pub invariant-loop-part : goal.invariant-loop-part
invariant-loop-part g l = record {
  known : AreKnownTwice (wan_in g.V.GroupValues.meaning l.front) l.known;
  settles : Settles (wan_in g.V.GroupValues.meaning l.front) (closings_in l.front) l.closings l.at l.fn.froms l.froms;
  low : (link : ℕ) → has_part (take l.part-index l.part-items) link ≡ true → from_at l.froms link ≤ l.at → IsHigh l.closings l.at link (from_at l.froms link) → ⊥;
  settled : l.leaves ≡ true → (link : ℕ) → has_part (take l.part-index l.part-items) link ≡ true → l.at < from_at l.froms link;
  ticks : l.steps + unlooked (length (wan_in g.V.GroupValues.meaning l.front).capacities) (path_group_at (wan_in g.V.GroupValues.meaning l.front).groups l.group l.place) l.at l.froms
      ≤ l.fn.steps + unlooked (length (wan_in g.V.GroupValues.meaning l.front).capacities) (path_group_at (wan_in g.V.GroupValues.meaning l.front).groups l.group l.place) l.at l.fn.froms;
}
