use Rattle.std.proofs.Common.{◌≡◌, ℕ, ◌+◌, ◌<◌, ◌≤◌, true, take, length, slice_index}
use Rattle.bwe_specs.specs.Paths.{path_group_at, load_on}
use Rattle.path_groups.specs.Parts.{has_part}
use Rattle.closing_walk.proofs.ends.add_parts.Given as goal

-- the links of the parts so far have more
abbrev pub invariant-loop-part : goal.invariant-loop-part
invariant-loop-part l = record {
  each : length l.extra ≡ length l.fn.extra;
  grown : (link : ℕ) → slice_index l.fn.extra link ≤ slice_index l.extra link;
  added : (link : ℕ) → has_part (take l.part-index l.part-items) link ≡ true → slice_index l.extra link < 18446744073709551615
      → slice_index l.fn.extra link + load_on (path_group_at l.plan l.group l.place) link l.more ≤ slice_index l.extra link;
}
