use Rattle.std.proofs.Common.{◌≡◌, length}
use Rattle.link_front.specs.ByLink.{AreListedTo}
use Rattle.link_front.proofs.by_link.list_group.Given as goal

-- the group is listed at the links of the path groups so far
abbrev pub invariant-loop-place : goal.invariant-loop-place
invariant-loop-place l = record {
  each_link : length l.lists ≡ length l.fn.lists;
  before : AreListedTo l.plan l.group l.place l.lists;
}
