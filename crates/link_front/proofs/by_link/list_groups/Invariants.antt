use Rattle.std.proofs.Common.{◌≡◌, length}
use Rattle.link_front.specs.ByLink.{AreListedTo}
use Rattle.link_front.proofs.by_link.list_groups.Given as goal

-- the groups so far are listed
abbrev pub invariant-loop-group : goal.invariant-loop-group
invariant-loop-group l = record {
  each_link : length l.lists ≡ length l.fn.lists;
  before : AreListedTo l.plan l.group 0 l.lists;
}
