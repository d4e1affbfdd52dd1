use Rattle.std.proofs.Common.{◌≡◌, suc, length}
use Rattle.link_front.specs.Front.{wan_in, closings_in}
use Rattle.closing_walk.specs.Walk.{closing_at}
use Rattle.closing_walk.specs.Ends.{AreWithin}
use Rattle.link_front.proofs.Walks.{reached}
use Rattle.closing_walk.proofs.ends.add_all.Given as goal

-- what the groups so far put on links is no more than in the end and the extra
abbrev pub invariant-loop-group : goal.invariant-loop-group
invariant-loop-group g l = record {
  each : length l.extra ≡ length l.fn.extra;
  within : AreWithin (wan_in g.V.GroupValues.meaning l.front) (closings_in l.front) l.closings (suc (closing_at l.closings l.at).share) l.extra (reached l.group-items (wan_in g.V.GroupValues.meaning l.front).groups l.group-index);
}
