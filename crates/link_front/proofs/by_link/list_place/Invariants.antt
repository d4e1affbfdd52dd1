use Rattle.std.proofs.Common.{◌≡◌, length, take}
use Rattle.link_front.proofs.Listing.{ArePlaced}
use Rattle.link_front.proofs.by_link.list_place.Given as goal

-- the group is listed at the links of the parts so far
abbrev pub invariant-loop-part : goal.invariant-loop-part
invariant-loop-part l = record {
  each_link : length l.lists ≡ length l.fn.lists;
  placed : ArePlaced l.plan l.group l.place (take l.part-index l.part-items) l.lists;
}
