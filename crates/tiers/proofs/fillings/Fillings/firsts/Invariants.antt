use Rattle.std.proofs.Common.{◌≡◌, map, take}
use Rattle.tiers.proofs.fillings.Fillings.firsts.Given as goal

-- the tiers so far have their closings
abbrev pub invariant-loop-closings : goal.invariant-loop-closings
invariant-loop-closings l = l.firsts.items ≡ map (λ list. list.items) (take l.closings-index l.closings-items)
