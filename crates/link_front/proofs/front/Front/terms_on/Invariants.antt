use Rattle.std.proofs.Common.{All}
use Rattle.mpfa_fill.specs.Growth.{IsTermOf}
use Rattle.link_front.specs.Front.{wan_in, closings_in, added_in}
use Rattle.mpfa_fill.proofs.Terms.{Follows}
use Rattle.link_front.proofs.Walks.{reached}
use Rattle.link_front.proofs.front.Front.terms_on.Given as goal

-- the terms follow the load of the groups so far
abbrev pub invariant-loop-at : goal.invariant-loop-at
invariant-loop-at g l = record {
  each : All (λ term. IsTermOf (wan_in g.V.GroupValues.meaning l.self) (closings_in l.self) (added_in l.self) l.link term.group term) l.terms.items;
  follows : Follows (wan_in g.V.GroupValues.meaning l.self) (closings_in l.self) (added_in l.self) l.link (reached l.groups (wan_in g.V.GroupValues.meaning l.self).groups l.at) l.terms.items;
}
