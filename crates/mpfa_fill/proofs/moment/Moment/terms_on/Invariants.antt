use Rattle.std.proofs.Common.{All}
use Rattle.mpfa_fill.specs.Growth.{closings_in, added_in, IsTermOf}
use Rattle.mpfa_fill.specs.Moment.{wan_in}
use Rattle.mpfa_fill.proofs.Terms.{Follows}
use Rattle.mpfa_fill.proofs.moment.Moment.terms_on.Given as goal

-- the terms follow the load of the groups so far
abbrev pub invariant-loop-group : goal.invariant-loop-group
invariant-loop-group g l = record {
  each : All (λ term. IsTermOf (wan_in g.V.GroupValues.meaning l.self) (closings_in l.self.growth) (added_in l.self.growth) l.link term.group term) l.terms.items;
  follows : Follows (wan_in g.V.GroupValues.meaning l.self) (closings_in l.self.growth) (added_in l.self.growth) l.link l.group l.terms.items;
}
