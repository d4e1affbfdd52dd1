use Rattle.std.proofs.Common.{◌≡◌, ◌+◌, ◌*◌, ◌≤◌, take, true}
use Rattle.bwe_specs.specs.declared.limits.TheConstants.{MAX_TOTAL}
use Rattle.bwe_specs.specs.Paths.{link_load}
use Rattle.bwe_specs.specs.RightClosings.{amounts_at}
use Rattle.mpfa_fill.specs.Told.{IsTold}
use Rattle.mpfa_fill.specs.Growth.{wan_in, closings_in, added_in, terms_load}
use Rattle.mpfa_fill.proofs.growth.Growth.load_by.Given as goal

-- the terms so far are added, and none is great
abbrev pub invariant-loop-term : goal.invariant-loop-term
invariant-loop-term g l = record {
  told : IsTold l.asked (link_load (wan_in g.V.GroupValues.meaning l.self).groups (added_in l.self) l.link
      + terms_load (wan_in g.V.GroupValues.meaning l.self) l.link (amounts_at (wan_in g.V.GroupValues.meaning l.self) (closings_in l.self) l.share) (take l.term-index l.terms)) l.load;
  exact : l.is_exact ≡ true → l.load ≡ link_load (wan_in g.V.GroupValues.meaning l.self).groups (added_in l.self) l.link
      + terms_load (wan_in g.V.GroupValues.meaning l.self) l.link (amounts_at (wan_in g.V.GroupValues.meaning l.self) (closings_in l.self) l.share) (take l.term-index l.terms);
  held : l.held ≡ terms_load (wan_in g.V.GroupValues.meaning l.self) l.link (added_in l.self) (take l.term-index l.terms);
  load_small : l.load ≤ MAX_TOTAL + l.term-index * MAX_TOTAL;
  held_small : l.held ≤ l.term-index * MAX_TOTAL;
}
