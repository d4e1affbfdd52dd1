use Rattle.std.proofs.Common.{◌≡◌, ◌++◌}
use Rattle.std.specs.Prelude.{All}
use Rattle.std.specs.Vec.Iter.{into_iter_items}
use Rattle.bwe_specs.specs.Given.{groups_of, path_groups_of}
use Rattle.path_groups.specs.Held.{plan_held, AllHoldParts}
use Rattle.path_groups.proofs.Sound.{IsSoundGroup}
use Rattle.path_groups.proofs.plan.PathPlan.build.Given as goal

-- the groups that came are held, and those to come are sound
abbrev pub invariant-loop-group : goal.invariant-loop-group
invariant-loop-group l =
    record {
      together : plan_held l.held.items ++ path_groups_of (groups_of (into_iter_items l.group-iterator)) ≡ path_groups_of (groups_of l.fn.groups.items);
      parts : AllHoldParts l.held.items;
      sound : All (IsSoundGroup l.topology) (groups_of (into_iter_items l.group-iterator));
    }
