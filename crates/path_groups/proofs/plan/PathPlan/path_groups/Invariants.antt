use Rattle.std.proofs.Common.{◌≡◌, ◌++◌, ◌≤◌, map}
use Rattle.std.specs.Prelude.{All}
use Rattle.std.specs.Vec.Iter.{into_iter_items}
use Rattle.bwe_specs.specs.Paths.{weight_of}
use Rattle.bwe_specs.specs.Given.{path_group_of}
use Rattle.path_groups.specs.Held.{path_groups_held, HoldsParts}
use Rattle.path_groups.proofs.plan.PathPlan.path_groups.Given as goal

-- the path groups that came are held, and those to come are light
abbrev pub invariant-loop-paths : goal.invariant-loop-paths
invariant-loop-paths l =
    record {
      together : path_groups_held l.held ++ map path_group_of (into_iter_items l.paths-iterator) ≡ map path_group_of l.fn.places.items;
      parts : All HoldsParts l.held.items;
      light : All (λ paths. weight_of (path_group_of paths) ≤ 16_000) (into_iter_items l.paths-iterator);
    }
