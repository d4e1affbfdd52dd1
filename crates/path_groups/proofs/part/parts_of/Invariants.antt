use Rattle.std.proofs.Common.{map, take, []}
use Rattle.bwe_specs.specs.Given.{path_of}
use Rattle.path_groups.proofs.Parts.{IsUnderWay}
use Rattle.path_groups.proofs.part.parts_of.Given as goal

-- the links of the paths before have their parts
abbrev pub invariant-loop-path : goal.invariant-loop-path
invariant-loop-path l = IsUnderWay (map path_of l.paths) l.parts.items (take l.path-index l.paths) []

-- and so do the links before of this path
abbrev pub invariant-loop-link : goal.invariant-loop-link
invariant-loop-link l = IsUnderWay (map path_of l.paths) l.parts.items (take l.path-index l.paths) (take l.link-index l.link-items)
