-- Why groups are refused: the first fault of what is given, over the links of a network.
use Rattle.std.specs.Prelude.{◌≡◌, ℕ, suc, List, [], ◌∷◌, length, Bool, false, not, ◌&&◌, ◌||◌, ◌==◌, nat_lt, if◌then◌else◌, Option, Some, None}
use Rattle.std.specs.Option.{option_or}
use Rattle.std.specs.List.{list_any}
use Rattle.std.specs.Str.{bytes_eq}
use Rattle.bwe_specs.specs.Paths.{Path, PathGroup}
use Rattle.wan_topology.specs.Network.{Network, sites_of}
use Rattle.path_groups.specs.declared.fault.PathFault.{PathFault}
use Rattle.path_groups.specs.declared.fault.PathFault.TheVariants.{TooManyPathGroups, NoPath, TooManyPaths, TooManyHops, WeightRange, BrokenPath, RepeatedHop}
use Rattle.path_groups.specs.declared.fault.PathError.{PathError}
use Rattle.path_groups.specs.declared.fault.PathError.TheVariants.{Refused, OutOfMemory}
use Rattle.bwe_specs.specs.Given.{Group}

-- the fault of the first item that has one; the first item has this number
unfoldable pub first_fault : {A : Type 0} → (ℕ → A → Option PathFault) → ℕ → List A
    → Option PathFault
first_fault fault number [] = None
first_fault fault number (item ∷ later) =
    option_or (fault number item) (first_fault fault (suc number) later)

-- the links lead from a site to another: each starts where the one before ended
unfoldable pub leads : Network → List ℕ → List ℕ → List ℕ → Bool
leads network from to [] = bytes_eq from to
leads network from to (link ∷ later) =
    bytes_eq (sites_of network link).from from && leads network (sites_of network link).to to later

-- a path from a site to another has a link, and its links lead there
abbrev pub is_chain : Network → List ℕ → List ℕ → List ℕ → Bool
is_chain network from to [] = false
is_chain network from to (link ∷ later) = leads network from to (link ∷ later)

-- some link stands twice
unfoldable pub repeats : List ℕ → Bool
repeats [] = false
repeats (link ∷ later) = list_any (λ other. other == link) later || repeats later

-- the fault of a path of this number, in the path group at this place of the group
unfoldable pub path_fault : Network → ℕ → Group → ℕ → ℕ → Path → Option PathFault
path_fault network number group place path_number path =
    if nat_lt 32 (length path.links) then Some (TooManyHops number place path_number) else
    (if nat_lt path.weight 1 || nat_lt 1_000 path.weight
    then Some (WeightRange number place path_number) else
    (if not (is_chain network group.from group.to path.links)
    then Some (BrokenPath number place path_number) else
    (if repeats path.links then Some (RepeatedHop number place path_number) else None)))

-- the fault of the path group at this place of the group
unfoldable pub path_group_fault : Network → ℕ → Group → ℕ → PathGroup → Option PathFault
path_group_fault network number group place [] = Some (NoPath number place)
path_group_fault network number group place (path ∷ later) =
    if nat_lt 16 (length (path ∷ later)) then Some (TooManyPaths number place)
    else first_fault (path_fault network number group place) 0 (path ∷ later)

-- the fault of the group of this number
unfoldable pub group_fault : Network → ℕ → Group → Option PathFault
group_fault network number group =
    if nat_lt 16 (length group.path_groups) then Some (TooManyPathGroups number) else
    (if length group.path_groups == 0 then Some (NoPath number 0)
    else first_fault (path_group_fault network number group) 0 group.path_groups)

-- the fault of the groups of an input, over the links of this network
unfoldable pub plan_fault : Network → List Group → Option PathFault
plan_fault network groups = first_fault (group_fault network) 0 groups

-- the error names this fault, or says that memory ran out
abbrev pub TellsFault : Option PathFault → PathError → Type 0
TellsFault fault (Refused told) = fault ≡ Some told
TellsFault fault OutOfMemory = Unit {0}
