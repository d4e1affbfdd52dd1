-- The line that is printed for a refusal.
use Rattle.std.specs.Prelude.{◌≡◌, ℕ, List, [], ◌∷◌, ◌++◌, codes, decimal, Option, Some, None, option_map}
use Rattle.std.specs.List.{flat_map}
use Rattle.bw_function.specs.declared.fault.FunctionFault.{FunctionFault}
use Rattle.bw_function.specs.declared.fault.FunctionFault.TheVariants.{Empty, NotFromZero, ShareNotRising, ShareOverTop, AmountFalling, AmountOverMax}
use Rattle.wan_topology.specs.declared.fault.TopologyFault.{TopologyFault}
use Rattle.wan_topology.specs.declared.fault.TopologyFault.TheVariants.{TooManyLinks, RepeatedLink, SelfLink, CapacityOverMax}
use Rattle.path_groups.specs.declared.fault.PathFault.{PathFault}
use Rattle.path_groups.specs.declared.fault.PathFault.TheVariants.{TooManyPathGroups, NoPath, TooManyPaths, TooManyHops, WeightRange, BrokenPath, RepeatedHop}
use Rattle.tree_spec.specs.declared.fault.TreeFault.{TreeFault}
use Rattle.tree_spec.specs.declared.fault.TreeFault.TheVariants.{EmptyNode, TooManyTasks}
use Rattle.raw_document.specs.declared.doc_path.PathStep.{PathStep}
use Rattle.raw_document.specs.declared.doc_path.PathStep.TheVariants.{Key, Index}
use Rattle.raw_document.specs.Words.{word}
use Rattle.doc_passes.specs.declared.limit.What.{What}
use Rattle.doc_passes.specs.declared.limit.What.TheVariants.{Groups, Points, Hops, Reporters, Script, Closings}
use Rattle.doc_refusals.specs.declared.doc_error.DocError.{DocError}
use Rattle.doc_refusals.specs.Refusals.{Refusal, not_json, bad_shape, above_limit, out_of_range, repeated_name, unknown_name, refused_function, refused_links, refused_paths, refused_tree, not_owner, refusal_of}

-- ---- a path: a slash and the key or the place for each step; the root is a slash alone

abbrev pub step_text : PathStep → List ℕ
step_text (Key name) = codes "/" ++ word name
step_text (Index place) = codes "/" ++ decimal place

abbrev pub path_text : List PathStep → List ℕ
path_text [] = codes "/"
path_text (step ∷ steps) = flat_map step_text (step ∷ steps)

-- ---- what is counted

abbrev pub what_text : What → List ℕ
what_text Groups = codes "groups"
what_text Points = codes "points"
what_text Hops = codes "hops"
what_text Reporters = codes "reporters"
what_text Script = codes "script"
what_text Closings = codes "closings"

-- ---- causes; a part that a cause does not have is 0

abbrev pub function_cause : FunctionFault → List ℕ
function_cause Empty = codes "1 point 0"
function_cause NotFromZero = codes "2 point 0"
function_cause (ShareNotRising at) = codes "3 point " ++ decimal at
function_cause (ShareOverTop at) = codes "4 point " ++ decimal at
function_cause (AmountFalling at) = codes "5 point " ++ decimal at
function_cause (AmountOverMax at) = codes "6 point " ++ decimal at

abbrev pub topology_cause : TopologyFault → List ℕ
topology_cause (TooManyLinks count) = codes "1 link 0"
topology_cause (RepeatedLink link) = codes "2 link " ++ decimal link
topology_cause (SelfLink link) = codes "3 link " ++ decimal link
topology_cause (CapacityOverMax link) = codes "4 link " ++ decimal link

-- a place of a group, and a path of it
abbrev pub path_place : ℕ → ℕ → ℕ → List ℕ
path_place group place path =
    codes " group " ++ decimal group ++ codes " place " ++ decimal place ++ codes " path "
    ++ decimal path

abbrev pub path_cause : PathFault → List ℕ
path_cause (TooManyPathGroups group) = codes "1" ++ path_place group 0 0
path_cause (NoPath group place) = codes "2" ++ path_place group place 0
path_cause (TooManyPaths group place) = codes "3" ++ path_place group place 0
path_cause (TooManyHops group place path) = codes "4" ++ path_place group place path
path_cause (WeightRange group place path) = codes "5" ++ path_place group place path
path_cause (BrokenPath group place path) = codes "6" ++ path_place group place path
path_cause (RepeatedHop group place path) = codes "7" ++ path_place group place path

abbrev pub tree_cause : TreeFault → List ℕ
tree_cause (EmptyNode node) = codes "1 node " ++ decimal node
tree_cause (TooManyTasks count) = codes "2 node 0"

-- ---- the line

abbrev pub refusal_text : Refusal → List ℕ
refusal_text not_json = codes "1 not json"
refusal_text (bad_shape steps) = codes "2 shape at " ++ path_text steps
refusal_text (above_limit what count) =
    codes "3 limit " ++ what_text what ++ codes " " ++ decimal count
refusal_text (out_of_range steps) = codes "4 range at " ++ path_text steps
refusal_text (repeated_name steps) = codes "5 repeated name at " ++ path_text steps
refusal_text (unknown_name steps) = codes "6 unknown name at " ++ path_text steps
refusal_text (refused_function refused) =
    codes "7 function at " ++ path_text refused.path ++ codes " cause "
    ++ function_cause refused.cause
refusal_text (refused_links cause) = codes "8 topology cause " ++ topology_cause cause
refusal_text (refused_paths cause) = codes "9 path cause " ++ path_cause cause
refusal_text (refused_tree cause) = codes "10 tree cause " ++ tree_cause cause
refusal_text (not_owner entry) = codes "11 not owner at entry " ++ decimal entry

unfoldable pub refusal_line : Refusal → List ℕ
refusal_line refusal = codes "refused " ++ refusal_text refusal ++ codes "\n"

-- the line of an error, where it is a refusal
abbrev pub error_line : DocError → Option (List ℕ)
error_line error = option_map refusal_line (refusal_of error)

-- there is a refusal, and its text comes behind what stood before
abbrev pub AddsText : Option Refusal → List ℕ → List ℕ → Type 0
AddsText None before after = ⊥
AddsText (Some refusal) before after = after ≡ before ++ refusal_text refusal
