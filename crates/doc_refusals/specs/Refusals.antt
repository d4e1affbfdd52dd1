-- Why a document is refused, and what of it the code answers.
use Rattle.std.specs.Prelude.{◌≡◌, ℕ, List, Option, Some, None}
use Rattle.wan_topology.specs.declared.fault.TopologyFault.{TopologyFault}
use Rattle.path_groups.specs.declared.fault.PathFault.{PathFault}
use Rattle.tree_spec.specs.declared.fault.TreeFault.{TreeFault}
use Rattle.raw_document.specs.declared.doc_path.PathStep.{PathStep}
use Rattle.raw_document.specs.declared.doc_path.Fault.{Fault}
use Rattle.raw_document.specs.declared.doc_path.Fault.TheVariants as faults
use Rattle.doc_passes.specs.declared.limit.What.{What}
use Rattle.cluster_parts.specs.declared.build_error.BuildError.{BuildError}
use Rattle.cluster_parts.specs.declared.build_error.BuildError.TheVariants as builds
use Rattle.cluster_parts.specs.Functions.{RefusedFunction}
use Rattle.doc_refusals.specs.declared.doc_error.DocError.{DocError}
use Rattle.doc_refusals.specs.declared.doc_error.DocError.TheVariants as errors

-- the refusals, in the order of their numbers
pub data Refusal : Type 0 where
  not_json : Refusal
  bad_shape : List PathStep → Refusal
  above_limit : What → ℕ → Refusal
  out_of_range : List PathStep → Refusal
  repeated_name : List PathStep → Refusal
  unknown_name : List PathStep → Refusal
  refused_function : RefusedFunction → Refusal
  refused_links : TopologyFault → Refusal
  refused_paths : PathFault → Refusal
  refused_tree : TreeFault → Refusal
  not_owner : ℕ → Refusal

-- the refusal that an error is, if it is one
abbrev pub refusal_of : DocError → Option Refusal
refusal_of errors.NotJson = Some not_json
refusal_of (errors.Shape path) = Some (bad_shape path.steps.items)
refusal_of (errors.Limit what count) = Some (above_limit what count)
refusal_of (errors.Range path) = Some (out_of_range path.steps.items)
refusal_of (errors.RepeatedName path) = Some (repeated_name path.steps.items)
refusal_of (errors.UnknownName path) = Some (unknown_name path.steps.items)
refusal_of (errors.Function path cause) =
    Some (refused_function (record { path = path.steps.items; cause = cause }))
refusal_of (errors.Topology cause) = Some (refused_links cause)
refusal_of (errors.Path cause) = Some (refused_paths cause)
refusal_of (errors.Tree cause) = Some (refused_tree cause)
refusal_of (errors.NotOwner entry) = Some (not_owner entry)
refusal_of errors.OutOfMemory = None

-- a fault of one pass as a refusal
abbrev pub IsRefusalBy : (List PathStep → Refusal) → Fault → DocError → Type 0
IsRefusalBy number faults.OutOfMemory error = error ≡ errors.OutOfMemory
IsRefusalBy number (faults.At path) error = refusal_of error ≡ Some (number path.steps.items)

-- a refused function as a refusal
abbrev pub IsFunctionRefusal : BuildError → DocError → Type 0
IsFunctionRefusal builds.OutOfMemory error = error ≡ errors.OutOfMemory
IsFunctionRefusal (builds.Refused path cause) error =
    refusal_of error ≡ Some (refused_function (record { path = path.steps.items; cause = cause }))
