-- The last refusals of a document, of its path groups, its tree and its reports' owners.
use Rattle.std.specs.Prelude.{◌≡◌, ℕ, Option, None, Result, ⊤}
use Rattle.path_groups.specs.declared.fault.PathFault.{PathFault}
use Rattle.tree_spec.specs.declared.fault.TreeFault.{TreeFault}
use Rattle.doc_refusals.specs.Refusals.{Refusal, refused_paths, refused_tree, not_owner}
use Rattle.doc_parts.specs.Document.{◌>>=◌, unless}

-- the refusals 9 to 11 where these are the faults
abbrev pub last_refusals : Option PathFault → Option TreeFault → Option ℕ → Result ⊤ Refusal
last_refusals paths tree stranger = do
  paths_ok ← unless refused_paths paths
  tree_ok ← unless refused_tree tree
  unless not_owner stranger

-- there is none of these faults
abbrev pub AreFaultless : Option PathFault → Option TreeFault → Option ℕ → Type 0
AreFaultless paths tree stranger = (paths ≡ None) × (tree ≡ None) × (stranger ≡ None)
