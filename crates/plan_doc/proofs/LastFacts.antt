-- The last refusals are those of the document where no earlier pass refuses.
use Rattle.std.proofs.Common.{◌≡◌, ℕ, Option, Some, None, Result, Ok, Err, ap, sym}
use Rattle.std.specs.Prelude.{IfSome, ⊤}
use Rattle.wan_topology.specs.Network.{Network, network_of}
use Rattle.path_groups.specs.declared.fault.PathFault.{PathFault}
use Rattle.path_groups.specs.Faults.{plan_fault}
use Rattle.tree_spec.specs.declared.fault.TreeFault.{TreeFault}
use Rattle.raw_document.specs.Raw as raw
use Rattle.doc_names.specs.NameTexts.{NameTexts}
use Rattle.doc_names.specs.Owners.{not_owned}
use Rattle.doc_passes.specs.Numbers.{Numbers}
use Rattle.doc_refusals.specs.Refusals.{Refusal, refused_paths, refused_tree, not_owner}
use Rattle.cluster_parts.specs.Functions.{refused_in_groups}
use Rattle.doc_parts.specs.Document.{◌>>=◌, unless, links_of, network_fault, policy_fault, document_by}
use Rattle.plan_doc.specs.Last.{last_refusals}

-- a refusal of the last passes is one of whatever ends them
followed : {A : Type 0} (named : Option Refusal) (paths : Option PathFault) (tree : Option TreeFault) (stranger : Option ℕ) (ending : ⊤ → Result A Refusal)
    → IfSome named (λ refusal. last_refusals paths tree stranger ≡ Err refusal)
    → IfSome named (λ refusal. (unless refused_paths paths >>= (λ (u : ⊤). unless refused_tree tree >>= (λ (u : ⊤). unless not_owner stranger >>= ending))) ≡ Err refusal)
followed None paths tree stranger ending refused = refused
followed (Some refusal) (Some cause) tree stranger ending refused = let same : refused_paths cause ≡ refusal = cc in ap Err same
followed (Some refusal) None (Some cause) stranger ending refused = let same : refused_tree cause ≡ refusal = cc in ap Err same
followed (Some refusal) None None (Some entry) ending refused = let same : not_owner entry ≡ refusal = cc in ap Err same
followed (Some refusal) None None None ending refused = absurd cc

pub last_refused : (raw : raw.Raw) (names : NameTexts) (numbers : Numbers) (named : Option Refusal) (network : Network) → refused_in_groups raw.top raw.groups ≡ None → network_fault raw ≡ None → network ≡ network_of (links_of raw)
    → IfSome named (λ refusal. last_refusals (plan_fault network numbers.groups) (policy_fault raw) (not_owned numbers.task_owners numbers.link_owners 0 numbers.script) ≡ Err refusal)
    → IfSome named (λ refusal. document_by raw names numbers ≡ Err refusal)
unfolding document_by
last_refused raw names numbers named network functions links topology refused =
    rw (functions, links, sym topology)
    (followed named (plan_fault network numbers.groups) (policy_fault raw) (not_owned numbers.task_owners numbers.link_owners 0 numbers.script) _ refused)
