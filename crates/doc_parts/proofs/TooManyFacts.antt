-- Where more tasks than a document may have are refused.
use Rattle.std.proofs.Common.{◌≡◌, ℕ, Bool, true, false, ◌&&◌, not, List, length, map, Option, Some, None, Result, Ok, Err, refl, ap, ap₂, ◌∙◌, if◌then◌else◌, nat_lt}
use Rattle.std.specs.Prelude.{IfSome, position}
use Rattle.std.specs.Option.{option_or}
use Rattle.std.proofs.lemmas.Bool.{and_parts, not-true}
use Rattle.bwe_specs.proofs.Lists.{neither}
use Rattle.bwe_specs.specs.Tree.{Cluster}
use Rattle.wan_topology.specs.declared.fault.TopologyFault.TheVariants.{TooManyLinks}
use Rattle.wan_topology.specs.Network.{Link}
use Rattle.wan_topology.specs.Faults.{topology_fault}
use Rattle.tree_spec.specs.declared.fault.TreeFault.{TreeFault}
use Rattle.tree_spec.specs.declared.fault.TreeFault.TheVariants.{TooManyTasks}
use Rattle.tree_spec.specs.Numbering.{numbered_clusters}
use Rattle.tree_spec.specs.Trees.{task_numbers}
use Rattle.tree_spec.specs.Walk.{walk, is_childless, fault_by, tree_fault}
use Rattle.raw_document.specs.Raw as raw
use Rattle.doc_passes.specs.Counts.{task_count}
use Rattle.doc_refusals.specs.declared.doc_error.DocError.{DocError}
use Rattle.doc_parts.specs.Passing.{Makes}
use Rattle.cluster_parts.specs.Childless.{has_childless}
use Rattle.doc_parts.specs.Document.{unless}
use Rattle.doc_refusals.specs.Refusals.{Refusal, refused_tree, refusal_of}
use Rattle.doc_parts.specs.TooMany.{links_fault, tasks_fault, clusters_fault}
use Rattle.cluster_parts.specs.TreeParts.{cluster_part}
use Rattle.cluster_parts.proofs.ChildlessFacts.{no_childless, childless_none}
use Rattle.doc_parts.proofs.NodeFacts.{length-task_numbers}

-- ---- links

pub many_links : (most : ℕ) (links : List Link) → nat_lt most (length links) ≡ true → links_fault most links ≡ Some (TooManyLinks (length links))
unfolding links_fault
many_links most links many = ap (λ (b : Bool). if b then Some (TooManyLinks (length links)) else topology_fault links) many

pub few_links : (most : ℕ) (links : List Link) → nat_lt most (length links) ≡ false → links_fault most links ≡ topology_fault links
unfolding links_fault
few_links most links few = ap (λ (b : Bool). if b then Some (TooManyLinks (length links)) else topology_fault links) few

-- ---- tasks

by_count : (most count : ℕ) → nat_lt most count ≡ true → option_or (fault_by None count) (tasks_fault most count) ≡ Some (TooManyTasks count)
by_count most count many = go (nat_lt 1_048_576 count) where
  go : (over : Bool) → option_or (if over then Some (TooManyTasks count) else None) (tasks_fault most count) ≡ Some (TooManyTasks count)
  go true = refl
  go false = ap (λ (b : Bool). if b then Some (TooManyTasks count) else None) many

-- a fault of the tree is one of the clusters, of which there may be fewer
pub tree_refused : (most : ℕ) (clusters : List Cluster) (fault : TreeFault) → tree_fault clusters ≡ Some fault → clusters_fault most clusters ≡ Some fault
unfolding clusters_fault
tree_refused most clusters fault is = ap (λ found. option_or found (tasks_fault most (length (task_numbers clusters)))) is

pub no_tree_fault : (most : ℕ) (clusters : List Cluster) → clusters_fault most clusters ≡ None → tree_fault clusters ≡ None
unfolding clusters_fault
no_tree_fault most clusters none = (neither (tree_fault clusters) (tasks_fault most (length (task_numbers clusters))) none).0

module _ (top : ℕ) (groups : List raw.Group) where
  abbrev clusters : List Cluster
  clusters = numbered_clusters (map (cluster_part top) groups)

  pub many_tasks : (most : ℕ) → (nat_lt most (task_count groups) && not (has_childless groups)) ≡ true → clusters_fault most clusters ≡ Some (TooManyTasks (task_count groups))
  unfolding clusters_fault
  many_tasks most many =
      let both = and_parts (nat_lt most (task_count groups)) (not (has_childless groups)) many in
      ap₂ (λ (found : Option ℕ) (count : ℕ). option_or (fault_by found count) (tasks_fault most count))
      (no_childless top groups (not-true (has_childless groups) both.1)) (length-task_numbers top groups)
      ∙ by_count most (task_count groups) both.0

  no_node : (found : Option ℕ) (count : ℕ) → fault_by found count ≡ None → found ≡ None
  no_node (Some node) count none = absurd (cc)
  no_node None count none = refl

  few : (over childless : Bool) → (over && not childless) ≡ false → childless ≡ false → over ≡ false
  few true true e none = absurd (cc)
  few true false e none = absurd (cc)
  few false childless e none = refl

  pub few_tasks : (most : ℕ) → (nat_lt most (task_count groups) && not (has_childless groups)) ≡ false → tree_fault clusters ≡ None → clusters_fault most clusters ≡ None
  unfolding clusters_fault
  few_tasks most passes none =
      let childless = childless_none top groups (no_node (position is_childless (walk clusters)) (length (task_numbers clusters)) none) in
      ap₂ (λ (found : Option TreeFault) (count : ℕ). option_or found (tasks_fault most count)) none (length-task_numbers top groups)
      ∙ ap (λ (b : Bool). if b then Some (TooManyTasks (task_count groups)) else None) (few (nat_lt most (task_count groups)) (has_childless groups) passes childless)

  -- what is made where the number of tasks is not refused
  pub makes_tree : {X : Type 0} (most : ℕ) (result : Result X DocError) (IsMade : X → Type 0) → (nat_lt most (task_count groups) && not (has_childless groups)) ≡ false → Makes result refused_tree (tree_fault clusters) IsMade
      → Makes result refused_tree (clusters_fault most clusters) IsMade
  makes_tree most (Ok made) IsMade passes is = (few_tasks most passes is.0, is.1)
  makes_tree most (Err error) IsMade passes is = go (tree_fault clusters) refl (refusal_of error) is where
    go : (found : Option TreeFault) → tree_fault clusters ≡ found → (named : Option Refusal) → IfSome named (λ refusal. unless refused_tree found ≡ Err refusal)
        → IfSome named (λ refusal. unless refused_tree (clusters_fault most clusters) ≡ Err refusal)
    go found same None told = told
    go None same (Some refusal) told = absurd (cc)
    go (Some fault) same (Some refusal) told = ap (unless refused_tree) (tree_refused most clusters fault same) ∙ told
