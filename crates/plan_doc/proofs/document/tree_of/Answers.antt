use Rattle.std.proofs.Common.{◌≡◌, ◌<◌, ℕ, Bool, true, false, not, length, refl, ap, sym, subst, ◌∙◌, arith}
use Rattle.std.specs.Prelude.{All, IsTrue}
use Rattle.tree_spec.specs.Asked.{HasClusterTop}
use Rattle.tree_spec.specs.Numbering.{numbered_clusters}
use Rattle.tree_spec.specs.Trees.{task_numbers}
use Rattle.tree_spec.specs.Walk.{walk}
use Rattle.doc_parts.proofs.TreeFacts.{have_top, have_weights}
use Rattle.doc_parts.proofs.NodeFacts.{length-walk, length-task_numbers}
use Rattle.plan_doc.proofs.document.tree_of.Goals as goal

is_below : {n m : ℕ} (bound : ℕ) → n ≡ m → m < bound → n < bound
is_below bound e below = omega arith

holds : (b : Bool) → not b ≡ false → IsTrue b
holds true e = refl
holds false e = absurd cc

pub build-requires-clause-tops : goal.build-requires-clause-tops
build-requires-clause-tops c =
    let raw = c.requires.parts.0 in
    let are = c.requires.parts.1 in
    let specs = c.args.parts.spec.clusters.items in
    subst (λ top. All (HasClusterTop top) specs) (sym are.top) (have_top raw.top specs raw.groups are.clusters)

pub build-requires-clause-weights : goal.build-requires-clause-weights
build-requires-clause-weights c =
    let raw = c.requires.parts.0 in
    let are = c.requires.parts.1 in
    have_weights raw.top c.args.parts.spec.clusters.items raw.groups c.requires.parts.2.weights are.clusters

pub build-requires-clause-nodes : goal.build-requires-clause-nodes
build-requires-clause-nodes c =
    let raw = c.requires.parts.0 in
    let are = c.requires.parts.1 in
    is_below 4294967296 (ap (λ states. length (walk (numbered_clusters states))) are.clusters ∙ length-walk raw.top raw.groups) (are.numbered (holds c.args.parts.numbered c.if-not-parts.false))

pub build-requires-clause-tasks : goal.build-requires-clause-tasks
build-requires-clause-tasks c =
    let raw = c.requires.parts.0 in
    let are = c.requires.parts.1 in
    is_below 18446744073709551616 (ap (λ states. length (task_numbers (numbered_clusters states))) are.clusters ∙ length-task_numbers raw.top raw.groups) c.requires.parts.3
