use Rattle.std.proofs.Common.{◌≡◌, ◌&&◌, not, nat_lt, ℕ, Bool, List, Some, ap, ap₂, sym, subst, ◌∙◌}
use Rattle.bwe_specs.specs.DocumentLimits.{limits_of}
use Rattle.tree_spec.specs.declared.fault.TreeFault.TheVariants.{TooManyTasks}
use Rattle.tree_spec.specs.Childless.{idle_tree}
use Rattle.tree_spec.specs.Numbering.{numbered_clusters}
use Rattle.tree_spec.specs.States.{ClusterState}
use Rattle.tree_spec.specs.Walk.{tree_fault}
use Rattle.doc_parts.specs.Passing.{Makes}
use Rattle.doc_parts.specs.Document.{unless}
use Rattle.doc_refusals.specs.Refusals.{refused_tree}
use Rattle.doc_parts.specs.TooMany.{clusters_fault}
use Rattle.doc_parts.proofs.TooManyFacts.{many_tasks, makes_tree}
use Rattle.plan_doc.proofs.document.build_tree.Goals as goal

abbrev passes : ℕ → ℕ → Bool → Bool
passes most tasks childless = nat_lt most tasks && not childless

pub returns-then-has_too_many : goal.returns-then-has_too_many
returns-then-has_too_many c =
    let raw = c.requires.parts.0 in
    let are = c.requires.parts.1 in
    let tasks = c.requires.parts.3 in
    let most = (limits_of c.args.version).tasks in
    ap (unless refused_tree) (
    ap (λ (states : List ClusterState). clusters_fault most (numbered_clusters states)) are.clusters
    ∙ many_tasks raw.top raw.groups most (ap₂ (passes most) (sym tasks) (sym are.childless) ∙ sym c.has_too_many.ensures ∙ c.if-has_too_many.true)
    ∙ ap (λ n. Some (TooManyTasks n)) (sym tasks)
    )

pub returns : goal.returns
returns c =
    let raw = c.requires.parts.0 in
    let are = c.requires.parts.1 in
    let tasks = c.requires.parts.3 in
    let most = (limits_of c.args.version).tasks in
    subst (λ (states : List ClusterState). Makes c.tree_of.result refused_tree (clusters_fault most (numbered_clusters states)) (λ tree. tree ≡ idle_tree c.args.parts.spec)) (sym are.clusters) (
    makes_tree raw.top raw.groups most c.tree_of.result (λ tree. tree ≡ idle_tree c.args.parts.spec)
    (ap₂ (passes most) (sym tasks) (sym are.childless) ∙ sym c.has_too_many.ensures ∙ c.if-has_too_many.false)
    (subst (λ (states : List ClusterState). Makes c.tree_of.result refused_tree (tree_fault (numbered_clusters states)) (λ tree. tree ≡ idle_tree c.args.parts.spec)) are.clusters c.tree_of.ensures)
    )
