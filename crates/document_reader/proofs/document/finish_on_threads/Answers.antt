use Rattle.std.proofs.Common.{length, ap, sym, subst, ◌∙◌}
use Rattle.std.proofs.lemmas.Result.{err_from_is_err_and}
use Rattle.bwe_specs.specs.Given.{AreInRange, groups_of}
use Rattle.doc_names.specs.NameTexts.{texts_of}
use Rattle.doc_passes.specs.NumbersView.{numbers_view}
use Rattle.doc_parts.specs.Document.{accepted}
use Rattle.doc_refusals.specs.Refusals.{refusal_of}
use Rattle.plan_doc.proofs.PlanFacts.{length-capacities}
use Rattle.doc_parts.proofs.PassFacts.{paths_refused, tree_refused, owners_refused, document_is}
use Rattle.plan_doc.proofs.DocumentFacts.{is_document, usable}
use Rattle.plan_doc.proofs.GatheringFacts.{idle_tree_is, fault_is}
use Rattle.document_reader.proofs.document.finish_on_threads.Goals as goal

pub plan_beside_tree-plan-requires-clause-in_range : goal.plan_beside_tree-plan-requires-clause-in_range
plan_beside_tree-plan-requires-clause-in_range g c κs within =
    let raw = c.requires.gathered.0 in
    let is = c.requires.gathered.1 in
    let same = sym (length-capacities raw.links) ∙ sym (ap (λ t. length t.capacities) is.parts.topology) in
    subst (λ n. AreInRange n (groups_of c.args.gathered.named.numbers.groups.items)) same is.names.passed.each_numbered.in_range

pub returns-in_err-plan-clause-exact : goal.returns-in_err-plan-clause-exact
returns-in_err-plan-clause-exact g c raw is =
    let plan_fails = rw c.in_err-plan.was at c.plan_beside_tree-plan.ensures.plan in
    let named = c.args.gathered.named in
    let parts = is.parts in
    let told = err_from_is_err_and c.from_residual.result c.from_residual.ensures.1 in
    rw (told.1, told.2, is.names.left)
    (paths_refused raw (texts_of named.names) (numbers_view named.numbers) (refusal_of c.in_err-plan.field-0.0) c.args.gathered.built.topology parts.functions parts.links parts.topology plan_fails)

pub returns-in_err-tree-clause-exact : goal.returns-in_err-tree-clause-exact
returns-in_err-tree-clause-exact g c raw is =
    let planned = rw c.in_ok-plan.was at c.plan_beside_tree-plan.ensures.plan in
    let tree_fails = rw c.in_err-tree.was at c.plan_beside_tree-plan.ensures.tree in
    let named = c.args.gathered.named in
    let parts = is.parts in
    let refused = rw (fault_is raw c.args.gathered.built.tree parts.tree c.args.gathered.version is.version) at tree_fails in
    let told = err_from_is_err_and c.from_residual-in_err-tree.result c.from_residual-in_err-tree.ensures.1 in
    rw (told.1, told.2, is.names.left)
    (tree_refused raw (texts_of named.names) (numbers_view named.numbers) (refusal_of c.in_err-tree.field-0.0) c.args.gathered.built.topology parts.functions parts.links parts.topology planned.0 refused)

pub returns-in_err-check_owners-clause-exact : goal.returns-in_err-check_owners-clause-exact
returns-in_err-check_owners-clause-exact g c raw is =
    let planned = rw c.in_ok-plan.was at c.plan_beside_tree-plan.ensures.plan in
    let grown = rw c.in_ok-tree.was at c.plan_beside_tree-plan.ensures.tree in
    let named = c.args.gathered.named in
    let parts = is.parts in
    let tree = sym (fault_is raw c.args.gathered.built.tree parts.tree c.args.gathered.version is.version) ∙ grown.0 in
    let found = rw (c.deref.ensures.value, c.deref-2.ensures.value, c.deref-3.ensures.value) at c.find_not_owned.ensures in
    let refused = rw found at c.in_err-check_owners.ensures in
    let told = err_from_is_err_and c.from_residual-in_err-check_owners.result c.from_residual-in_err-check_owners.ensures.1 in
    rw (told.1, told.2, is.names.left)
    (owners_refused raw (texts_of named.names) (numbers_view named.numbers) (refusal_of c.in_err-check_owners.field-0.0) c.args.gathered.built.topology parts.functions parts.links parts.topology planned.0 tree refused)

pub returns-clause-exact : goal.returns-clause-exact
returns-clause-exact g c raw is =
    let planned = rw c.in_ok-plan.was at c.plan_beside_tree-plan.ensures.plan in
    let grown = rw c.in_ok-tree.was at c.plan_beside_tree-plan.ensures.tree in
    let named = c.args.gathered.named in
    let built = c.args.gathered.built in
    let parts = is.parts in
    let fault = sym (fault_is raw built.tree parts.tree c.args.gathered.version is.version) ∙ grown.0 in
    let found = rw (c.deref.ensures.value, c.deref-2.ensures.value, c.deref-3.ensures.value) at c.find_not_owned.ensures in
    let tree = grown.1 ∙ idle_tree_is raw built.tree parts.tree (texts_of named.names) (numbers_view named.numbers) in (
      accepted raw (texts_of named.names) (numbers_view named.numbers),
      is.names.left ∙ document_is raw (texts_of named.names) (numbers_view named.numbers) built.topology parts.functions parts.links parts.topology planned.0 fault (sym found ∙ c.in_ok-check_owners.ensures.0),
      is_document raw c.args.gathered.version named.names named.numbers c.in_ok-tree.tree built.topology c.in_ok-plan.plan is.version tree parts.topology planned.1.0,
    )

pub returns-clause-usable : goal.returns-clause-usable
returns-clause-usable g c =
    let planned = rw c.in_ok-plan.was at c.plan_beside_tree-plan.ensures.plan in
    let grown = rw c.in_ok-tree.was at c.plan_beside_tree-plan.ensures.tree in
    let raw = c.requires.gathered.0 in
    let is = c.requires.gathered.1 in
    let named = c.args.gathered.named in
    let built = c.args.gathered.built in
    let found = rw (c.deref.ensures.value, c.deref-2.ensures.value, c.deref-3.ensures.value) at c.find_not_owned.ensures in
    let tree = grown.1 ∙ idle_tree_is raw built.tree is.parts.tree (texts_of named.names) (numbers_view named.numbers) in
    usable _ raw (numbers_view named.numbers) is.names.passed
    (is_document raw c.args.gathered.version named.names named.numbers c.in_ok-tree.tree built.topology c.in_ok-plan.plan is.version tree is.parts.topology planned.1.0)
    planned.1.1 (sym found ∙ c.in_ok-check_owners.ensures.0)
