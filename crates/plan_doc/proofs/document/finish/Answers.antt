use Rattle.std.proofs.Common.{length, ap, sym, subst, ◌∙◌}
use Rattle.bwe_specs.specs.Given.{AreInRange, groups_of}
use Rattle.doc_names.specs.NameTexts.{texts_of}
use Rattle.doc_passes.specs.NumbersView.{numbers_view}
use Rattle.doc_parts.specs.Document.{accepted}
use Rattle.doc_refusals.specs.Refusals.{refusal_of}
use Rattle.doc_parts.proofs.PassFacts.{document_is}
use Rattle.plan_doc.proofs.PlanFacts.{length-capacities}
use Rattle.plan_doc.proofs.LastFacts.{last_refused}
use Rattle.plan_doc.proofs.DocumentFacts.{is_document, usable}
use Rattle.plan_doc.proofs.GatheringFacts.{idle_tree_is, fault_is}
use Rattle.plan_doc.proofs.document.finish.Goals as goal

pub plan_and_tree-requires-clause-in_range : goal.plan_and_tree-requires-clause-in_range
plan_and_tree-requires-clause-in_range c =
    let raw = c.requires.gathered.0 in
    let is = c.requires.gathered.1 in
    let same = sym (length-capacities raw.links) ∙ sym (ap (λ t. length t.capacities) is.parts.topology) in
    subst (λ n. AreInRange n (groups_of c.args.gathered.named.numbers.groups.items)) same is.names.passed.each_numbered.in_range

pub returns-in-Err-clause-exact : goal.returns-in-Err-clause-exact
returns-in-Err-clause-exact c raw is =
    let named = c.args.gathered.named in
    let built = c.args.gathered.built in
    let parts = is.parts in
    let found = rw (c.deref.ensures.value, c.deref-2.ensures.value, c.deref-3.ensures.value) at c.find_not_owned-stranger.ensures in
    let refused = rw (fault_is raw built.tree parts.tree c.args.gathered.version is.version, found) at c.in-Err.ensures.refused in
    rw is.names.left
    (last_refused raw (texts_of named.names) (numbers_view named.numbers) (refusal_of c.in-Err.error) built.topology parts.functions parts.links parts.topology refused)

pub returns-in-Ok-clause-exact : goal.returns-in-Ok-clause-exact
returns-in-Ok-clause-exact c raw is =
    let named = c.args.gathered.named in
    let built = c.args.gathered.built in
    let parts = is.parts in
    let made = c.in-Ok.ensures.made in
    let fault = sym (fault_is raw built.tree parts.tree c.args.gathered.version is.version) ∙ made.0.1 in
    let found = rw (c.deref.ensures.value, c.deref-2.ensures.value, c.deref-3.ensures.value) at c.find_not_owned-stranger.ensures in
    let tree = made.3 ∙ idle_tree_is raw built.tree parts.tree (texts_of named.names) (numbers_view named.numbers) in (
      accepted raw (texts_of named.names) (numbers_view named.numbers),
      is.names.left ∙ document_is raw (texts_of named.names) (numbers_view named.numbers) built.topology parts.functions parts.links parts.topology made.0.0 fault (sym found ∙ made.0.2),
      is_document raw c.args.gathered.version named.names named.numbers c.in-Ok.tree built.topology c.in-Ok.plan is.version tree parts.topology made.1,
    )

pub returns-in-Ok-clause-usable : goal.returns-in-Ok-clause-usable
returns-in-Ok-clause-usable c =
    let raw = c.requires.gathered.0 in
    let is = c.requires.gathered.1 in
    let named = c.args.gathered.named in
    let built = c.args.gathered.built in
    let made = c.in-Ok.ensures.made in
    let found = rw (c.deref.ensures.value, c.deref-2.ensures.value, c.deref-3.ensures.value) at c.find_not_owned-stranger.ensures in
    let tree = made.3 ∙ idle_tree_is raw built.tree is.parts.tree (texts_of named.names) (numbers_view named.numbers) in
    usable _ raw (numbers_view named.numbers) is.names.passed
    (is_document raw c.args.gathered.version named.names named.numbers c.in-Ok.tree built.topology c.in-Ok.plan is.version tree is.parts.topology made.1)
    made.2 (sym found ∙ made.0.2)
