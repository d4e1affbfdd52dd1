use Rattle.std.proofs.Common.{◌∙◌, sym}
use Rattle.std.proofs.lemmas.Bool.{not-true, not-false}
use Rattle.path_groups.proofs.Chains.{leads-elsewhere, leads-on, leads-end}
use Rattle.path_groups.proofs.check.leads.Goals as goal

pub returns-then-ne : goal.returns-then-ne
returns-then-ne c =
    sym (c.loop-link.invariant.1 ∙ leads-elsewhere c.args.topology.now c.args.to.now c.args.links.now c.loop-link.link-index c.loop-link.site.now c.from.result.now c.loop-link-test.true c.from.ensures
    (not-true _ (sym c.ne.ensures ∙ c.if-ne.true)))

pub loop-link-preserved : goal.loop-link-preserved
loop-link-preserved c = (
  c.to-site.utf8,
  c.loop-link.invariant.1 ∙ leads-on c.args.topology.now c.args.to.now c.args.links.now c.loop-link.link-index c.loop-link.site.now c.from.result.now c.to-site.result.now c.loop-link-test.true c.from.ensures c.to-site.ensures
      (not-false _ (sym c.ne.ensures ∙ c.if-ne.false)),
)

pub returns : goal.returns
returns c =
    c.eq.ensures ∙ sym (c.loop-link.invariant.1 ∙ leads-end c.args.topology.now c.args.to.now c.args.links.now c.loop-link.link-index c.loop-link.site.now c.loop-link-test.false)
