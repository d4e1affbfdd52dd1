use Rattle.std.proofs.Common.{◌∙◌}
use Rattle.link_sums.proofs.Opened.{IsSummedOver-open}
use Rattle.link_sums.proofs.sums.LinkSums.open.Goals as goal

pub returns-clause-summed : goal.returns-clause-summed
returns-clause-summed c =
    IsSummedOver-open c.args.topology.now c.args.plan.now c.open.ensures.plan c.requires.built_on c.in_ok-amounts.amounts c.in_ok-loads.loads.items
    c.in_ok-amounts.ensures.rows c.in_ok-amounts.ensures.none (c.in_ok-loads.ensures.length ∙ c.links.ensures.count) c.in_ok-loads.ensures.none
