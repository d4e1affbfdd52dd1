use Rattle.std.proofs.Common.{◌∙◌, sym}
use Rattle.bwe_specs.specs.Distribution.{children_sum}
use Rattle.policy_tree.proofs.Inverses.{inner-is}
use Rattle.push_down.proofs.Agreement.{common_share-by_sum}
use Rattle.push_down.proofs.share.share_for.Goals as goal

pub returns-clause-share : goal.returns-clause-share
returns-clause-share g c =
    c.last_share_within-share.ensures.last ∙ sym (common_share-by_sum c.args.top (g.F.Children.values c.args.children.now) c.args.amount)

pub returns-clause-upto : goal.returns-clause-upto
returns-clause-upto g c =
    let found = c.last_share_within-share in
    (inner-is (children_sum (g.F.Children.values c.args.children.now)) c.args.amount c.args.top found.result found.ensures.meaning found.ensures.last).upto

pub returns-clause-fits : goal.returns-clause-fits
returns-clause-fits g c =
    let found = c.last_share_within-share in
    (inner-is (children_sum (g.F.Children.values c.args.children.now)) c.args.amount c.args.top found.result found.ensures.meaning found.ensures.last).fits
