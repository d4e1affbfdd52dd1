use Rattle.std.proofs.Common.{◌∙◌}
use Rattle.board.proofs.CorePosts.{first_cut, second_cut}
use Rattle.board.proofs.steps.post.Goals as goal

pub returns-in_err-publish-clause-cut : goal.returns-in_err-publish-clause-cut
returns-in_err-publish-clause-cut g c =
    first_cut c.from_residual.result c.args.state.now c.publish.new.self (g.M.Table.Posted.covers c.args.table) c.publish.ensures.below c.publish.ensures.within c.publish.ensures.log c.in_err-publish.ensures.refused

pub returns-clause-cut : goal.returns-clause-cut
returns-clause-cut g c =
    second_cut c.post_next.result c.args.state.now c.publish.new.self c.post_next.new.self (g.M.Table.Posted.covers c.args.table) c.publish.ensures.below c.publish.ensures.within
    (c.post_next.ensures.log ∙ c.publish.ensures.log) c.in_ok-publish.ensures.ok c.post_next.ensures.refused
