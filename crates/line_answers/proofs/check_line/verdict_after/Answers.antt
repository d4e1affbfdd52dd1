use Rattle.std.proofs.Common.{ap, ◌∙◌}
use Rattle.std.proofs.lemmas.Result.{IfOk-weaker}
use Rattle.bwe_specs.specs.RightClosings.{verdict}
use Rattle.plain_table.proofs.Fitted.{wan-after}
use Rattle.line_answers.proofs.check_line.verdict_after.Goals as goal

pub returns : goal.returns
returns c =
    let reported = c.args.allocator.reported in
    let groups = c.args.allocator.groups in
    let parts = c.into_parts-tree.ensures in
    let judged = rw (c.rematch.ensures, parts.tree, parts.network, parts.plan) at c.check-verdict.ensures.verdict in
    IfOk-weaker c.check-verdict.result _ _ (λ found e. λ script after. e ∙ ap (λ wan. verdict wan c.args.closings.now) (wan-after reported groups script after)) judged
