use Rattle.std.proofs.Common.{ap, ◌∙◌}
use Rattle.std.proofs.lemmas.Result.{IfOk-weaker}
use Rattle.line_answers.specs.MadeLines.{summary_reply}
use Rattle.line_answers.proofs.made.summary_on_threads.Goals as goal

pub returns : goal.returns
returns g c =
    let script = c.args.document.script.items in
    let opened = c.in_ok-opened.ensures in
    let same = ap (λ plan. summary_reply c.args.groups c.args.tasks plan script) opened.plan in
    IfOk-weaker c.summary_opened_on_threads.result _ _ (λ answer is. is script opened.absorbed ∙ same) c.summary_opened_on_threads.ensures
