use Rattle.std.proofs.Common.{ap, ◌∙◌}
use Rattle.std.proofs.lemmas.Result.{IfOk-weaker}
use Rattle.doc_names.specs.declared.Names.{Names}
use Rattle.doc_names.specs.NameTexts.{texts_of}
use Rattle.plan_doc.specs.Plans.{plan_in}
use Rattle.line_answers.specs.Replies.{check_reply}
use Rattle.line_answers.proofs.check_line.check_document.Goals as goal

pub returns : goal.returns
returns c =
    let document = c.args.document in
    let script = document.script.items in
    let held = c.in_ok-opened.opened in
    let opened = c.in_ok-opened.ensures in
    let same = ap (λ plan. check_reply (texts_of held.names) plan script held.closings.items) opened.plan
    ∙ ap (λ (names : Names). check_reply (texts_of names) (plan_in document) script held.closings.items) opened.names
    ∙ ap (λ closings. check_reply (texts_of document.names) (plan_in document) script closings.items) opened.closings in
    IfOk-weaker c.check_opened.result _ _ (λ answer is. is script opened.absorbed ∙ same) c.check_opened.ensures
