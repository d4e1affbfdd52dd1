use Rattle.std.proofs.Common.{ap, ◌∙◌}
use Rattle.doc_names.specs.declared.Names.{Names}
use Rattle.doc_names.specs.NameTexts.{texts_of}
use Rattle.plan_doc.specs.Plans.{plan_in}
use Rattle.solve_reply.specs.SolveReply.{table_reply}
use Rattle.line_answers.proofs.solve_line.solve_document.Goals as goal

pub returns : goal.returns
returns c =
    let document = c.args.document in
    let script = document.script.items in
    let opened = c.in_ok-opened.ensures in
    let same = ap (λ plan. table_reply (texts_of c.in_ok-opened.opened.names) plan script) opened.plan
    ∙ ap (λ (names : Names). table_reply (texts_of names) (plan_in document) script) opened.names in
    c.in_ok-answer.ensures script opened.absorbed ∙ same
