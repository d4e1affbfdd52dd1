use Rattle.std.proofs.Common.{ap, ◌∙◌}
use Rattle.std.proofs.lemmas.Result.{IfOk-weaker}
use Rattle.doc_names.specs.declared.Names.{Names}
use Rattle.doc_names.specs.NameTexts.{texts_of}
use Rattle.plan_doc.specs.Plans.{plan_in}
use Rattle.policy_tree.specs.Trees.{demand_in}
use Rattle.line_answers.specs.Replies.{levels_reply}
use Rattle.line_answers.proofs.Together.{levels-after}
use Rattle.line_answers.proofs.levels_line.document_levels.Goals as goal

pub returns : goal.returns
returns c =
    let document = c.args.document in
    let opened = c.in_ok-opened.ensures in
    let allocator = c.in_ok-opened.opened.allocator in
    let tree = allocator.reported.tree in
    let same = ap (λ (names : Names). levels_reply c.args.share (texts_of names) tree.top (demand_in tree) tree.clusters) opened.names
    ∙ levels-after c.args.share (texts_of document.names) allocator.reported allocator.groups (plan_in document) document.script.items opened.absorbed opened.plan in
    IfOk-weaker c.opened_levels.result _ _ (λ answer is. is ∙ same) c.opened_levels.ensures
