use Rattle.std.proofs.Common.{◌∙◌, ap, min}
use Rattle.std.proofs.lemmas.Result.{IfOk-weaker}
use Rattle.doc_names.specs.NameTexts.{texts_of}
use Rattle.line_answers.proofs.Together.{levels-lesser}
use Rattle.line_answers.proofs.levels_line.opened_levels_on_threads.Goals as goal

pub returns : goal.returns
returns g c =
    let matched = c.matched_tree-tree.ensures in
    let tree = c.matched_tree-tree.result.0 in
    let answered = rw (matched.names) at c.levels_answer-answer.ensures in
    let lesser = c.min-share.ensures ∙ ap (min c.args.share) c.top.ensures.top in
    let same = levels-lesser c.args.share c.min-share.result (texts_of c.args.opened.names) tree c.args.opened.allocator.reported.tree lesser matched.tree in
    IfOk-weaker c.levels_answer-answer.result _ _ (λ answer is. is ∙ same) answered
