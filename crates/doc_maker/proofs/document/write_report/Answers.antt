use Rattle.std.proofs.Common.{◌+◌, [], ◌∷◌, decimal, ap, ◌∙◌}
use Rattle.json.specs.Token.{number}
use Rattle.raw_document.specs.Words.{word}
use Rattle.doc_maker.specs.Made.{drawn}
use Rattle.doc_maker.proofs.Lists.{wrote, added_as, finally, then}
use Rattle.doc_maker.proofs.document.write_report.Goals as goal

pub returns : goal.returns
unfolding word
returns c =
    then c.end_object.result c.args.out.now c.begin_object.new.self c.end_object.new.self _ _ (wrote c.args.out.now c.begin_object.new.self _ c.in_ok-begin_object.ensures)
    (then c.end_object.result c.begin_object.new.self c.key.new.self c.end_object.new.self _ _ (wrote c.begin_object.new.self c.key.new.self _ c.in_ok-key.ensures)
    (then c.end_object.result c.key.new.self c.u64.new.self c.end_object.new.self _ _ (added_as c.key.new.self c.u64.new.self _ _ (ap (λ t. t ∷ []) (ap (λ n. number (decimal n)) (c.drawn.ensures ∙ ap (λ g. drawn c.args.size.now (g + c.args.task)) c.groups.ensures.groups))) (wrote c.key.new.self c.u64.new.self _ c.in_ok-u64.ensures))
    (then c.end_object.result c.u64.new.self c.key-2.new.self c.end_object.new.self _ _ (wrote c.u64.new.self c.key-2.new.self _ c.in_ok-key-2.ensures)
    (then c.end_object.result c.key-2.new.self c.write_numbered.new.out c.end_object.new.self _ _ c.in_ok-write_numbered.ensures
    (then c.end_object.result c.write_numbered.new.out c.key-3.new.self c.end_object.new.self _ _ (wrote c.write_numbered.new.out c.key-3.new.self _ c.in_ok-key-3.ensures)
    (then c.end_object.result c.key-3.new.self c.write_numbered-2.new.out c.end_object.new.self _ _ c.in_ok-write_numbered-2.ensures
    (finally c.end_object.result c.write_numbered-2.new.out c.end_object.new.self _ c.end_object.ensures)))))))
