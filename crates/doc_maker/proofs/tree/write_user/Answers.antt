use Rattle.raw_document.specs.Words.{word}
use Rattle.doc_maker.specs.Layout.{user_value}
use Rattle.doc_maker.specs.Made.{made_user}
use Rattle.doc_maker.specs.Writing.{tokens_of}
use Rattle.doc_maker.proofs.Lists.{wrote, finally, then, adds_as, user_tokens}
use Rattle.doc_maker.proofs.tree.write_user.Goals as goal

pub returns : goal.returns
unfolding word
returns c =
    adds_as c.end_object.result c.args.out.now c.end_object.new.self _ (tokens_of (user_value (made_user c.args.size.now c.args.group))) (user_tokens c.args.size.now c.args.group)
    (then c.end_object.result c.args.out.now c.begin_object.new.self c.end_object.new.self _ _ (wrote c.args.out.now c.begin_object.new.self _ c.in_ok-begin_object.ensures)
    (then c.end_object.result c.begin_object.new.self c.write_user_function.new.out c.end_object.new.self _ _ c.in_ok-write_user_function.ensures
    (then c.end_object.result c.write_user_function.new.out c.key.new.self c.end_object.new.self _ _ (wrote c.write_user_function.new.out c.key.new.self _ c.in_ok-key.ensures)
    (then c.end_object.result c.key.new.self c.write_jobs.new.out c.end_object.new.self _ _ c.in_ok-write_jobs.ensures
    (then c.end_object.result c.write_jobs.new.out c.key-2.new.self c.end_object.new.self _ _ (wrote c.write_jobs.new.out c.key-2.new.self _ c.in_ok-key-2.ensures)
    (then c.end_object.result c.key-2.new.self c.string.new.self c.end_object.new.self _ _ (wrote c.key-2.new.self c.string.new.self _ c.in_ok-string.ensures)
    (finally c.end_object.result c.string.new.self c.end_object.new.self _ c.end_object.ensures)))))))
