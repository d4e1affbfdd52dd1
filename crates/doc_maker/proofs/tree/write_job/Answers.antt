use Rattle.std.proofs.Common.{◌+◌, ◌*◌, [], ◌∷◌, ap}
use Rattle.raw_document.specs.Words.{word}
use Rattle.doc_maker.specs.Layout.{function_value}
use Rattle.doc_maker.specs.Made.{made_function}
use Rattle.doc_maker.specs.Writing.{tokens_of}
use Rattle.doc_maker.proofs.Lists.{wrote, added_as, finally, then}
use Rattle.doc_maker.proofs.tree.write_job.Goals as goal

pub returns : goal.returns
unfolding word
returns c =
    then c.end_object.result c.args.out.now c.begin_object.new.self c.end_object.new.self _ _ (wrote c.args.out.now c.begin_object.new.self _ c.in_ok-begin_object.ensures)
    (then c.end_object.result c.begin_object.new.self c.key.new.self c.end_object.new.self _ _ (wrote c.begin_object.new.self c.key.new.self _ c.in_ok-key.ensures)
    (then c.end_object.result c.key.new.self c.string.new.self c.end_object.new.self _ _ (wrote c.key.new.self c.string.new.self _ c.in_ok-string.ensures)
    (then c.end_object.result c.string.new.self c.key-2.new.self c.end_object.new.self _ _ (wrote c.string.new.self c.key-2.new.self _ c.in_ok-key-2.ensures)
    (then c.end_object.result c.key-2.new.self c.write_function.new.out c.end_object.new.self _ _ (added_as c.key-2.new.self c.write_function.new.out (tokens_of (function_value ((0, 0) ∷ (500_000, 100 + c.drawn-drawn.result) ∷ (1_000_000, 200 + 2 * c.drawn-drawn.result) ∷ []))) (tokens_of (function_value (made_function c.args.size.now c.args.group))) (ap (λ n. tokens_of (function_value ((0, 0) ∷ (500_000, 100 + n) ∷ (1_000_000, 200 + 2 * n) ∷ []))) c.drawn-drawn.ensures) c.in_ok-write_function.ensures)
    (then c.end_object.result c.write_function.new.out c.key-3.new.self c.end_object.new.self _ _ (wrote c.write_function.new.out c.key-3.new.self _ c.in_ok-key-3.ensures)
    (then c.end_object.result c.key-3.new.self c.write_tasks.new.out c.end_object.new.self _ _ c.in_ok-write_tasks.ensures
    (finally c.end_object.result c.write_tasks.new.out c.end_object.new.self _ c.end_object.ensures)))))))
