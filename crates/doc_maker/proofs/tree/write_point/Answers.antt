use Rattle.raw_document.specs.Words.{word}
use Rattle.doc_maker.proofs.Lists.{wrote, finally, then}
use Rattle.doc_maker.proofs.tree.write_point.Goals as goal

pub returns : goal.returns
unfolding word
returns c =
    then c.end_array.result c.args.out.now c.begin_array.new.self c.end_array.new.self _ _ (wrote c.args.out.now c.begin_array.new.self _ c.in_ok-begin_array.ensures)
    (then c.end_array.result c.begin_array.new.self c.u64.new.self c.end_array.new.self _ _ (wrote c.begin_array.new.self c.u64.new.self _ c.in_ok-u64.ensures)
    (then c.end_array.result c.u64.new.self c.u64-2.new.self c.end_array.new.self _ _ (wrote c.u64.new.self c.u64-2.new.self _ c.in_ok-u64-2.ensures)
    (finally c.end_array.result c.u64-2.new.self c.end_array.new.self _ c.end_array.ensures)))
