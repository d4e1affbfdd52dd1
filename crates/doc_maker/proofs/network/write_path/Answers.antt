use Rattle.raw_document.specs.Words.{word}
use Rattle.doc_maker.proofs.Lists.{wrote, finally, then}
use Rattle.doc_maker.proofs.network.write_path.Goals as goal

pub returns : goal.returns
unfolding word
returns c =
    then c.end_object.result c.args.out.now c.begin_object.new.self c.end_object.new.self _ _ (wrote c.args.out.now c.begin_object.new.self _ c.in_ok-begin_object.ensures)
    (then c.end_object.result c.begin_object.new.self c.key.new.self c.end_object.new.self _ _ (wrote c.begin_object.new.self c.key.new.self _ c.in_ok-key.ensures)
    (then c.end_object.result c.key.new.self c.begin_array.new.self c.end_object.new.self _ _ (wrote c.key.new.self c.begin_array.new.self _ c.in_ok-begin_array.ensures)
    (then c.end_object.result c.begin_array.new.self c.write_numbered.new.out c.end_object.new.self _ _ c.in_ok-write_numbered.ensures
    (then c.end_object.result c.write_numbered.new.out c.end_array.new.self c.end_object.new.self _ _ (wrote c.write_numbered.new.out c.end_array.new.self _ c.in_ok-end_array.ensures)
    (then c.end_object.result c.end_array.new.self c.key-2.new.self c.end_object.new.self _ _ (wrote c.end_array.new.self c.key-2.new.self _ c.in_ok-key-2.ensures)
    (then c.end_object.result c.key-2.new.self c.u64.new.self c.end_object.new.self _ _ (wrote c.key-2.new.self c.u64.new.self _ c.in_ok-u64.ensures)
    (finally c.end_object.result c.u64.new.self c.end_object.new.self _ c.end_object.ensures)))))))
