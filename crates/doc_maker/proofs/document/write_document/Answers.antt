use Rattle.raw_document.specs.Words.{word}
use Rattle.doc_maker.proofs.Lists.{wrote, finally, then}
use Rattle.doc_maker.proofs.document.write_document.Goals as goal

pub returns : goal.returns
unfolding word
returns c =
    then c.end_object.result c.args.out.now c.begin_object.new.self c.end_object.new.self _ _ (wrote c.args.out.now c.begin_object.new.self _ c.in_ok-begin_object.ensures)
    (then c.end_object.result c.begin_object.new.self c.key.new.self c.end_object.new.self _ _ (wrote c.begin_object.new.self c.key.new.self _ c.in_ok-key.ensures)
    (then c.end_object.result c.key.new.self c.write_groups.new.out c.end_object.new.self _ _ c.in_ok-write_groups.ensures
    (then c.end_object.result c.write_groups.new.out c.key-2.new.self c.end_object.new.self _ _ (wrote c.write_groups.new.out c.key-2.new.self _ c.in_ok-key-2.ensures)
    (then c.end_object.result c.key-2.new.self c.write_links.new.out c.end_object.new.self _ _ c.in_ok-write_links.ensures
    (then c.end_object.result c.write_links.new.out c.key-3.new.self c.end_object.new.self _ _ (wrote c.write_links.new.out c.key-3.new.self _ c.in_ok-key-3.ensures)
    (then c.end_object.result c.key-3.new.self c.write_reporters.new.out c.end_object.new.self _ _ c.in_ok-write_reporters.ensures
    (then c.end_object.result c.write_reporters.new.out c.key-4.new.self c.end_object.new.self _ _ (wrote c.write_reporters.new.out c.key-4.new.self _ c.in_ok-key-4.ensures)
    (then c.end_object.result c.key-4.new.self c.write_script.new.out c.end_object.new.self _ _ c.in_ok-write_script.ensures
    (then c.end_object.result c.write_script.new.out c.key-5.new.self c.end_object.new.self _ _ (wrote c.write_script.new.out c.key-5.new.self _ c.in_ok-key-5.ensures)
    (then c.end_object.result c.key-5.new.self c.u64.new.self c.end_object.new.self _ _ (wrote c.key-5.new.self c.u64.new.self _ c.in_ok-u64.ensures)
    (then c.end_object.result c.u64.new.self c.key-6.new.self c.end_object.new.self _ _ (wrote c.u64.new.self c.key-6.new.self _ c.in_ok-key-6.ensures)
    (then c.end_object.result c.key-6.new.self c.u64-2.new.self c.end_object.new.self _ _ (wrote c.key-6.new.self c.u64-2.new.self _ c.in_ok-u64-2.ensures)
    (finally c.end_object.result c.u64-2.new.self c.end_object.new.self _ c.end_object.ensures)))))))))))))
