use Rattle.std.proofs.Common.{take_all, ap, arith}
use Rattle.json.specs.Token.{begin_array}
use Rattle.doc_maker.specs.Layout.{point_value}
use Rattle.doc_maker.specs.Writing.{each_tokens}
use Rattle.doc_maker.proofs.Lists.{wrote, added_as, list_done, item_more}
use Rattle.doc_maker.proofs.tree.write_function.Goals as goal

pub loop-share-preserved : goal.loop-share-preserved
loop-share-preserved c =
    item_more point_value c.args.points.now c.begin_array.new.self c.loop-share.out c.write_point.new.out c.loop-share.share-index _ c.loop-share.invariant c.loop-share-test.true c.in_ok-write_point.ensures

pub returns : goal.returns
returns c =
    list_done point_value c.end_array.result c.args.out.now c.begin_array.new.self c.loop-share.out c.end_array.new.self c.args.points.now
    (wrote c.args.out.now c.begin_array.new.self begin_array c.in_ok-begin_array.ensures)
    (added_as c.begin_array.new.self c.loop-share.out _ _ (ap (each_tokens point_value) (take_all c.loop-share.share-index c.args.points.now (omega arith))) c.loop-share.invariant)
    c.end_array.ensures
