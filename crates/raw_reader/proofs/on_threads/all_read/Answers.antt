use Rattle.std.proofs.Common.{◌≡◌, true, arith}
use Rattle.std.specs.Prelude.{is_ok}
use Rattle.std.specs.Vec.Iter.{into_iter_items}
use Rattle.raw_reader.proofs.Running.{one_more}
use Rattle.raw_reader.proofs.on_threads.all_read.Goals as goal

pub loop-part-preserved : goal.loop-part-preserved
loop-part-preserved c =
    let l = c.loop-part in
    let before = l.invariant in
    let added : is_ok c.append.result ≡ true = grind arith in
    one_more (is_ok c.append.result) c.args.found.items (into_iter_items l.part-iterator) (into_iter_items c.next.new.self) c.in-Some.part before.0 c.in_ok-pieces.pieces l.all.items c.append.new.self.items added c.append.ensures.items
    c.in-Some.ensures.steps.0 c.in_ok-pieces.was before.1 before.2
