use Rattle.std.proofs.Common.{arith}
use Rattle.doc_passes.proofs.Folds.{fold_later, fold_fails, fold_whole}
use Rattle.threaded_passes.proofs.walk.walk_from.Goals as goal

pub returns-in-Err : goal.returns-in-Err
returns-in-Err g c =
    let item = g.T.Walked in
    fold_fails item.shown (item.after c.args.given.now) c.args.items.now c.loop-place.place c.index-items-place.result (item.state c.loop-place.first c.loop-place.second) c.in-Err.fault c.under.result _ (omega arith) c.index-items-place.is c.in-Err.ensures c.under.ensures c.loop-place.invariant

pub loop-place-preserved : goal.loop-place-preserved
loop-place-preserved g c =
    let item = g.T.Walked in
    fold_later item.shown (item.after c.args.given.now) c.args.items.now c.loop-place.place c.index-items-place.result (item.state c.loop-place.first c.loop-place.second) (item.state c.walk.new.first c.walk.new.second) _ (omega arith) c.index-items-place.is c.in-Ok.ensures c.loop-place.invariant

pub returns : goal.returns
returns g c =
    let item = g.T.Walked in
    fold_whole item.shown (item.after c.args.given.now) c.args.items.now c.loop-place.place (item.state c.loop-place.first c.loop-place.second) _ (omega arith) c.loop-place.invariant
