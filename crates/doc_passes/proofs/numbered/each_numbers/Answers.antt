use Rattle.std.proofs.Common.{Ok, Err, arith, sym}
use Rattle.std.proofs.lemmas.List.{drop_all}
use Rattle.raw_document.specs.Reading.{Gives}
use Rattle.raw_document.proofs.Visits.{Continues-more, Continues-end, ReadsEach-stop}
use Rattle.raw_document.proofs.Lists.{each_gives}
use Rattle.doc_passes.proofs.numbered.each_numbers.Goals as goal

pub returns-in-Err : goal.returns-in-Err
returns-in-Err g c =
    let item = g.T.Numbered in
    let reader = item.in_numbers c.args.table.now in
    each_gives item.shown item.told reader (λ v r. Gives item.told r (reader (item.shown v))) (λ v r h. h) c.args.items.now (Err c.under.result)
    (ReadsEach-stop (λ v r. Gives item.told r (reader (item.shown v))) c.loop-place.place c.args.items.now c.loop-place.found.items c.index-items-place.result c.in-Err.fault c.under.result (omega arith)
    (sym c.index-items-place.is) c.in-Err.ensures c.under.ensures c.loop-place.invariant)

pub loop-place-preserved : goal.loop-place-preserved
loop-place-preserved g c =
    let item = g.T.Numbered in
    let reader = item.in_numbers c.args.table.now in
    rw c.in_ok-push-in-Ok.ensures.items (Continues-more (λ v r. Gives item.told r (reader (item.shown v))) c.loop-place.place c.args.items.now c.loop-place.found.items c.index-items-place.result c.in-Ok.numbers (omega arith)
    (sym c.index-items-place.is) c.in-Ok.ensures c.loop-place.invariant)

pub returns : goal.returns
returns g c =
    let item = g.T.Numbered in
    let reader = item.in_numbers c.args.table.now in
    each_gives item.shown item.told reader (λ v r. Gives item.told r (reader (item.shown v))) (λ v r h. h) c.args.items.now (Ok c.loop-place.found)
    (Continues-end (λ v r. Gives item.told r (reader (item.shown v))) c.loop-place.place c.args.items.now c.loop-place.found.items (drop_all c.loop-place.place c.args.items.now (omega arith)) c.loop-place.invariant)
