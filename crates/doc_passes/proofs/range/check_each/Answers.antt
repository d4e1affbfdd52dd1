use Rattle.std.proofs.Common.{◌∷◌, [], ◌++◌, Ok, Err, arith, sym}
use Rattle.std.proofs.lemmas.List.{drop_all}
use Rattle.raw_document.specs.Reading.{Gives}
use Rattle.raw_document.proofs.Visits.{Continues-start, Continues-more, Continues-end, ChecksEach-stop}
use Rattle.raw_document.proofs.Lists.{checks_give}
use Rattle.doc_passes.proofs.range.check_each.Goals as goal

pub loop-place-init : goal.loop-place-init
loop-place-init g c = ([], Continues-start _ _)

pub returns-in-Err : goal.returns-in-Err
returns-in-Err g c =
    let item = g.T.InRange in
    checks_give item.shown (λ nothing. nothing) item.range (λ v r. Gives (λ nothing. nothing) r (item.range (item.shown v))) (λ v r h. h) c.args.items.now (Err c.under.result)
    (ChecksEach-stop (λ v r. Gives (λ nothing. nothing) r (item.range (item.shown v))) c.loop-place.place c.args.items.now c.loop-place.invariant.0 c.index-items-place.result c.in-Err.fault c.under.result (omega arith)
    (sym c.index-items-place.is) c.in-Err.ensures c.under.ensures c.loop-place.invariant.1)

pub loop-place-preserved : goal.loop-place-preserved
loop-place-preserved g c =
    let item = g.T.InRange in (
      c.loop-place.invariant.0 ++ tt ∷ [],
      Continues-more (λ v r. Gives (λ nothing. nothing) r (item.range (item.shown v))) c.loop-place.place c.args.items.now c.loop-place.invariant.0 c.index-items-place.result tt (omega arith)
          (sym c.index-items-place.is) c.in-Ok.ensures c.loop-place.invariant.1,
    )

pub returns : goal.returns
returns g c =
    let item = g.T.InRange in
    checks_give item.shown (λ nothing. nothing) item.range (λ v r. Gives (λ nothing. nothing) r (item.range (item.shown v))) (λ v r h. h) c.args.items.now (Ok tt)
    (c.loop-place.invariant.0, Continues-end (λ v r. Gives (λ nothing. nothing) r (item.range (item.shown v))) c.loop-place.place c.args.items.now c.loop-place.invariant.0 (drop_all c.loop-place.place c.args.items.now (omega arith)) c.loop-place.invariant.1)
