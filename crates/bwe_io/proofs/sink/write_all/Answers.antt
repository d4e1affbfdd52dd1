use Rattle.std.proofs.Common.{◌+◌, arith}
use Rattle.bwe_io.proofs.Known.{AppendsPrefix-more, drop-more, within-drop}
use Rattle.bwe_io.proofs.sink.write_all.Goals as goal

pub loop-rest-preserved : goal.loop-rest-preserved
loop-rest-preserved g c =
    let before = c.loop-rest.invariant.1 in (
      omega arith,
      (
        before.0 + c.in-Ok.count,
        within-drop c.args.bytes.now c.loop-rest.rest.now before.0 c.in-Ok.count before.1 before.2 c.in-Ok.ensures.fits,
        drop-more c.args.bytes.now c.loop-rest.rest.now before.0 c.in-Ok.count before.2,
        AppendsPrefix-more _ _ _ c.args.bytes.now c.loop-rest.rest.now before.0 c.in-Ok.count before.2 before.3 c.in-Ok.ensures.bytes,
      ),
    )
