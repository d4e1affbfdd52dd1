use Rattle.std.proofs.Common.{arith}
use Rattle.live_run.proofs.Conversing.{Converses-append}
use Rattle.live_run.proofs.Counts.{NeverFall-append}
use Rattle.live_run.proofs.Steps.{HasStopped-after, after-last, all-whole}
use Rattle.live_run.proofs.behind.follow_lines.Goals as goal

pub returns-in-Ok-false : goal.returns-in-Ok-false
returns-in-Ok-false g c = λ front document before bef upto.
    let now = c.pieces.invariant.2 front document before bef upto in
    let next = c.in-Ok-false.ensures.passed front document now.0 bef now.1 in
    let last = c.last_line.ensures front document next.0 bef next.2.1 in (
      last.0,
      Converses-append g.F.Follower.follow _ _ _ before next.0 last.0 (Converses-append g.F.Follower.follow _ _ _ before now.0 next.0 now.2 next.1) last.1,
      after-last g.F.Follower.follow front _ _ _ _ _ last.0 c.last_line.result
          (NeverFall-append _ _ _ c.pieces.invariant.1 c.in-Ok-false.ensures.counted) (next.2.0 c.in-Ok-false.field-0-test) last.2,
    )

pub returns-in-Err : goal.returns-in-Err
returns-in-Err g c = λ front document before bef upto.
    let now = c.pieces.invariant.2 front document before bef upto in
    let next = c.in-Err.ensures.passed front document now.0 bef now.1 in (
      next.0,
      Converses-append g.F.Follower.follow _ _ _ before now.0 next.0 now.2 next.1,
      HasStopped-after g.F.Follower.follow _ _ _ next.0 c.in-Err.stop c.pieces.invariant.1 next.2,
    )

pub pieces-preserved : goal.pieces-preserved
pieces-preserved g c = (
  omega (arith, c.pieces.invariant.0),
  NeverFall-append _ _ _ c.pieces.invariant.1 c.in-Ok-true.ensures.counted,
  λ front document before bef upto.
      let now = c.pieces.invariant.2 front document before bef upto in
      let next = c.in-Ok-true.ensures.passed front document now.0 bef now.1 in
      (next.0, next.2.1, Converses-append g.F.Follower.follow _ _ _ before now.0 next.0 now.2 next.1),
)

pub returns : goal.returns
returns g c = λ front document before bef upto.
    let now = c.pieces.invariant.2 front document before bef upto in
    (now.0, now.2, all-whole g.F.Follower.follow now.0 now.1.written_so)
