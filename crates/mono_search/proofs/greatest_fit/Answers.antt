use Rattle.std.proofs.Common.{◌+◌, ◌≤◌, arith}
use Rattle.mono_search.proofs.greatest_fit.Goals as goal
use Rattle.mono_search.proofs.greatest_fit.Goals.{else-hint-high-via-then-hint-high+else-fits, else-hint-high-via-else-hint-high}

pub returns-clause-near : goal.returns-clause-near
returns-clause-near g c =
    λ doublings from upto.
    let first : c.else-hint-high.steps ≤ c.args.steps.now + 1 = elim c.else-hint-high.branch [
      | else-hint-high-via-then-hint-high+else-fits w ↦ omega (arith, w.steps-is, w.fits.ensures.ticks)
      | else-hint-high-via-else-hint-high w ↦ omega (arith, w.steps-is)
    ] in
    omega (arith, c.below.ensures.near doublings (omega (arith, upto)), c.fits-else-low-hint.ensures.ticks, first)
