use Rattle.std.proofs.Common.{ℕ, ◌+◌, ◌<◌, List, arith, ltb-true}
use Rattle.bwe_specs.specs.declared.network.Closing.{Closing}
use Rattle.closing_walk.specs.Walk.{closing_at}
use Rattle.closing_walk.proofs.ends.is_last_at.Goals as goal

pub returns-then-at-closings : goal.returns-then-at-closings
returns-then-at-closings c = λ more place past lt.
    let list : List Closing = c.args.closings.now in
    let at : ℕ = c.args.at in
    let less : (closing_at list at).share < (closing_at list (at + 1)).share = ltb-true (closing_at list at).share (closing_at list (at + 1)).share more in
    omega (arith, less, c.requires.rise (at + 1) place (omega (arith, past)) lt)

pub returns-else-at-closings : goal.returns-else-at-closings
returns-else-at-closings c = λ _ place past lt. absurd (omega (arith, past, lt, c.if-at-closings.false))
