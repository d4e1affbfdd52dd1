use Rattle.std.proofs.Common.{refl, ◌∙◌}
use Rattle.link_front.specs.Front.{closings_in}
use Rattle.closing_walk.proofs.Opens.{closed-found}
use Rattle.closing_walk.proofs.walk.is_in_order.Goals as goal

pub returns-clause-open : goal.returns-clause-open
returns-clause-open g c = λ _.
    closed-found c.args.front.now.growth.closings (closings_in c.args.front.now) c.args.closing.link c.is_closed.result refl c.is_closed.ensures ∙ c.if-is_closed.false

pub returns-then-is_closed-clause-wrong : goal.returns-then-is_closed-clause-wrong
returns-then-is_closed-clause-wrong g c = λ _ right.
    let found = closed-found c.args.front.now.growth.closings (closings_in c.args.front.now) c.args.closing.link c.is_closed.result refl c.is_closed.ensures ∙ c.if-is_closed.true in
    let not = right.not_closed in
    absurd (cc)
