use Rattle.std.proofs.Common.{ap, length, ◌∙◌}
use Rattle.std.proofs.lemmas.List.{length-map}
use Rattle.plain_table.proofs.limits.limits_of.Goals as goal

pub all_limits-requires-clause-amounts : goal.all_limits-requires-clause-amounts
all_limits-requires-clause-amounts c =
    let amounts = c.deref.ensures.value ∙ c.in_ok-amounts.ensures in
    ap length amounts ∙ length-map c.args.groups.now (λ line. line.amount) ∙ c.requires.groups

pub all_limits-requires-clause-within : goal.all_limits-requires-clause-within
all_limits-requires-clause-within c =
    let amounts = c.deref.ensures.value ∙ c.in_ok-amounts.ensures in
    λ group lt. rw (amounts) (c.requires.within group lt)

pub returns : goal.returns
returns c =
    let amounts = c.deref.ensures.value ∙ c.in_ok-amounts.ensures in
    rw (amounts) at c.all_limits.ensures
