use Rattle.std.proofs.Common.{◌≡◌, ℕ, ◌∙◌, ap, length, arith, get_or}
use Rattle.std.proofs.lemmas.Grind.{get_or_default_zero}
use Rattle.link_sums.proofs.Rows.{firsts-never_fall, rows-opened, amounts-none}
use Rattle.link_sums.proofs.amounts.Amounts.open.Goals as goal

pub invariant_of-result : goal.invariant_of-result
invariant_of-result c = firsts-never_fall c.args.plan.now c.in_ok-firsts.firsts.items c.in_ok-firsts.ensures.firsts

pub returns-clause-rows : goal.returns-clause-rows
returns-clause-rows c =
    let firsts = c.in_ok-firsts.firsts.items in
    let are = c.in_ok-firsts.ensures.firsts in
    let read = get_or_default_zero firsts c.groups.result c.index.result.now (omega (arith, are.size, c.groups.ensures.count)) in
    let last : c.index.result.now ≡ get_or firsts (length c.args.plan.now) 0 = c.index.ensures ∙ read ∙ ap (λ (group : ℕ). get_or firsts group 0) c.groups.ensures.count in
    rows-opened c.args.plan.now firsts are c.in_ok-amounts.amounts.items (c.in_ok-amounts.ensures.length ∙ last)

pub returns-clause-none : goal.returns-clause-none
returns-clause-none c = amounts-none c.in_ok-firsts.firsts.items c.in_ok-amounts.amounts.items c.in_ok-amounts.ensures.none
