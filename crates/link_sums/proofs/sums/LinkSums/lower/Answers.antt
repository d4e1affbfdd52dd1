use Rattle.std.proofs.Common.{◌∙◌, ◌-◌, ◌≤◌, sym, ap, subst, length, arith}
use Rattle.bwe_specs.specs.declared.limits.TheConstants.{MAX_TOTAL}
use Rattle.link_sums.specs.Sums.{amount_at, IsSummedOver}
use Rattle.link_sums.proofs.Totals.{total_of-raised, link_load-raised}
use Rattle.link_sums.proofs.Changes.{before-small, counted, room, summed-after, with_items-same}
use Rattle.link_sums.proofs.sums.LinkSums.lower.Goals as goal

pub move_loads-requires-clause-before : goal.move_loads-requires-clause-before
move_loads-requires-clause-before c =
    before-small c.args.plan.now c.args.self.now c.requires.summed c.args.group c.args.place c.requires.group c.requires.place c.amount-before.result
    (c.amount-before.ensures ∙ ap (λ sums. amount_at sums.amounts c.args.group c.args.place) c.self.view_is) c.deref_mut.result.now (c.deref_mut.ensures.value ∙ ap (λ sums. sums.loads) c.self.view_is)

pub move_loads-requires-clause-after : goal.move_loads-requires-clause-after
move_loads-requires-clause-after c =
    let small : c.amount-before.result ≤ MAX_TOTAL =
    before-small c.args.plan.now c.args.self.now c.requires.summed c.args.group c.args.place c.requires.group c.requires.place c.amount-before.result
    (c.amount-before.ensures ∙ ap (λ sums. amount_at sums.amounts c.args.group c.args.place) c.self.view_is) c.deref_mut.result.now (c.deref_mut.ensures.value ∙ ap (λ sums. sums.loads) c.self.view_is) in
    omega (arith, small)

pub move_loads-requires-clause-counted : goal.move_loads-requires-clause-counted
move_loads-requires-clause-counted c =
    counted c.args.plan.now c.args.self.now c.requires.summed c.args.group c.args.place c.requires.group c.requires.place c.amount-before.result
    (c.amount-before.ensures ∙ ap (λ sums. amount_at sums.amounts c.args.group c.args.place) c.self.view_is) c.deref_mut.result.now (c.deref_mut.ensures.value ∙ ap (λ sums. sums.loads) c.self.view_is)

pub move_loads-requires-clause-room : goal.move_loads-requires-clause-room
move_loads-requires-clause-room c =
    room c.args.plan.now c.args.self.now c.requires.summed c.args.group c.args.place c.requires.group c.requires.place c.amount-before.result
    (c.amount-before.ensures ∙ ap (λ sums. amount_at sums.amounts c.args.group c.args.place) c.self.view_is) c.deref_mut.result.now (c.deref_mut.ensures.value ∙ ap (λ sums. sums.loads) c.self.view_is)

pub returns-clause-summed : goal.returns-clause-summed
returns-clause-summed c =
    let was = c.amount-before.ensures ∙ ap (λ sums. amount_at sums.amounts c.args.group c.args.place) c.self.view_is in
    let lowers = rw (ap (λ sums. sums.amounts) c.self.view_is) at c.lower.ensures.lowered in
    let items = with_items-same c.self.inside.loads c.move_loads.new.loads (c.move_loads.ensures.length ∙ ap length c.deref_mut.ensures.value) in
    subst (λ loads. IsSummedOver c.args.plan.now (record { amounts = c.lower.new.self; loads = loads })) (sym items)
    (summed-after c.args.plan.now c.args.self.now c.requires.summed c.args.group c.args.place c.requires.group c.requires.place c.amount-before.result
    was c.deref_mut.result.now (c.deref_mut.ensures.value ∙ ap (λ sums. sums.loads) c.self.view_is)
    c.lower.new.self c.move_loads.new.loads (c.amount-before.result - c.args.less) c.lower.ensures.rows (omega (arith, was, lowers.raised))
    (omega (arith, total_of-raised c.args.plan.now c.lower.new.self c.args.self.now.amounts c.args.group c.args.place c.args.less c.requires.group c.requires.place lowers, c.requires.summed.total))
    c.move_loads.ensures.length c.move_loads.ensures.moved
    (λ link. sym (link_load-raised c.args.plan.now c.lower.new.self c.args.self.now.amounts c.args.group c.args.place c.args.less c.requires.group c.requires.place lowers link)))
