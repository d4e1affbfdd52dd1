use Rattle.std.proofs.Common.{◌-◌, sym, ap, length, arith}
use Rattle.link_sums.proofs.Rows.{in_firsts, in_amounts, amount-before, amount-after, amount-others, rows-after}
use Rattle.link_sums.proofs.amounts.Amounts.lower.Goals as goal

pub entry_of-entry-requires : goal.entry_of-entry-requires
entry_of-entry-requires c =
    omega (arith, ap length c.deref.ensures.value, in_firsts c.args.plan.now c.self.inside.firsts.items c.self.inside.amounts.items c.args.group c.args.place c.args.self.now c.self.view_is c.requires.rows c.requires.group c.requires.place)

pub index_mut-requires : goal.index_mut-requires
index_mut-requires c =
    omega (
      arith,
      in_amounts c.args.plan.now c.self.inside.firsts.items c.self.inside.amounts.items c.args.group c.args.place c.args.self.now c.self.view_is c.requires.rows c.requires.group c.requires.place
          c.entry_of-entry.result (rw c.deref.ensures.value at c.entry_of-entry.ensures),
      c.self.inside.amounts.ok.0,
    )

pub overflow_sub-index_mut : goal.overflow_sub-index_mut
overflow_sub-index_mut c =
    let was = amount-before c.args.plan.now c.self.inside.firsts.items c.self.inside.amounts.items c.args.group c.args.place c.args.self.now c.self.view_is c.requires.rows c.requires.group c.requires.place
    c.entry_of-entry.result (rw c.deref.ensures.value at c.entry_of-entry.ensures) c.index_mut.result.now c.index_mut.ensures.value in
    omega (arith, was, c.requires.less)

pub returns-clause-rows : goal.returns-clause-rows
returns-clause-rows c =
    rows-after c.args.plan.now c.self.inside.firsts.items c.self.inside.amounts.items c.args.group c.args.place c.args.self.now c.self.view_is c.requires.rows c.requires.group c.requires.place
    c.entry_of-entry.result (rw c.deref.ensures.value at c.entry_of-entry.ensures) (c.index_mut.result.now - c.args.less)

pub returns-clause-lowered : goal.returns-clause-lowered
returns-clause-lowered c =
    let was = amount-before c.args.plan.now c.self.inside.firsts.items c.self.inside.amounts.items c.args.group c.args.place c.args.self.now c.self.view_is c.requires.rows c.requires.group c.requires.place
    c.entry_of-entry.result (rw c.deref.ensures.value at c.entry_of-entry.ensures) c.index_mut.result.now c.index_mut.ensures.value in
    let now = amount-after c.args.plan.now c.self.inside.firsts.items c.self.inside.amounts.items c.args.group c.args.place c.args.self.now c.self.view_is c.requires.rows c.requires.group c.requires.place
    c.entry_of-entry.result (rw c.deref.ensures.value at c.entry_of-entry.ensures) (c.index_mut.result.now - c.args.less) in
    record {
      raised = omega (arith, now, was, c.requires.less);
      others = λ group place other. sym (amount-others c.args.plan.now c.self.inside.firsts.items c.self.inside.amounts.items c.args.group c.args.place c.args.self.now c.self.view_is c.requires.rows c.requires.group c.requires.place
          c.entry_of-entry.result (rw c.deref.ensures.value at c.entry_of-entry.ensures) c.self.invariant (c.index_mut.result.now - c.args.less) group place other);
    }
