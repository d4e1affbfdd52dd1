use Rattle.std.proofs.Common.{ap, length, arith}
use Rattle.link_sums.proofs.Rows.{in_firsts, in_amounts, amount-before}
use Rattle.link_sums.proofs.amounts.Amounts.amount.Goals as goal

pub entry_of-requires : goal.entry_of-requires
entry_of-requires c =
    omega (arith, ap length c.deref.ensures.value, in_firsts c.args.plan.now c.self.inside.firsts.items c.self.inside.amounts.items c.args.group c.args.place c.args.self.now c.self.view_is c.requires.rows c.requires.group c.requires.place)

pub index-requires : goal.index-requires
index-requires c =
    omega (
      arith,
      in_amounts c.args.plan.now c.self.inside.firsts.items c.self.inside.amounts.items c.args.group c.args.place c.args.self.now c.self.view_is c.requires.rows c.requires.group c.requires.place
          c.entry_of.result (rw c.deref.ensures.value at c.entry_of.ensures),
      c.self.inside.amounts.ok.0,
    )

pub returns : goal.returns
returns c =
    amount-before c.args.plan.now c.self.inside.firsts.items c.self.inside.amounts.items c.args.group c.args.place c.args.self.now c.self.view_is c.requires.rows c.requires.group c.requires.place
    c.entry_of.result (rw c.deref.ensures.value at c.entry_of.ensures) c.index.result.now c.index.ensures
