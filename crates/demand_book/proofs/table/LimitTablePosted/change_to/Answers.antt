use Rattle.demand_book.proofs.Followed.{kept-along}
use Rattle.demand_book.proofs.table.LimitTablePosted.change_to.Goals as goal

pub returns-clause-kept : goal.returns-clause-kept
returns-clause-kept c = kept-along c.args.self.now c.args.later.now c.change_between.result c.change_between.ensures
