use Rattle.std.proofs.Common.{sym, subst}
use Rattle.board_log.specs.Plan.{NamesTables}
use Rattle.board.proofs.open.Opened.named.Goals as goal

pub empty-shop-requires-clause-belongs : goal.empty-shop-requires-clause-belongs
empty-shop-requires-clause-belongs g c = subst (λ plan. NamesTables g.N.Profile.belongs (g.M.Maker.table_of plan)) (sym c.in_ok-poster.ensures.plan) c.self.invariant.names
