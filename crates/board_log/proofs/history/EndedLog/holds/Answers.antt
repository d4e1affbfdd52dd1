use Rattle.std.proofs.Common.{ap, subst, List}
use mathlib.Core.List.{IsPrefix}
use Rattle.board_log.specs.declared.history.Entry.{Entry}
use Rattle.board_log.specs.History.{pieces_from}
use Rattle.board_log.proofs.Adding.{ends_once, held_reports, prefix_pieces}
use Rattle.board_log.proofs.history.EndedLog.holds.Goals as goal

pub returns : goal.returns
returns g c =
    let both : List Entry = c.learn.new.self.log in
    let this : IsPrefix c.self.inside.seen.log both = subst (λ (l : List Entry). IsPrefix l both) (ap (λ s. s.log) c.again-both.ensures) c.learn.ensures.2 in
    let key = g.B.Bases.book.key in
    let all = held_reports c.beginning.inside.len (pieces_from key c.self.inside.seen.log) (pieces_from key c.beginning.inside.seen.log) (pieces_from key both) c.self.invariant.ended (prefix_pieces key _ both this) (prefix_pieces key _ both c.learn.ensures.3) (ends_once key both) in
    record { within = rw (← c.self.view_is, ← c.beginning.view_is) all }
