use Rattle.std.proofs.Common.{ap, subst, List}
use mathlib.Core.List.{IsPrefix}
use Rattle.board_log.specs.declared.history.Entry.{Entry}
use Rattle.board_log.specs.History.{pieces_from}
use Rattle.board_log.proofs.Adding.{prefix_pieces}
use Rattle.board_log.proofs.Comparing.{compared}
use Rattle.board_log.proofs.history.Beginning.begins.Goals as goal

pub returns-clause-begins : goal.returns-clause-begins
returns-clause-begins g c =
    let both : List Entry = c.learn.new.self.log in
    let this : IsPrefix c.self.inside.seen.log both = subst (λ (l : List Entry). IsPrefix l both) (ap (λ s. s.log) c.again-both.ensures) c.learn.ensures.2 in
    let key = g.B.Bases.book.key in
    let all = compared c.self.inside.len c.other.inside.len (pieces_from key c.self.inside.seen.log) (pieces_from key c.other.inside.seen.log) (pieces_from key both) (prefix_pieces key _ both this) (prefix_pieces key _ both c.learn.ensures.3) c.self.invariant.within c.other.invariant.within in
    rw (← c.self.view_is, ← c.other.view_is) all.begins

pub returns-clause-begun : goal.returns-clause-begun
returns-clause-begun g c =
    let both : List Entry = c.learn.new.self.log in
    let this : IsPrefix c.self.inside.seen.log both = subst (λ (l : List Entry). IsPrefix l both) (ap (λ s. s.log) c.again-both.ensures) c.learn.ensures.2 in
    let key = g.B.Bases.book.key in
    let all = compared c.self.inside.len c.other.inside.len (pieces_from key c.self.inside.seen.log) (pieces_from key c.other.inside.seen.log) (pieces_from key both) (prefix_pieces key _ both this) (prefix_pieces key _ both c.learn.ensures.3) c.self.invariant.within c.other.invariant.within in
    rw (← c.self.view_is, ← c.other.view_is) all.begun

pub returns-clause-longer : goal.returns-clause-longer
returns-clause-longer g c =
    let both : List Entry = c.learn.new.self.log in
    let this : IsPrefix c.self.inside.seen.log both = subst (λ (l : List Entry). IsPrefix l both) (ap (λ s. s.log) c.again-both.ensures) c.learn.ensures.2 in
    let key = g.B.Bases.book.key in
    let all = compared c.self.inside.len c.other.inside.len (pieces_from key c.self.inside.seen.log) (pieces_from key c.other.inside.seen.log) (pieces_from key both) (prefix_pieces key _ both this) (prefix_pieces key _ both c.learn.ensures.3) c.self.invariant.within c.other.invariant.within in
    rw (← c.self.view_is, ← c.other.view_is) all.longer
