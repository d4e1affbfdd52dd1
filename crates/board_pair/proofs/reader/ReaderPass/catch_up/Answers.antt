use Rattle.std.proofs.Common.{length, refl, rules}
use Rattle.board_pair.proofs.CoreReads.{told_of}
use Rattle.board_pair.proofs.reader.ReaderPass.catch_up.Goals as goal

-- the seat's view notes the entry
pub enter_as-requires : goal.enter_as-requires
enter_as-requires g c = λ shown views holds at. (record { count = _; covers = _ }, tt, (refl, refl))

pub returns-clause-run : goal.returns-clause-run
returns-clause-run g c =
    told_of c.match-enter_as.reader.1 g.T.Posted.covers g.T.Posted.total_of g.N.Profile.belongs (length c.args.ack.now) c.args.self.now _ (search rules) (search rules) c.requires.behind (search rules)
    (search rules) (search rules)
