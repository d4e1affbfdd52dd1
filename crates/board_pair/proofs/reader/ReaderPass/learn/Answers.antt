use Rattle.std.proofs.Common.{length, inr}
use Rattle.board_pair.proofs.CoreReads.{told_counted}
use Rattle.board_pair.proofs.reader.ReaderPass.learn.Goals as goal

-- that it counts what it was told changes nothing of its steps
pub returns-clause-run : goal.returns-clause-run
returns-clause-run g c =
    inr
    (told_counted g.T.Posted.covers g.T.Posted.total_of g.N.Profile.belongs (length c.args.ack.now) _ c.args.self.now c.catch_up.new.self c.count_told-2.new.self c.in_ok-catch_up.ensures.run
    c.count_told-2.ensures.told)
