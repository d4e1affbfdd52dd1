use Rattle.std.proofs.Common.{inl, rules}
use Rattle.board_pair.proofs.CoreReads.{has_read}
use Rattle.board_pair.proofs.reader.ReaderPass.refresh.Goals as goal

pub returns-then-is_fresh-clause-run : goal.returns-then-is_fresh-clause-run
returns-then-is_fresh-clause-run g c =
    inl (has_read g.T.Posted.covers g.T.Posted.total_of g.N.Profile.belongs c.args.self.now _ (search rules) (search rules) (search rules) (search rules) (search rules))
