use Rattle.std.proofs.Common.{◌++◌, subst}
use Rattle.raw_reader.specs.Pieces.{PieceTakes}
use Rattle.raw_reader.specs.Joined.{StandsAt}
use Rattle.raw_reader.specs.declared.pieces.Piece.TheVariants as pieces
use Rattle.raw_reader.proofs.Joining.{Script-open, Script-closed}
use Rattle.raw_reader.proofs.joined.Joined.with_reports.Goals as goal

pub returns-then-closed : goal.returns-then-closed
returns-then-closed c version start old new more piece joined =
    let slots = c.args.self.slots in
    let found = c.in-Script.found in
    let items = c.args.items in
    let all = c.in_ok-all in
    let took = subst (λ closed. PieceTakes version (pieces.Script items closed) old new) c.if-closed.true piece in
    let stood = subst (λ list. StandsAt version slots list start (old ++ more)) c.in-Script.is joined in
    Script-closed version slots found items all.all start old new more all.ensures took stood

pub returns-else-closed : goal.returns-else-closed
returns-else-closed c version start old new more piece joined =
    let slots = c.args.self.slots in
    let found = c.in-Script.found in
    let items = c.args.items in
    let all = c.in_ok-all in
    let took = subst (λ closed. PieceTakes version (pieces.Script items closed) old new) c.if-closed.false piece in
    let stood = subst (λ list. StandsAt version slots list start (old ++ more)) c.in-Script.is joined in
    Script-open version slots found items all.all start old new more all.ensures took stood
