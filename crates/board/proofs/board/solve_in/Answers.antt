use Rattle.std.proofs.Common.{List, sym, subst}
use mathlib.Core.List.{IsPrefix}
use Rattle.bwe_specs.specs.declared.report.Report.{Report}
use Rattle.board.proofs.Posting.{holds_more}
use Rattle.board.proofs.board.solve_in.Goals as goal

pub returns : goal.returns
returns g c =
    let known = c.args.known.now in
    let seen : IsPrefix known c.solve.new.self = subst (λ (log : List Report). IsPrefix known log) (sym c.solve.ensures.seen) c.in_ok-shown.ensures.seen in
    record { known = holds_more c.post_made.result known c.solve.new.self seen c.post_made.ensures.covered }
