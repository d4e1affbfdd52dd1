use Rattle.line_answers.proofs.Behind.{usable_behind}
use Rattle.line_answers.proofs.estimate_line.solve_behind.Goals as goal

pub solve_document-requires : goal.solve_document-requires
solve_document-requires c =
    usable_behind c.args.document c.args.reports.now c.requires.usable c.requires.fit c.requires.owned
    c.extend_from_slice.new.self c.in_ok-extend_from_slice.ensures.items c.requires.few
