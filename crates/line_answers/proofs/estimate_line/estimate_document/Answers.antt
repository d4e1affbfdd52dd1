use Rattle.std.proofs.Common.{List, length, subst, sym}
use Rattle.std.specs.Prelude.{All}
use Rattle.bwe_specs.specs.declared.report.Report.{Report}
use Rattle.bwe_specs.specs.Fit.{IsFit}
use Rattle.line_answers.proofs.estimate_line.estimate_document.Goals as goal

pub solve_behind-requires-clause-fit : goal.solve_behind-requires-clause-fit
solve_behind-requires-clause-fit c = λ links.
    subst (λ (reports : List Report). All (IsFit (length c.args.document.names.tasks) links) reports)
    (sym c.deref.ensures.value) (c.in-Ok.ensures.fit links)
