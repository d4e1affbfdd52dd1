use Rattle.std.proofs.Common.{take, rules}
use Rattle.std.specs.Prelude.{slice_index}
use Rattle.doc_names.specs.NameTexts.{texts_of}
use Rattle.bwe_specs.specs.Lists.{lists_of}
use Rattle.run_audit.proofs.Verdicts.{rest_judged}
use Rattle.run_audit.proofs.run.audit_rest.Goals as goal

pub returns : goal.returns
returns g c =
    rest_judged (texts_of c.args.names.now) (lists_of c.args.scripts.now) c.args.text.now.left c.due_from.result c.args.table.lines c.args.text.now.number c.args.text.now.lines
    (λ prefix. g.M.Table.Posted.total_of (g.M.Maker.table_of (g.M.Maker.plan c.args.maker) (take prefix c.args.history.now)))
    (λ prefix. slice_index c.in_ok-totals.totals.items prefix)
    (record { checks = c.in_ok-checks.checks.items; verdict = c.in_ok-checks.verdict })
    c.first_wrong.result c.due_from.ensures.step (search rules) (search rules) (search rules)
