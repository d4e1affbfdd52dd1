use Rattle.std.proofs.Common.{◌≤◌, [], List, arith, ◌∙◌, ap, subst, sym}
use Rattle.std.specs.Prelude.{All}
use Rattle.bwe_specs.specs.declared.limits.TheConstants.{MAX_AMOUNT}
use Rattle.sample_lines.specs.declared.sample.Sample.{Sample}
use Rattle.sample_lines.specs.Known.{known_by}
use Rattle.sample_lines.specs.SampleReports.{reports_behind}
use Rattle.sample_lines.proofs.HeldFacts.{part_held, amounts_held, reports_few, fit_all, owned_all}
use Rattle.sample_lines.proofs.estimate_reports.Goals as goal

pub estimate_samples-requires-clause-amounts : goal.estimate_samples-requires-clause-amounts
estimate_samples-requires-clause-amounts c =
    let found = part_held c.in_ok-known.known c.args.names.now c.args.task_owners.now c.args.room c.args.part.now c.in_ok-samples.samples.items c.in_ok-known.ensures c.in_ok-samples.ensures in
    subst (λ (some : List Sample). All (λ sample. sample.amount ≤ MAX_AMOUNT) some) (sym c.deref.ensures.value) (amounts_held (known_by c.args.names.now c.args.task_owners.now) c.in_ok-samples.samples.items found.0)

pub returns-clause-few : goal.returns-clause-few
returns-clause-few c =
    let found = part_held c.in_ok-known.known c.args.names.now c.args.task_owners.now c.args.room c.args.part.now c.in_ok-samples.samples.items c.in_ok-known.ensures c.in_ok-samples.ensures in
    let made = c.in_ok-reports.ensures ∙ ap (λ (some : List Sample). reports_behind c.args.window c.args.headroom [] some) c.deref.ensures.value in
    omega (arith, reports_few c.args.window c.args.headroom c.args.room c.in_ok-samples.samples.items c.in_ok-reports.reports.items made found.1)

pub returns-clause-fit : goal.returns-clause-fit
returns-clause-fit c = λ links.
    let found = part_held c.in_ok-known.known c.args.names.now c.args.task_owners.now c.args.room c.args.part.now c.in_ok-samples.samples.items c.in_ok-known.ensures c.in_ok-samples.ensures in
    let made = c.in_ok-reports.ensures ∙ ap (λ (some : List Sample). reports_behind c.args.window c.args.headroom [] some) c.deref.ensures.value in
    fit_all c.args.names.now c.args.task_owners.now links c.args.window c.args.headroom c.in_ok-samples.samples.items c.in_ok-reports.reports.items made found.0

pub returns-clause-owned : goal.returns-clause-owned
returns-clause-owned c =
    let found = part_held c.in_ok-known.known c.args.names.now c.args.task_owners.now c.args.room c.args.part.now c.in_ok-samples.samples.items c.in_ok-known.ensures c.in_ok-samples.ensures in
    let made = c.in_ok-reports.ensures ∙ ap (λ (some : List Sample). reports_behind c.args.window c.args.headroom [] some) c.deref.ensures.value in
    owned_all c.args.names.now c.args.task_owners.now c.args.window c.args.headroom c.in_ok-samples.samples.items c.in_ok-reports.reports.items made found.0
