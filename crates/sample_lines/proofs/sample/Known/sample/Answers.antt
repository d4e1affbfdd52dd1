use Rattle.std.proofs.Common.{◌≡◌, ℕ, Option, false, true, None, Some, rules, sym, ap, ◌∙◌}
use Rattle.std.specs.Prelude.{slice_get}
use Rattle.sample_lines.specs.Known.{Known, known_by}
use Rattle.sample_lines.specs.SampleLine.{Fields, sample_of}
use Rattle.doc_names.specs.Owners.{is_owner}
use Rattle.sample_lines.proofs.SampleFacts.{no_task, sample_is}
use Rattle.sample_lines.proofs.sample.Known.sample.Goals as goal

pub returns-in_err-task : goal.returns-in_err-task
returns-in_err-task c =
    let names = c.self.inside.names.now in
    let fields : Fields = record { reporter = c.fields.inside.reporter.now; task = c.fields.inside.task.now; amount = c.fields.inside.amount.now } in
    let none : c.from_residual-in_err-task.result ≡ None = search rules in
    none
    ∙ no_task (known_by names c.self.inside.task_owners.now) c.args.text.now fields c.in_ok-reporter.reporter (ap Some c.fields.view_is ∙ c.in_ok-fields.ensures)
    (c.in_ok-reporter.ensures names.reporters c.self.invariant.0) (c.in_err-task.ensures names.tasks c.self.invariant.1)
    ∙ ap (λ (known : Known). sample_of known c.args.text.now) c.self.view_is

pub returns-then-not-is_owner : goal.returns-then-not-is_owner
returns-then-not-is_owner c =
    let names = c.self.inside.names.now in
    let fields : Fields = record { reporter = c.fields.inside.reporter.now; task = c.fields.inside.task.now; amount = c.fields.inside.amount.now } in
    let own = ap (λ (owner : Option ℕ). is_owner owner c.in_ok-reporter.reporter) c.owner_of-owner.ensures in
    let owns : false ≡ is_owner (slice_get c.self.inside.task_owners.now c.in_ok-task.task) c.in_ok-reporter.reporter = sym c.if-not-is_owner.true ∙ c.is_owner.ensures ∙ own in
    sample_is (known_by names c.self.inside.task_owners.now) c.args.text.now fields c.in_ok-reporter.reporter c.in_ok-task.task c.in_ok-amount.amount false
    (ap Some c.fields.view_is ∙ c.in_ok-fields.ensures)
    (c.in_ok-reporter.ensures names.reporters c.self.invariant.0) (c.in_ok-task.ensures names.tasks c.self.invariant.1)
    c.in_ok-amount.ensures owns
    ∙ ap (λ (known : Known). sample_of known c.args.text.now) c.self.view_is

pub returns : goal.returns
returns c =
    let names = c.self.inside.names.now in
    let fields : Fields = record { reporter = c.fields.inside.reporter.now; task = c.fields.inside.task.now; amount = c.fields.inside.amount.now } in
    let own = ap (λ (owner : Option ℕ). is_owner owner c.in_ok-reporter.reporter) c.owner_of-owner.ensures in
    let owns : true ≡ is_owner (slice_get c.self.inside.task_owners.now c.in_ok-task.task) c.in_ok-reporter.reporter = sym c.if-not-is_owner.false ∙ c.is_owner.ensures ∙ own in
    sample_is (known_by names c.self.inside.task_owners.now) c.args.text.now fields c.in_ok-reporter.reporter c.in_ok-task.task c.in_ok-amount.amount true
    (ap Some c.fields.view_is ∙ c.in_ok-fields.ensures)
    (c.in_ok-reporter.ensures names.reporters c.self.invariant.0) (c.in_ok-task.ensures names.tasks c.self.invariant.1)
    c.in_ok-amount.ensures owns
    ∙ ap (λ (known : Known). sample_of known c.args.text.now) c.self.view_is
