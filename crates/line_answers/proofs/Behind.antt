-- Reports behind the script of a document.
use Rattle.std.proofs.Common.{◌≡◌, ℕ, ◌-◌, ◌<◌, ◌≤◌, List, ◌++◌, length, Option, Some, None, Vec, Global, ap, sym, subst, ◌∙◌, arith, length-append}
use Rattle.std.specs.Prelude.{All, get_or}
use Rattle.std.proofs.lemmas.List.Elements.{All-append, All-get_or}
use Rattle.std.proofs.lemmas.Option.{get_or_from_slice_get, slice_get_within}
use Rattle.bwe_specs.specs.declared.limits.TheConstants.{MAX_REPORTS}
use Rattle.bwe_specs.specs.declared.report.Report.{Report}
use Rattle.bwe_specs.specs.declared.report.Target.{Target}
use Rattle.bwe_specs.specs.declared.report.Target.TheVariants.{Task, Link}
use Rattle.bwe_specs.specs.Fit.{IsFit}
use Rattle.doc_passes.specs.Passed.{IsReport}
use Rattle.plan_doc.specs.declared.document.Document.{Document}
use Rattle.plan_doc.specs.Conditions.{IsUsable, link_count, reporter_count, tasks_in, IsByOwner as IsByOwnerIn}
use Rattle.plan_doc.specs.Owners.{owner_of}
use Rattle.sample_lines.specs.Held.{IsByOwner, owner_in}

owner_below : (owners : List ℕ) (reporters reporter : ℕ) (target : Target) → All (λ owner. owner < reporters) owners → owner_in owners target ≡ Some reporter → reporter < reporters
owner_below owners reporters reporter (Task task) below is =
    subst (λ owner. owner < reporters) (get_or_from_slice_get owners task reporter 0 is)
    (All-get_or (λ owner. owner < reporters) owners task 0 (slice_get_within owners task reporter is) below)
owner_below owners reporters reporter (Link link) below is = absurd (let none : None ≡ Some reporter = is in cc)

owner_in_document : (task_owners : List ℕ) (link_owners : List (Option ℕ)) (reporter : ℕ) (target : Target) → owner_in task_owners target ≡ Some reporter → owner_of task_owners link_owners target ≡ Some reporter
owner_in_document task_owners link_owners reporter (Task task) is = is
owner_in_document task_owners link_owners reporter (Link link) is = absurd (let none : None ≡ Some reporter = is in cc)

abbrev with_script : Document → Vec Report Global → Document
with_script document script = record {
  version = document.version;
  tree = document.tree;
  topology = document.topology;
  plan = document.plan;
  script = script;
  closings = document.closings;
  names = document.names;
  task_owners = document.task_owners;
  link_owners = document.link_owners;
}

module _ (document : Document) (reports : List Report) (usable : IsUsable document) (fit : (links : ℕ) → All (IsFit (length document.names.tasks) links) reports) (owned : All (IsByOwner document.task_owners.items) reports) where
  task_count : length document.names.tasks ≡ tasks_in document
  task_count = usable.task_names

  all_reports : All (IsReport (link_count document) (tasks_in document) (reporter_count document)) reports
  all_reports = λ place other within. (
    owner_below document.task_owners.items (reporter_count document) _ _ usable.task_owners_below (owned place other within),
    subst (λ tasks. IsFit tasks (link_count document) (get_or reports place other)) task_count (fit (link_count document) place other within),
  )

  all_owned : All (IsByOwnerIn document) reports
  all_owned = λ place other within. owner_in_document document.task_owners.items document.link_owners.items _ _ (owned place other within)

  -- a document stays usable with reports by the owners of its tasks behind its script
  pub usable_behind : (script : Vec Report Global) → script.items ≡ document.script.items ++ reports → length reports ≤ MAX_REPORTS - length document.script.items → IsUsable (with_script document script)
  usable_behind script is few = record {
    built_on = usable.built_on;
    groups = usable.groups;
    idle = usable.idle;
    link_names = usable.link_names;
    group_names = usable.group_names;
    task_names = usable.task_names;
    few_reporters = usable.few_reporters;
    task_owners = usable.task_owners;
    task_owners_below = usable.task_owners_below;
    link_owners = usable.link_owners;
    link_owners_below = usable.link_owners_below;
    few_reports = omega (arith, ap length is, length-append document.script.items reports, usable.few_reports, few);
    reports = subst (λ (all : List Report). All (IsReport (link_count document) (tasks_in document) (reporter_count document)) all) (sym is)
        (All-append (IsReport (link_count document) (tasks_in document) (reporter_count document)) document.script.items reports usable.reports all_reports);
    by_owners = subst (λ (all : List Report). All (IsByOwnerIn document) all) (sym is)
        (All-append (IsByOwnerIn document) document.script.items reports usable.by_owners all_owned);
    closings = usable.closings;
  }
