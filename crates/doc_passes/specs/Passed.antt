-- What the passes on names and numbers show of a document that they let through.
use Rattle.std.specs.Prelude.{◌≡◌, ℕ, ◌<◌, ◌≤◌, length, Option, Some, None, All}
use Rattle.bwe_specs.specs.declared.limits.TheConstants.{MAX_CLOSINGS, MAX_GROUPS, MAX_REPORTERS, MAX_REPORTS, MAX_SHARE}
use Rattle.bwe_specs.specs.declared.network.Closing.{Closing}
use Rattle.bwe_specs.specs.declared.report.Report.{Report}
use Rattle.bwe_specs.specs.Fit.{IsFit}
use Rattle.bwe_specs.specs.Given.{AreInRange}
use Rattle.raw_document.specs.Raw.{Raw}
use Rattle.doc_passes.specs.Counts.{task_count}
use Rattle.doc_passes.specs.InRange.{IsInRange}
use Rattle.doc_names.specs.NameTexts.{NameTexts}
use Rattle.doc_passes.specs.Numbers.{Numbers}

-- no list is too long
pub record AreFew (raw : Raw) : Type 0 where
  pub groups : length raw.groups ≤ MAX_GROUPS
  pub reporters : length raw.reporters ≤ MAX_REPORTERS
  pub script : length raw.script ≤ MAX_REPORTS
  pub closings : length raw.closings ≤ MAX_CLOSINGS

-- there is a name for each link, group, task and reporter
pub record AreNamesOf (raw : Raw) (names : NameTexts) : Type 0 where
  pub links : length names.links ≡ length raw.links
  pub groups : length names.groups ≡ length raw.groups
  pub tasks : length names.tasks ≡ task_count raw.groups
  pub reporters : length names.reporters ≡ length raw.reporters

-- the link has no owner, or one of so many reporters
abbrev pub HasOwnerBelow : ℕ → Option ℕ → Type 0
HasOwnerBelow reporters None = Unit {0}
HasOwnerBelow reporters (Some owner) = owner < reporters

-- the report is by one of so many reporters, and fits so many links and tasks
abbrev pub IsReport : ℕ → ℕ → ℕ → Report → Type 0
IsReport links tasks reporters report = (report.reporter < reporters) × IsFit tasks links report

-- the closing is of one of so many links, at a share that a document may have
abbrev pub IsClosing : ℕ → Closing → Type 0
IsClosing links closing = (closing.link < links) × (closing.share ≤ MAX_SHARE)

-- each number is below the number of links, tasks or reporters that there are
pub record AreNumbersOf (links tasks reporters : ℕ) (document : Raw) (numbers : Numbers)
    : Type 0 where
  pub link_owners : length numbers.link_owners ≡ length document.links
  pub link_owners_below : All (HasOwnerBelow reporters) numbers.link_owners
  pub groups : length numbers.groups ≡ length document.groups
  pub in_range : AreInRange links numbers.groups
  pub task_owners : length numbers.task_owners ≡ task_count document.groups
  pub task_owners_below : All (λ owner. owner < reporters) numbers.task_owners
  pub script : length numbers.script ≡ length document.script
  pub reports : All (IsReport links tasks reporters) numbers.script
  pub closing_count : length numbers.closings ≡ length document.closings
  pub closings : All (IsClosing links) numbers.closings

-- the document has passed the refusals 3 to 6
pub record HasPassed (raw : Raw) (names : NameTexts) (numbers : Numbers) : Type 0 where
  pub few : AreFew raw
  pub range : IsInRange raw
  pub each_named : AreNamesOf raw names
  pub each_numbered : AreNumbersOf (length raw.links) (task_count raw.groups) (length raw.reporters)
      raw numbers
