-- A document with its shape found, and nothing else looked at. Names are bytes, and a function is a
-- list of shares and amounts.
use Rattle.std.specs.Prelude.{ℕ, List, Option, option_map}
use denote.Ref.{Bor}
use Rattle.std.specs.Global.{Vec}
use Rattle.raw_document.specs.Reading.{each_view}
use Rattle.raw_document.specs.declared.raw.RawLink.{RawLink}
use Rattle.raw_document.specs.declared.raw.RawPath.{RawPath}
use Rattle.raw_document.specs.declared.raw.RawTask.{RawTask}
use Rattle.raw_document.specs.declared.raw.RawJob.{RawJob}
use Rattle.raw_document.specs.declared.raw.RawUser.{RawUser}
use Rattle.raw_document.specs.declared.raw.RawGroup.{RawGroup}
use Rattle.raw_document.specs.declared.raw.RawTarget.{RawTarget}
use Rattle.raw_document.specs.declared.raw.RawTarget.TheVariants as targets
use Rattle.raw_document.specs.declared.raw.RawReport.{RawReport}
use Rattle.raw_document.specs.declared.raw.RawClosing.{RawClosing}
use Rattle.raw_document.specs.declared.raw.RawDocument.{RawDocument}

pub record Link : Type 0 where
  pub name : List ℕ
  pub from : List ℕ
  pub to : List ℕ
  pub capacity : ℕ
  pub owner : Option (List ℕ)

pub record Path : Type 0 where
  pub weight : ℕ
  pub links : List (List ℕ)

pub record Task : Type 0 where
  pub name : List ℕ
  pub reporter : List ℕ
  pub weight : ℕ

pub record Job : Type 0 where
  pub name : List ℕ
  pub function : Option (List (ℕ × ℕ))
  pub task : List (ℕ × ℕ)
  pub tasks : List Task

pub record User : Type 0 where
  pub name : List ℕ
  pub function : Option (List (ℕ × ℕ))
  pub jobs : List Job

pub record Group : Type 0 where
  pub name : List ℕ
  pub from : List ℕ
  pub to : List ℕ
  pub function : Option (List (ℕ × ℕ))
  pub path_groups : List (List Path)
  pub users : List User

pub data Target : Type 0 where
  of_task : List ℕ → Target
  of_link : List ℕ → Target

pub record Report : Type 0 where
  pub reporter : List ℕ
  pub target : Target
  pub amount : ℕ

pub record Closing : Type 0 where
  pub link : List ℕ
  pub share : ℕ

pub record Raw : Type 0 where
  pub version : ℕ
  pub top : ℕ
  pub links : List Link
  pub groups : List Group
  pub reporters : List (List ℕ)
  pub script : List Report
  pub closings : List Closing

-- ---- what the code's raw types show

abbrev pub name_view : Bor (List ℕ) → List ℕ
name_view name = name.now

abbrev pub link_view : RawLink → Link
link_view link =
    record {
      name = link.name.now;
      from = link.from.now;
      to = link.to.now;
      capacity = link.capacity;
      owner = option_map name_view link.owner;
    }

abbrev pub path_view : RawPath → Path
path_view path = record { weight = path.weight; links = each_view name_view path.links }

abbrev pub path_group_view : Vec RawPath → List Path
path_group_view path_group = each_view path_view path_group

abbrev pub task_view : RawTask → Task
task_view task = record { name = task.name.now; reporter = task.reporter.now; weight = task.weight }

abbrev pub function_view : Option (Vec (ℕ × ℕ)) → Option (List (ℕ × ℕ))
function_view function = option_map (λ points. points.items) function

abbrev pub job_view : RawJob → Job
job_view job =
    record {
      name = job.name.now;
      function = function_view job.function;
      task = job.task.items;
      tasks = each_view task_view job.tasks;
    }

abbrev pub user_view : RawUser → User
user_view user =
    record {
      name = user.name.now;
      function = function_view user.function;
      jobs = each_view job_view user.jobs;
    }

abbrev pub group_view : RawGroup → Group
group_view group = record {
  name = group.name.now;
  from = group.from.now;
  to = group.to.now;
  function = function_view group.function;
  path_groups = each_view path_group_view group.path_groups;
  users = each_view user_view group.users;
}

abbrev pub target_view : RawTarget → Target
target_view (targets.Task name) = of_task name.now
target_view (targets.Link name) = of_link name.now

abbrev pub report_view : RawReport → Report
report_view report =
    record {
      reporter = report.reporter.now;
      target = target_view report.target;
      amount = report.amount;
    }

abbrev pub closing_view : RawClosing → Closing
closing_view closing = record { link = closing.link.now; share = closing.share }

abbrev pub raw_view : RawDocument → Raw
raw_view document = record {
  version = document.version;
  top = document.top;
  links = each_view link_view document.links;
  groups = each_view group_view document.groups;
  reporters = each_view name_view document.reporters;
  script = each_view report_view document.script;
  closings = each_view closing_view document.closings;
}
