-- What the definition Document makes of a made document, and that it refuses none.
use Rattle.std.specs.Prelude.{◌≡◌, ℕ, ◌+◌, ◌/◌, ◌%◌, ◌==◌, codes, List, [], ◌∷◌, length, map, flat_map, None, Ok}
use Rattle.std.specs.List.{position_or_len}
use Rattle.bwe_specs.specs.Paths.{Path}
use Rattle.bwe_specs.specs.Reports.{numbers}
use Rattle.bwe_specs.specs.declared.report.Report.{Report}
use Rattle.bwe_specs.specs.declared.report.Target.TheVariants.{Task}
use Rattle.tree_spec.specs.Trees.{task_numbers}
use Rattle.bwe_specs.specs.Given.{Group}
use Rattle.doc_names.specs.NameTexts.{NameTexts}
use Rattle.doc_passes.specs.Numbers.{Numbers}
use Rattle.doc_parts.specs.Document.{Accepted, accepted, document}
use Rattle.doc_maker.specs.Made.{Size, IsSize, drawn, numbered, link_name, task_name, reporter_name, tasks_of, made, made_document}

-- the numbers that the tasks have in their names, in the order of the walk
abbrev pub walked_tasks : Size → List ℕ
walked_tasks size = flat_map (tasks_of size) (numbers size.groups)

-- the number in the walk of the task that has this number in its name
abbrev pub place_of : Size → ℕ → ℕ
place_of size task = position_or_len (λ other. task == other) (walked_tasks size)

abbrev pub made_names : Size → NameTexts
made_names size = record {
  links = map link_name (numbers size.groups);
  groups = map (numbered (codes "g")) (numbers size.groups);
  tasks = map task_name (walked_tasks size);
  reporters = map reporter_name (numbers 4);
}

-- ---- numbers in place of names

abbrev pub numbered_path : ℕ → ℕ → Path
numbered_path weight link = record { weight = weight; links = link ∷ [] }

abbrev pub numbered_group : Size → ℕ → Group
numbered_group size group = record {
  from = codes "a";
  to = codes "b";
  path_groups =
      (numbered_path 1 (group / 2) ∷ [])
      ∷ (numbered_path 1 ((group + 1) % size.groups) ∷ numbered_path 2 ((group + 2) % size.groups)
      ∷ []) ∷ [];
}

-- the report of the task that has this number in its name
abbrev pub numbered_report : Size → ℕ → Report
numbered_report size task =
    record {
      reporter = task % 4;
      target = Task (place_of size task);
      amount = drawn size (size.groups + task);
    }

abbrev pub made_numbers : Size → Numbers
made_numbers size = record {
  link_owners = map (λ link. None) (numbers size.groups);
  groups = map (numbered_group size) (numbers size.groups);
  task_owners = map (λ task. task % 4) (walked_tasks size);
  script = map (numbered_report size) (numbers size.tasks);
  closings = [];
}

-- the accepted document
abbrev pub made_accepted : Size → Accepted
made_accepted size = accepted (made size) (made_names size) (made_numbers size)

-- ---- laws

-- each made document is accepted
abbrev pub MadeDocumentsAreAccepted : Type 0
MadeDocumentsAreAccepted = (size : Size) → IsSize size
    → document (made_document size) ≡ Ok (made_accepted size)

-- so many groups, links, tasks and reports as the size says
pub record HasCounts (size : Size) (document : Accepted) : Type 0 where
  pub groups : length document.groups ≡ size.groups
  pub group_names : length document.names.groups ≡ size.groups
  pub links : length document.links ≡ size.groups
  pub tasks : length (task_numbers document.clusters) ≡ size.tasks
  pub task_names : length document.names.tasks ≡ size.tasks
  pub reports : length document.script ≡ size.tasks

-- the accepted document has the counts of its size
abbrev pub MadeDocumentsHaveTheirCounts : Type 0
MadeDocumentsHaveTheirCounts = (size : Size) → IsSize size → HasCounts size (made_accepted size)
