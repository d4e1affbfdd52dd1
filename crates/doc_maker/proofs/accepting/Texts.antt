-- The text of a made document is read back as its value.
use Rattle.std.proofs.Common.{◌≡◌, ℕ, suc, ◌+◌, ◌*◌, ◌^◌, ◌<◌, ◌/◌, ◌%◌, ◌==◌, Bool, true, false, List, [], ◌∷◌, map, Some, IsUtf8, decimal, refl, arith}
use Rattle.std.specs.Prelude.{codes}
use Rattle.std.proofs.lemmas.Fmt.{IsAscii-decimal}
use Rattle.std.proofs.lemmas.Str.{IsUtf8-append, IsUtf8-from_ascii}
use Rattle.json.proofs.Printed.Utf8.{are_ascii, IsUtf8-are_ascii}
use Rattle.serde_json.specs.Data.{string}
use Rattle.bwe_specs.specs.Reports.{numbers}
use Rattle.raw_document.specs.Words.{word}
use Rattle.raw_document.specs.Json.{json}
use Rattle.doc_maker.specs.Layout.{point_value, function_value, list_value, link_value, path_value, task_value, job_value, user_value, group_value, report_value, document_value}
use Rattle.doc_maker.specs.Made.{Size, IsSize, drawn, link_name, task_name, reporter_name, made_link, made_path, made_path_groups, tasks_of, made_task, made_function, made_job, made_user, made_group, made_report, made, made_document}
use Rattle.doc_maker.proofs.accepting.Layouts.{user_with}
use Rattle.doc_maker.proofs.accepting.Names.{named}
use Rattle.doc_maker.proofs.accepting.Walks.{numbers_below, tasks_below}
use Rattle.doc_maker.proofs.accepting.Printed.{IsPrinted, whole_printed, text_printed, array_printed, list_printed, object_printed, json_back}

name_utf8 : (letter number : ℕ) → are_ascii (letter ∷ []) ≡ true → number < 2 ^ 64 → IsUtf8 (named letter number)
name_utf8 letter number ascii small = IsUtf8-append (letter ∷ []) (decimal number) (IsUtf8-are_ascii (letter ∷ []) ascii) (IsUtf8-from_ascii (decimal number) (IsAscii-decimal number small))

-- a text that is written out
plain_printed : {levels : ℕ} (text : List ℕ) → are_ascii text ≡ true → IsPrinted levels (string text)
plain_printed text ascii = text_printed text (IsUtf8-are_ascii text ascii)

link_name_printed : {levels : ℕ} (link : ℕ) → link < 2 ^ 64 → IsPrinted levels (string (link_name link))
link_name_printed link small = text_printed (link_name link) (name_utf8 108 link refl small)

reporter_name_printed : {levels : ℕ} (reporter : ℕ) → reporter < 2 ^ 64 → IsPrinted levels (string (reporter_name reporter))
reporter_name_printed reporter small = text_printed (reporter_name reporter) (name_utf8 114 reporter refl small)

task_name_printed : {levels : ℕ} (task : ℕ) → task < 2 ^ 64 → IsPrinted levels (string (task_name task))
task_name_printed task small = text_printed (task_name task) (name_utf8 116 task refl small)

-- ---- the objects, each with so many levels as stand open there in the document

point_printed : {levels : ℕ} (share amount : ℕ) → share < 2 ^ 64 → amount < 2 ^ 64 → IsPrinted (suc levels) (point_value (share, amount))
point_printed share amount small small' = array_printed _ (whole_printed share small, (whole_printed amount small', tt))

link_printed : (size : Size) (link : ℕ) → link < 2 ^ 64 → IsPrinted 7 (link_value (made_link size link))
unfolding word
link_printed size link small = object_printed _ refl refl
    (whole_printed (1_000 + drawn size link) (omega arith), (plain_printed (codes "a") refl, (link_name_printed link small, (plain_printed (codes "b") refl, tt))))

path_printed : (weight link : ℕ) → weight < 2 ^ 64 → link < 2 ^ 64 → IsPrinted 4 (path_value (made_path weight link))
unfolding word
path_printed weight link light small = object_printed _ refl refl (array_printed _ (link_name_printed link small, tt), (whole_printed weight light, tt))

function_printed : (size : Size) (group : ℕ) → IsPrinted 2 (function_value (made_function size group))
function_printed size group = array_printed _ (
  point_printed 0 0 (omega arith) (omega arith),
  (
    point_printed 500_000 (100 + drawn size group) (omega arith) (omega arith),
    (point_printed 1_000_000 (200 + 2 * drawn size group) (omega arith) (omega arith), tt),
  ),
)

task_printed : (task : ℕ) → task < 2 ^ 64 → IsPrinted 1 (task_value (made_task task))
unfolding word
task_printed task small = object_printed _ refl refl (task_name_printed task small, (reporter_name_printed (task % 4) (omega arith), tt))

report_printed : (size : Size) (task : ℕ) → task < 2 ^ 64 → IsPrinted 7 (report_value (made_report size task))
unfolding word
report_printed size task small = object_printed _ refl refl
    (whole_printed (drawn size (size.groups + task)) (omega arith), (reporter_name_printed (task % 4) (omega arith), (task_name_printed task small, tt)))

module _ (size : Size) (right : IsSize size) where
  tasks_printed : (group : ℕ) → IsPrinted 2 (list_value task_value (map made_task (tasks_of size group)))
  tasks_printed group = list_printed task_value made_task (λ task. task < size.tasks) (λ task below. task_printed task (omega arith)) (tasks_of size group) (tasks_below size group)

  job_printed : (group : ℕ) → IsPrinted 3 (job_value (made_job size group))
  unfolding word
  job_printed group = object_printed _ refl refl (plain_printed (codes "j0") refl, (function_printed size group, (tasks_printed group, tt)))

  jobs_printed : (group : ℕ) → IsPrinted 4 (list_value job_value (made_job size group ∷ []))
  jobs_printed group = array_printed _ (job_printed group, tt)

  user_printed : (group : ℕ) → IsPrinted 5 (user_value (made_user size group))
  unfolding word
  user_printed group = go (group % 3 == 0) where
    go : (capped : Bool) → IsPrinted 5 (user_value (user_with size group capped))
    go true = object_printed _ refl refl (
      array_printed _ (point_printed 0 0 (omega arith) (omega arith), (point_printed 1_000_000 2_000 (omega arith) (omega arith), tt)),
      (jobs_printed group, (plain_printed (codes "u0") refl, tt)),
    )
    go false = object_printed _ refl refl (jobs_printed group, (plain_printed (codes "u0") refl, tt))

  paths_printed : (group : ℕ) → group < size.groups → IsPrinted 6 (list_value (list_value path_value) (made_path_groups size group))
  paths_printed group below = array_printed _ (
    array_printed _ (path_printed 1 (group / 2) (omega arith) (omega arith), tt),
    (array_printed _ (path_printed 1 ((group + 1) % size.groups) (omega arith) (omega arith), (path_printed 2 ((group + 2) % size.groups) (omega arith) (omega arith), tt)), tt),
  )

  group_printed : (group : ℕ) → group < size.groups → IsPrinted 7 (group_value (made_group size group))
  unfolding word
  group_printed group below = object_printed _ refl refl (
    plain_printed (codes "a") refl,
    (
      text_printed (named 103 group) (name_utf8 103 group refl (omega arith)),
      (
        paths_printed group below,
        (
          plain_printed (codes "b") refl,
          (array_printed _ (user_printed group, tt), tt),
        ),
      ),
    ),
  )

  document_printed : IsPrinted 9 (document_value (made size))
  unfolding word
  document_printed = object_printed _ refl refl (
    list_printed group_value (made_group size) (λ group. group < size.groups) group_printed (numbers size.groups) (numbers_below size.groups),
    (
      list_printed link_value (made_link size) (λ link. link < size.groups) (λ link below. link_printed size link (omega arith)) (numbers size.groups) (numbers_below size.groups),
      (
        list_printed string reporter_name (λ reporter. reporter < 4) (λ reporter below. reporter_name_printed reporter (omega arith)) (numbers 4) (numbers_below 4),
        (
          list_printed report_value (made_report size) (λ task. task < size.tasks) (λ task below. report_printed size task (omega arith)) (numbers size.tasks) (numbers_below size.tasks),
          (whole_printed 1_000_000 (omega arith), (whole_printed 1 (omega arith), tt)),
        ),
      ),
    ),
  )

  -- the bytes are read as the value
  pub made_document_back : json (made_document size) ≡ Some (document_value (made size))
  unfolding made_document
  made_document_back = json_back 9 (document_value (made size)) (omega arith) document_printed
