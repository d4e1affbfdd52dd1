-- The value of a made document is read as that document.
use Rattle.std.proofs.Common.{◌≡◌, ℕ, ◌%◌, ◌==◌, Bool, true, false, List, [], ◌∷◌, map, Some, None, Result, Ok, refl, ap, ◌∙◌}
use Rattle.std.specs.Prelude.{codes, if◌then◌else◌}
use Rattle.serde_json.specs.Data.{Data, string}
use Rattle.bwe_specs.specs.Reports.{numbers}
use Rattle.doc_passes.proofs.Readings.{All-anything}
use Rattle.raw_document.specs.declared.doc_path.PathStep.{PathStep}
use Rattle.raw_document.specs.Words.{word}
use Rattle.raw_document.specs.Reading.{each}
use Rattle.raw_document.specs.Shape.{whole, text, pair_of, point, function, field, optional, object, list_of, is_one_of, has_only, has_all}
use Rattle.raw_document.specs.Forms.{link_at, path_at, task_at, job_at, user_at, group_at, is_of_link, demand_at, report_at, document_at}
use Rattle.raw_document.specs.Raw.{User}
use Rattle.raw_document.proofs.Lists.{list_items-items_of}
use Rattle.doc_maker.specs.Layout.{list_value, function_value, link_value, path_value, task_value, job_value, user_value, group_value, report_value, document_value}
use Rattle.doc_maker.specs.Made.{Size, made_link, made_path_groups, made_task, made_function, made_job, made_user, made_group, made_report, tasks_of, reporter_name, made}
use Rattle.doc_maker.proofs.accepting.Readings.{each_mapped}

-- the value of a mapped list is read item by item
list_back : {X A B : Type 0} (read : Data → Result B (List PathStep)) (value : A → Data) (item : X → A) (out : X → B)
    → ((x : X) → read (value (item x)) ≡ Ok (out x)) → (xs : List X) → list_of read (list_value value (map item xs)) ≡ Ok (map out xs)
unfolding list_of
list_back {X = X} read value item out reads xs = ap (each read 0) (list_items-items_of (map value (map item xs)) ∙ mapped xs) ∙ each_mapped read (λ x. value (item x)) out (λ _. Unit {0}) (λ x _. reads x) 0 xs (All-anything xs) where
  mapped : (xs : List X) → map value (map item xs) ≡ map (λ x. value (item x)) xs
  mapped [] = refl
  mapped (x ∷ xs) = ap (λ rest. value (item x) ∷ rest) (mapped xs)

link_back : (size : Size) (link : ℕ) → link_at 1 (link_value (made_link size link)) ≡ Ok (made_link size link)
unfolding link_at whole text field optional object is_one_of has_only has_all word
link_back size link = refl

task_back : (task : ℕ) → task_at 1 (task_value (made_task task)) ≡ Ok (made_task task)
unfolding task_at whole text field optional object is_one_of has_only has_all word
task_back task = refl

report_back : (size : Size) (task : ℕ) → report_at 1 (report_value (made_report size task)) ≡ Ok (made_report size task)
unfolding report_at is_of_link demand_at whole text field optional object is_one_of has_only has_all word
report_back size task = refl

function_back : (size : Size) (group : ℕ) → function (function_value (made_function size group)) ≡ Ok (made_function size group)
unfolding list_of each point pair_of
function_back size group = refl

paths_back : (size : Size) (group : ℕ) → list_of (list_of path_at) (list_value (list_value path_value) (made_path_groups size group)) ≡ Ok (made_path_groups size group)
unfolding list_of each path_at whole text field optional object is_one_of has_only has_all word
paths_back size group = refl

job_back : (size : Size) (group : ℕ) → job_at 1 (job_value (made_job size group)) ≡ Ok (made_job size group)
unfolding job_at text field optional object is_one_of has_only has_all word
job_back size group = rw (function_back size group, list_back (task_at 1) task_value made_task made_task task_back (tasks_of size group)) refl

-- a user with a function or without
abbrev pub user_with : Size → ℕ → Bool → User
user_with size group capped = record { name = codes "u0"; function = if capped then Some ((0, 0) ∷ (1_000_000, 2_000) ∷ []) else None; jobs = made_job size group ∷ [] }

user_back : (size : Size) (group : ℕ) → user_at 1 (user_value (made_user size group)) ≡ Ok (made_user size group)
unfolding user_at list_of each point pair_of text field optional object is_one_of has_only has_all word
user_back size group = go (group % 3 == 0) where
  go : (capped : Bool) → user_at 1 (user_value (user_with size group capped)) ≡ Ok (user_with size group capped)
  go true = rw (job_back size group) refl
  go false = rw (job_back size group) refl

group_back : (size : Size) (group : ℕ) → group_at 1 (group_value (made_group size group)) ≡ Ok (made_group size group)
unfolding group_at list_of each text field optional object is_one_of has_only has_all word
group_back size group = rw (paths_back size group, user_back size group) refl

texts_back : {X : Type 0} (name : X → List ℕ) (xs : List X) → list_of text (list_value string (map name xs)) ≡ Ok (map name xs)
unfolding text
texts_back name xs = list_back text string name name (λ x. refl) xs

-- the document's value is read as the document
pub made_back : (size : Size) → document_at (document_value (made size)) ≡ Ok (made size)
unfolding document_at whole field optional object is_one_of has_only has_all word
made_back size =
    rw (
      list_back (link_at 1) link_value (made_link size) (made_link size) (link_back size) (numbers size.groups),
      list_back (group_at 1) group_value (made_group size) (made_group size) (group_back size) (numbers size.groups),
      texts_back reporter_name (numbers 4),
      list_back (report_at 1) report_value (made_report size) (made_report size) (report_back size) (numbers size.tasks),
    ) refl
