-- No name of a made document stands twice.
use Rattle.std.proofs.Common.{inl, inr, ◌≡◌, ◌≢◌, ℕ, zero, suc, ◌+◌, ◌<◌, ◌≤◌, ◌%◌, ◌==◌, Bool, true, false, List, [], ◌∷◌, ◌++◌, map, get_or, Result, Ok, refl, sym, ap, subst, ◌∙◌, arith, append-nil, append_assoc}
use Rattle.std.specs.Prelude.{All, flat_map, filter, codes}
use Rattle.std.specs.List.{list_any, range_with_len}
use Rattle.std.specs.Str.{bytes_eq}
use Rattle.std.proofs.lemmas.Bool.{cases_Bool, eqb-true, ne_eqb}
use Rattle.std.proofs.lemmas.Grind.{flat_map-append}
use Rattle.std.proofs.lemmas.List.{map_push}
use Rattle.std.proofs.lemmas.List.Elements.{All-nil, All-head, All-tail, All-append, All-map, All-weaker, All-push, filter_passes}
use Rattle.std.proofs.lemmas.List.Folds.{list_any_none}
use Rattle.raw_document.specs.declared.key.DocKey.TheVariants as keys
use Rattle.raw_document.specs.declared.doc_path.PathStep.{PathStep}
use Rattle.raw_document.specs.declared.doc_path.PathStep.TheVariants.{Key, Index}
use Rattle.raw_document.specs.Reading.{◌>>=◌, under, fold_each}
use Rattle.bwe_specs.specs.Reports.{numbers}
use Rattle.doc_passes.specs.Names.{fresh, fresh_name, add_link, add_task, add_job, add_user, add_group, name_lists}
use Rattle.doc_maker.specs.Made.{Size, IsSize, link_name, task_name, reporter_name, made_link, tasks_of, made_task, made_job, made_user, made_group, made}
use Rattle.doc_maker.specs.Accepting.{made_names}
use Rattle.doc_maker.proofs.accepting.Walks.{tasks_below}
use Rattle.doc_maker.proofs.accepting.Names.{named, bytes_eq-named}

-- the other number is another, and small
pub record IsOther (number other : ℕ) : Type 0 where
  pub small : other < 100_000
  pub different : number ≢ other

-- a name does not stand among those of other numbers
pub absent : (letter : ℕ) (before : List ℕ) (number : ℕ) → number < 100_000 → All (IsOther number) before → list_any (bytes_eq (named letter number)) (map (named letter) before) ≡ false
absent letter before number small others =
    list_any_none (bytes_eq (named letter number)) (map (named letter) before)
    (All-map (λ name. bytes_eq (named letter number) name ≡ false) (named letter) before (All-weaker (IsOther number) (λ other. bytes_eq (named letter number) (named letter other) ≡ false) distinct before others)) where
      distinct : (other : ℕ) → IsOther number other → bytes_eq (named letter number) (named letter other) ≡ false
      distinct other is = bytes_eq-named letter number other (omega arith) (omega arith) ∙ ne_eqb number other is.different

fresh_named : (letter : ℕ) (before : List ℕ) (number : ℕ) → number < 100_000 → All (IsOther number) before
    → fresh (map (named letter) before) (named letter number) ≡ Ok (map (named letter) (before ++ number ∷ []))
unfolding fresh
fresh_named letter before number small others = rw (absent letter before number small others, map_push (named letter) before number) refl

-- it is small, and where it passes the test it is below the next number
pub record IsEarlier (test : ℕ → Bool) (low number : ℕ) : Type 0 where
  pub small : number < 100_000
  pub earlier : test number ≡ true → number < low

later : (test : ℕ → Bool) (low number : ℕ) → IsEarlier test low number → IsEarlier test (low + 1) number
later test low number is = record { small = is.small; earlier = λ passes. let below : number < low = is.earlier passes in omega arith }

differs : (test : ℕ → Bool) (low : ℕ) → test low ≡ true → (number : ℕ) → IsEarlier test low number → IsOther low number
differs test low passes number is = record { small = is.small; different = λ same. let below : number < low = is.earlier (subst (λ n. test n ≡ true) same passes) in absurd (omega arith) }

-- the numbers from one on that pass a test are put behind those before one by one
module _ {S A : Type 0} (step : S → A → Result S (List PathStep)) (item : ℕ → A) (out : List ℕ → S) (test : ℕ → Bool) (limit : ℕ)
    (few : limit ≤ 100_000)
    (puts : (before : List ℕ) (number : ℕ) → number < limit → All (IsOther number) before → step (out before) (item number) ≡ Ok (out (before ++ number ∷ []))) where
  pub puts_all : (place low n : ℕ) (before : List ℕ) → low + n ≤ limit → All (IsEarlier test low) before
      → fold_each step place (out before) (map item (filter test (range_with_len low n))) ≡ Ok (out (before ++ filter test (range_with_len low n)))
  unfolding fold_each
  puts_all place low zero before within earlier = ap (λ all. Ok (out all)) (sym (append-nil before))
  puts_all place low (suc n) before within earlier = elim (cases_Bool (test low)) as (λ _. fold_each step place (out before) (map item (filter test (range_with_len low (suc n)))) ≡ Ok (out (before ++ filter test (range_with_len low (suc n))))) [
    | inl passes ↦ rw passes (
        ap (λ q. under (Index place) q >>= λ next. fold_each step (suc place) next (map item (filter test (range_with_len (low + 1) n)))) (puts before low (omega arith) (All-weaker (IsEarlier test low) (IsOther low) (differs test low passes) before earlier))
        ∙ puts_all (suc place) (low + 1) n (before ++ low ∷ []) (omega arith)
        (All-push (IsEarlier test (low + 1)) before low (All-weaker (IsEarlier test low) (IsEarlier test (low + 1)) (later test low) before earlier) (record { small = omega arith; earlier = λ _. omega arith }))
        ∙ ap (λ all. Ok (out all)) (append_assoc before (low ∷ []) (filter test (range_with_len (low + 1) n))))
    | inr fails ↦ rw fails (puts_all place (low + 1) n before (omega arith) (All-weaker (IsEarlier test low) (IsEarlier test (low + 1)) (later test low) before earlier))
  ]

-- ---- one name more

pub filter_all : (xs : List ℕ) → filter (λ _. true) xs ≡ xs
filter_all [] = refl
filter_all (x ∷ xs) = ap (λ rest. x ∷ rest) (filter_all xs)

named_ok : (before after : List (List ℕ)) (name : List ℕ) → fresh before name ≡ Ok after → fresh_name before name ≡ Ok after
named_ok before after name is = ap (under (Key keys.Name)) is

link_named : (size : Size) (before : List ℕ) (link : ℕ) → link < 100_000 → All (IsOther link) before → add_link (map link_name before) (made_link size link) ≡ Ok (map link_name (before ++ link ∷ []))
link_named size before link small others = named_ok (map link_name before) (map link_name (before ++ link ∷ [])) (link_name link) (fresh_named 108 before link small others)

task_named : (before : List ℕ) (task : ℕ) → task < 100_000 → All (IsOther task) before → add_task (map task_name before) (made_task task) ≡ Ok (map task_name (before ++ task ∷ []))
task_named before task small others = named_ok (map task_name before) (map task_name (before ++ task ∷ [])) (task_name task) (fresh_named 116 before task small others)

module _ (size : Size) (right : IsSize size) where
  -- ---- the names of the groups' tasks, group by group

  -- a task of another group
  record IsElsewhere (group task : ℕ) : Type 0 where
    small : task < 100_000
    elsewhere : task % size.groups ≢ group

  earlier_task : (group task : ℕ) → IsElsewhere group task → IsEarlier (λ other. other % size.groups == group) 0 task
  earlier_task group task is = record { small = is.small; earlier = λ passes. absurd (is.elsewhere (eqb-true (task % size.groups) group passes)) }

  tasks_named : (group : ℕ) (before : List ℕ) → All (IsElsewhere group) before
      → fold_each add_task 0 (map task_name before) (map made_task (tasks_of size group)) ≡ Ok (map task_name (before ++ tasks_of size group))
  tasks_named group before elsewhere =
      puts_all add_task made_task (map task_name) (λ other. other % size.groups == group) 100_000 (omega arith) task_named 0 0 size.tasks before (omega arith)
      (All-weaker (IsElsewhere group) (IsEarlier (λ other. other % size.groups == group) 0) (earlier_task group) before elsewhere)

  job_named : (group : ℕ) (before : List ℕ) → All (IsElsewhere group) before
      → add_job ([], map task_name before) (made_job size group) ≡ Ok (codes "j0" ∷ [], map task_name (before ++ tasks_of size group))
  unfolding add_job fresh
  job_named group before elsewhere = rw (tasks_named group before elsewhere) refl

  user_named : (group : ℕ) (before : List ℕ) → All (IsElsewhere group) before
      → add_user ([], map task_name before) (made_user size group) ≡ Ok (codes "u0" ∷ [], map task_name (before ++ tasks_of size group))
  unfolding add_user fresh fold_each
  user_named group before elsewhere = rw (job_named group before elsewhere) refl

  -- the names of the first groups, and of their tasks
  abbrev out : List ℕ → List (List ℕ) × List (List ℕ)
  out groups = (map (named 103) groups, map task_name (flat_map (tasks_of size) groups))

  in_group : (group : ℕ) → All (λ task. task % size.groups ≡ group) (tasks_of size group)
  in_group group = All-weaker (λ task. (task % size.groups == group) ≡ true) (λ task. task % size.groups ≡ group) (λ task passes. eqb-true (task % size.groups) group passes) (tasks_of size group) (filter_passes (λ task. task % size.groups == group) (numbers size.tasks))

  tasks_elsewhere : (group apart : ℕ) → group ≢ apart → All (IsElsewhere group) (tasks_of size apart)
  tasks_elsewhere group apart different k d within =
      let small : get_or (tasks_of size apart) k d < size.tasks = tasks_below size apart k d within in
      let there : get_or (tasks_of size apart) k d % size.groups ≡ apart = in_group apart k d within in
      record { small = omega arith; elsewhere = λ here. different (sym here ∙ there) }

  all_elsewhere : (group : ℕ) (others : List ℕ) → All (IsOther group) others → All (IsElsewhere group) (flat_map (tasks_of size) others)
  all_elsewhere group [] known = All-nil (IsElsewhere group)
  all_elsewhere group (other ∷ others) known =
      All-append (IsElsewhere group) (tasks_of size other) (flat_map (tasks_of size) others) (tasks_elsewhere group other (All-head (IsOther group) other others known).different) (all_elsewhere group others (All-tail (IsOther group) other others known))

  one_more : (before : List ℕ) (group : ℕ) → flat_map (tasks_of size) (before ++ group ∷ []) ≡ flat_map (tasks_of size) before ++ tasks_of size group
  one_more before group = flat_map-append (tasks_of size) before (group ∷ []) ∙ ap (λ rest. flat_map (tasks_of size) before ++ rest) (append-nil (tasks_of size group))

  group_named : (before : List ℕ) (group : ℕ) → group < 100_000 → All (IsOther group) before → add_group (out before) (made_group size group) ≡ Ok (out (before ++ group ∷ []))
  unfolding add_group fold_each
  group_named before group small others =
      rw (
        named_ok (map (named 103) before) (map (named 103) (before ++ group ∷ [])) (named 103 group) (fresh_named 103 before group small others),
        user_named group (flat_map (tasks_of size) before) (all_elsewhere group before others),
        one_more before group,
      ) refl

  earlier_none : (test : ℕ → Bool) → All (IsEarlier test 0) []
  earlier_none test = All-nil (IsEarlier test 0)

  links_named : fold_each add_link 0 [] (map (made_link size) (numbers size.groups)) ≡ Ok (map link_name (numbers size.groups))
  links_named = rw (← filter_all (numbers size.groups)) (puts_all add_link (made_link size) (map link_name) (λ _. true) 100_000 (omega arith) (link_named size) 0 0 size.groups [] (omega arith) (earlier_none (λ _. true)))

  groups_named : fold_each add_group 0 ([], []) (map (made_group size) (numbers size.groups)) ≡ Ok (out (numbers size.groups))
  groups_named = rw (← filter_all (numbers size.groups)) (puts_all add_group (made_group size) out (λ _. true) 100_000 (omega arith) group_named 0 0 size.groups [] (omega arith) (earlier_none (λ _. true)))

  reporters_named : fold_each fresh 0 [] (map reporter_name (numbers 4)) ≡ Ok (map reporter_name (numbers 4))
  reporters_named = puts_all fresh reporter_name (map reporter_name) (λ _. true) 100_000 (omega arith) (fresh_named 114) 0 0 4 [] (omega arith) (earlier_none (λ _. true))

  pub made_named : name_lists (made size) ≡ Ok (made_names size)
  unfolding name_lists
  made_named = rw (links_named, groups_named, reporters_named) refl
