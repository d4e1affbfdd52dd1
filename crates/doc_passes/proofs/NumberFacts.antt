-- The numbers of a document whose names are known are in range.
use Rattle.std.proofs.Common.{◌≡◌, ℕ, ◌+◌, ◌<◌, ◌≤◌, List, [], ◌∷◌, ◌++◌, length, Option, Some, None, Result, Ok, sym, ap, subst, ◌∙◌, arith, length-append}
use Rattle.std.specs.Prelude.{All, position}
use Rattle.std.specs.Str.{bytes_eq}
use Rattle.std.proofs.lemmas.List.Elements.{All-nil, All-push, All-same}
use Rattle.std.proofs.lemmas.List.Quantifiers.{position-Some}
use Rattle.bwe_specs.specs.declared.limits.TheConstants.{MAX_AMOUNT, MAX_SHARE}
use Rattle.bwe_specs.specs.declared.network.Closing.{Closing}
use Rattle.bwe_specs.specs.declared.report.Target.{Target}
use Rattle.bwe_specs.specs.declared.report.Target.TheVariants as targets
use Rattle.bwe_specs.specs.declared.report.Report.{Report}
use Rattle.bwe_specs.specs.Paths.{Path, PathGroup, PathGroups}
use Rattle.bwe_specs.specs.Fit.{IsInRange}
use Rattle.bwe_specs.specs.Given.{Group, AreInRange}
use Rattle.raw_document.specs.declared.key.DocKey.{DocKey}
use Rattle.raw_document.specs.declared.key.DocKey.TheVariants as keys
use Rattle.raw_document.specs.declared.doc_path.PathStep.{PathStep}
use Rattle.raw_document.specs.declared.doc_path.PathStep.TheVariants.{Key}
use Rattle.raw_document.specs.Reading.{◌>>=◌, under, or_fault, each, fold_each}
use Rattle.raw_document.specs.Raw as raw
use Rattle.doc_passes.specs.Limits.{sum_of}
use Rattle.doc_passes.specs.Counts.{job_tasks, user_tasks, group_tasks, task_count}
use Rattle.doc_passes.specs.Passed.{HasOwnerBelow, IsReport, IsClosing, AreNumbersOf}
use Rattle.doc_passes.specs.Names.{number_in, fold_member}
use Rattle.doc_passes.specs.Numbers.{Numbers, owner_number, link_owner, path_numbers, path_groups_numbers, add_task_owner, add_job_owners, add_user_owners, group_part, add_group_numbers, target_number, report_numbers, closing_numbers, numbers}
use Rattle.doc_passes.proofs.Readings.{bind_ok, under_ok, ok_is, each_all, length-each, All-anything, fold_keeps, fold_grows, sum_of-one}

-- ---- one name

or_fault_ok : {A : Type 0} (o : Option A) (x : A) → or_fault o ≡ Ok x → o ≡ Some x
or_fault_ok None x e = absurd cc
or_fault_ok (Some y) x e = ap Some (ok_is y x e)

number_below : (names : List (List ℕ)) (name : List ℕ) (number : ℕ) → number_in names name ≡ Ok number → number < length names
unfolding number_in
number_below names name number e = (position-Some (bytes_eq name) names number [] (or_fault_ok (position (bytes_eq name) names) number e)).0

member_below : (key : DocKey) (names : List (List ℕ)) (name : List ℕ) (number : ℕ) → under (Key key) (number_in names name) ≡ Ok number → number < length names
member_below key names name number e = number_below names name number (under_ok (Key key) (number_in names name) number e)

-- ---- the links of paths

abbrev IsBelow : ℕ → Path → Type 0
IsBelow links path = All (λ link. link < links) path.links

path_below : (links : List (List ℕ)) (path : raw.Path) (found : Path) → Unit {0} → path_numbers links path ≡ Ok found → IsBelow (length links) found
unfolding path_numbers
path_below links path found _ e =
    let numbers = bind_ok (under (Key keys.Links) (each (number_in links) 0 path.links)) (λ numbers. Ok (record { weight = path.weight; links = numbers })) found e in
    let is : record { weight = path.weight; links = numbers.0 } ≡ found = ok_is (record { weight = path.weight; links = numbers.0 }) found numbers.2 in
    let below : All (λ link. link < length links) numbers.0 = each_all (number_in links) (λ _. Unit {0}) (λ link. link < length links) (λ name number _ step. number_below links name number step) 0 path.links numbers.0 (All-anything path.links) (under_ok (Key keys.Links) (each (number_in links) 0 path.links) numbers.0 numbers.1) in
    All-same (λ link. link < length links) found.links numbers.0 (sym (ap (λ (p : Path). p.links) is)) below

path_group_below : (links : List (List ℕ)) (path_group : List raw.Path) (found : PathGroup) → Unit {0} → each (path_numbers links) 0 path_group ≡ Ok found → All (IsBelow (length links)) found
path_group_below links path_group found _ e = each_all (path_numbers links) (λ _. Unit {0}) (IsBelow (length links)) (path_below links) 0 path_group found (All-anything path_group) e

path_groups_below : (links : List (List ℕ)) (path_groups : List (List raw.Path)) (found : List PathGroup) → path_groups_numbers links path_groups ≡ Ok found → All (All (IsBelow (length links))) found
path_groups_below links path_groups found e =
    each_all (each (path_numbers links) 0) (λ _. Unit {0}) (All (IsBelow (length links))) (path_group_below links) 0 path_groups found (All-anything path_groups)
    (under_ok (Key keys.Paths) (each (each (path_numbers links) 0) 0 path_groups) found e)

-- ---- the owners of tasks

module _ (reporters : List (List ℕ)) where
  abbrev Owners : List ℕ → Type 0
  Owners owners = All (λ owner. owner < length reporters) owners

  task_owner : (before after : List ℕ) (task : raw.Task) → add_task_owner reporters before task ≡ Ok after → (owner : ℕ) × (owner < length reporters) × (after ≡ before ++ owner ∷ [])
  unfolding add_task_owner
  task_owner before after task e =
      let owner = bind_ok (under (Key keys.Reporter) (number_in reporters task.reporter)) (λ owner. Ok (before ++ owner ∷ [])) after e in
      (owner.0, member_below keys.Reporter reporters task.reporter owner.0 owner.1, sym (ok_is (before ++ owner.0 ∷ []) after owner.2))

  task_keeps : (before after : List ℕ) (task : raw.Task) → Owners before → add_task_owner reporters before task ≡ Ok after → Owners after
  task_keeps before after task known e =
      let added = task_owner before after task e in
      All-same (λ owner. owner < length reporters) after (before ++ added.0 ∷ []) added.2 (All-push (λ owner. owner < length reporters) before added.0 known added.1)

  task_grows : (before after : List ℕ) (task : raw.Task) → add_task_owner reporters before task ≡ Ok after → length after ≡ length before + 1
  task_grows before after task e = let added = task_owner before after task e in let is : length after ≡ length (before ++ added.0 ∷ []) = ap length added.2 in omega (arith, length-append before (added.0 ∷ []))

  job_keeps : (before after : List ℕ) (job : raw.Job) → Owners before → add_job_owners reporters before job ≡ Ok after → Owners after
  job_keeps before after job known e =
      fold_keeps (add_task_owner reporters) Owners task_keeps 0 before job.tasks after known (under_ok (Key keys.Tasks) (fold_each (add_task_owner reporters) 0 before job.tasks) after e)

  job_grows : (before after : List ℕ) (job : raw.Job) → add_job_owners reporters before job ≡ Ok after → length after ≡ length before + job_tasks job
  job_grows before after job e =
      let grown : length after ≡ length before + sum_of (λ _. 1) job.tasks = fold_grows (add_task_owner reporters) length (λ _. 1) task_grows 0 before job.tasks after (under_ok (Key keys.Tasks) (fold_each (add_task_owner reporters) 0 before job.tasks) after e) in
      omega (arith, sum_of-one job.tasks)

  user_keeps : (before after : List ℕ) (user : raw.User) → Owners before → add_user_owners reporters before user ≡ Ok after → Owners after
  user_keeps before after user known e =
      fold_keeps (add_job_owners reporters) Owners job_keeps 0 before user.jobs after known (under_ok (Key keys.Jobs) (fold_each (add_job_owners reporters) 0 before user.jobs) after e)

  user_grows : (before after : List ℕ) (user : raw.User) → add_user_owners reporters before user ≡ Ok after → length after ≡ length before + user_tasks user
  user_grows before after user e =
      fold_grows (add_job_owners reporters) length job_tasks job_grows 0 before user.jobs after (under_ok (Key keys.Jobs) (fold_each (add_job_owners reporters) 0 before user.jobs) after e)

-- ---- the groups

module _ (links reporters : List (List ℕ)) where
  -- the links of the groups, and the owners, are in range
  record AreGroups (state : List Group × List ℕ) : Type 0 where
    in_range : AreInRange (length links) state.0
    owners : Owners reporters state.1

  record GrowsBy (before after : List Group × List ℕ) (group : raw.Group) : Type 0 where
    groups : length after.0 ≡ length before.0 + 1
    owners : length after.1 ≡ length before.1 + group_tasks group

  -- what a group adds
  record Adds (before after : List Group × List ℕ) (group : raw.Group) : Type 0 where
    path_groups : PathGroups
    owners : List ℕ
    below : All (All (IsBelow (length links))) path_groups
    folded : fold_each (add_user_owners reporters) 0 before.1 group.users ≡ Ok owners
    is : after ≡ (before.0 ++ group_part group path_groups ∷ [], owners)

  group_adds : (before after : List Group × List ℕ) (group : raw.Group) → add_group_numbers links reporters before group ≡ Ok after → Adds before after group
  unfolding add_group_numbers
  group_adds before after group e =
      let path_groups = bind_ok (path_groups_numbers links group.path_groups) (λ path_groups. fold_member keys.Users (add_user_owners reporters) before.1 group.users >>= λ owners. Ok (before.0 ++ group_part group path_groups ∷ [], owners)) after e in
      let owners = bind_ok (fold_member keys.Users (add_user_owners reporters) before.1 group.users) (λ owners. Ok (before.0 ++ group_part group path_groups.0 ∷ [], owners)) after path_groups.2 in
      record {
        path_groups = path_groups.0;
        owners = owners.0;
        below = path_groups_below links group.path_groups path_groups.0 path_groups.1;
        folded = under_ok (Key keys.Users) (fold_each (add_user_owners reporters) 0 before.1 group.users) owners.0 owners.1;
        is = sym (ok_is (before.0 ++ group_part group path_groups.0 ∷ [], owners.0) after owners.2);
      }

  group_keeps : (before after : List Group × List ℕ) (group : raw.Group) → AreGroups before → add_group_numbers links reporters before group ≡ Ok after → AreGroups after
  group_keeps before after group known e =
      let added = group_adds before after group e in
      record {
        in_range = All-same (λ (group : Group). All (All (IsBelow (length links))) group.path_groups) after.0 (before.0 ++ group_part group added.path_groups ∷ []) (ap (λ (state : List Group × List ℕ). state.0) added.is)
            (All-push (λ (group : Group). All (All (IsBelow (length links))) group.path_groups) before.0 (group_part group added.path_groups) known.in_range added.below);
        owners = All-same (λ owner. owner < length reporters) after.1 added.owners (ap (λ (state : List Group × List ℕ). state.1) added.is)
            (fold_keeps (add_user_owners reporters) (Owners reporters) (user_keeps reporters) 0 before.1 group.users added.owners known.owners added.folded);
      }

  group_grows : (before after : List Group × List ℕ) (group : raw.Group) → add_group_numbers links reporters before group ≡ Ok after → GrowsBy before after group
  group_grows before after group e =
      let added = group_adds before after group e in
      let groups_are : length after.0 ≡ length (before.0 ++ group_part group added.path_groups ∷ []) = ap (λ (state : List Group × List ℕ). length state.0) added.is in
      record {
        groups = omega (arith, length-append before.0 (group_part group added.path_groups ∷ []));
        owners = ap (λ (state : List Group × List ℕ). length state.1) added.is ∙ fold_grows (add_user_owners reporters) length user_tasks (user_grows reporters) 0 before.1 group.users added.owners added.folded;
      }

-- ---- links, reports and closings

link_owner_below : (reporters : List (List ℕ)) (owner : Option (List ℕ)) (found : Option ℕ) → owner_number reporters owner ≡ Ok found → HasOwnerBelow (length reporters) found
link_owner_below reporters None found e = subst (HasOwnerBelow (length reporters)) (ok_is None found e) tt
link_owner_below reporters (Some name) found e =
    let owner = bind_ok (under (Key keys.Owner) (number_in reporters name)) (λ owner. Ok (Some owner)) found e in
    subst (HasOwnerBelow (length reporters)) (ok_is (Some owner.0) found owner.2) (member_below keys.Owner reporters name owner.0 owner.1)

target_in_range : (links tasks : List (List ℕ)) (target : raw.Target) (found : Target) → target_number links tasks target ≡ Ok found → IsInRange (length tasks) (length links) found
target_in_range links tasks (raw.of_task name) found e =
    let task = bind_ok (under (Key keys.Task) (number_in tasks name)) (λ task. Ok (targets.Task task)) found e in
    subst (IsInRange (length tasks) (length links)) (ok_is (targets.Task task.0) found task.2) (member_below keys.Task tasks name task.0 task.1)
target_in_range links tasks (raw.of_link name) found e =
    let link = bind_ok (under (Key keys.Link) (number_in links name)) (λ link. Ok (targets.Link link)) found e in
    subst (IsInRange (length tasks) (length links)) (ok_is (targets.Link link.0) found link.2) (member_below keys.Link links name link.0 link.1)

report_fits : (links tasks reporters : List (List ℕ)) (report : raw.Report) (found : Report) → report.amount ≤ MAX_AMOUNT → report_numbers links tasks reporters report ≡ Ok found → IsReport (length links) (length tasks) (length reporters) found
unfolding report_numbers
report_fits links tasks reporters report found known e =
    let reporter = bind_ok (under (Key keys.Reporter) (number_in reporters report.reporter)) (λ reporter. target_number links tasks report.target >>= λ target. Ok (record { reporter = reporter; target = target; amount = report.amount })) found e in
    let target = bind_ok (target_number links tasks report.target) (λ target. Ok (record { reporter = reporter.0; target = target; amount = report.amount })) found reporter.2 in
    let made : Report = record { reporter = reporter.0; target = target.0; amount = report.amount } in
    subst (IsReport (length links) (length tasks) (length reporters)) (ok_is made found target.2) (member_below keys.Reporter reporters report.reporter reporter.0 reporter.1, (target_in_range links tasks report.target target.0 target.1, known))

closing_fits : (links : List (List ℕ)) (closing : raw.Closing) (found : Closing) → closing.share ≤ MAX_SHARE → closing_numbers links closing ≡ Ok found → IsClosing (length links) found
unfolding closing_numbers
closing_fits links closing found known e =
    let link = bind_ok (under (Key keys.Link) (number_in links closing.link)) (λ link. Ok (record { link = link; share = closing.share })) found e in
    let made : Closing = record { link = link.0; share = closing.share } in
    subst (IsClosing (length links)) (ok_is made found link.2) (member_below keys.Link links closing.link link.0 link.1, known)

-- ---- the whole

module _ (links tasks reporters : List (List ℕ)) (document : raw.Raw) where
  abbrev with_script : List (Option ℕ) → List Group × List ℕ → List Report → Result Numbers (List PathStep)
  with_script link_owners groups script = under (Key keys.Closings) (each (closing_numbers links) 0 document.closings) >>= λ closings. Ok (record { link_owners = link_owners; groups = groups.0; task_owners = groups.1; script = script; closings = closings })

  abbrev with_groups : List (Option ℕ) → List Group × List ℕ → Result Numbers (List PathStep)
  with_groups link_owners groups = under (Key keys.Script) (each (report_numbers links tasks reporters) 0 document.script) >>= λ script. with_script link_owners groups script

  abbrev with_links : List (Option ℕ) → Result Numbers (List PathStep)
  with_links link_owners = fold_member keys.Groups (add_group_numbers links reporters) ([], []) document.groups >>= λ groups. with_groups link_owners groups

  pub numbers_of : (found : Numbers) → All (λ (report : raw.Report). report.amount ≤ MAX_AMOUNT) document.script → All (λ (closing : raw.Closing). closing.share ≤ MAX_SHARE) document.closings → numbers links tasks reporters document ≡ Ok found → AreNumbersOf (length links) (length tasks) (length reporters) document found
  unfolding numbers
  numbers_of found amounts shares e =
      let owners = bind_ok (under (Key keys.Links) (each (link_owner reporters) 0 document.links)) with_links found e in
      let groups = bind_ok (fold_member keys.Groups (add_group_numbers links reporters) ([], []) document.groups) (with_groups owners.0) found owners.2 in
      let script = bind_ok (under (Key keys.Script) (each (report_numbers links tasks reporters) 0 document.script)) (with_script owners.0 groups.0) found groups.2 in
      let closings = bind_ok (under (Key keys.Closings) (each (closing_numbers links) 0 document.closings)) (λ closings. Ok (record { link_owners = owners.0; groups = groups.0.0; task_owners = groups.0.1; script = script.0; closings = closings })) found script.2 in
      let made : Numbers = record { link_owners = owners.0; groups = groups.0.0; task_owners = groups.0.1; script = script.0; closings = closings.0 } in
      let owners_read : each (link_owner reporters) 0 document.links ≡ Ok owners.0 = under_ok (Key keys.Links) (each (link_owner reporters) 0 document.links) owners.0 owners.1 in
      let groups_read : fold_each (add_group_numbers links reporters) 0 ([], []) document.groups ≡ Ok groups.0 = under_ok (Key keys.Groups) (fold_each (add_group_numbers links reporters) 0 ([], []) document.groups) groups.0 groups.1 in
      let script_read : each (report_numbers links tasks reporters) 0 document.script ≡ Ok script.0 = under_ok (Key keys.Script) (each (report_numbers links tasks reporters) 0 document.script) script.0 script.1 in
      let groups_kept : AreGroups links reporters groups.0 = fold_keeps (add_group_numbers links reporters) (AreGroups links reporters) (group_keeps links reporters) 0 ([], []) document.groups groups.0 (record { in_range = All-nil (λ (group : Group). All (All (IsBelow (length links))) group.path_groups); owners = All-nil (λ owner. owner < length reporters) }) groups_read in
      let groups_grown : length groups.0.0 ≡ 0 + sum_of (λ _. 1) document.groups = fold_grows (add_group_numbers links reporters) (λ (state : List Group × List ℕ). length state.0) (λ _. 1) (λ before after group step. (group_grows links reporters before after group step).groups) 0 ([], []) document.groups groups.0 groups_read in
      let owners_grown : length groups.0.1 ≡ 0 + task_count document.groups = fold_grows (add_group_numbers links reporters) (λ (state : List Group × List ℕ). length state.1) group_tasks (λ before after group step. (group_grows links reporters before after group step).owners) 0 ([], []) document.groups groups.0 groups_read in
      let right : AreNumbersOf (length links) (length tasks) (length reporters) document made = record {
        link_owners = length-each (link_owner reporters) 0 document.links owners.0 owners_read;
        link_owners_below = each_all (link_owner reporters) (λ _. Unit {0}) (HasOwnerBelow (length reporters)) (λ link found _ step. link_owner_below reporters link.owner found step) 0 document.links owners.0 (All-anything document.links) owners_read;
        groups = omega (arith, sum_of-one document.groups);
        in_range = groups_kept.in_range;
        task_owners = omega arith;
        task_owners_below = groups_kept.owners;
        script = length-each (report_numbers links tasks reporters) 0 document.script script.0 script_read;
        reports = each_all (report_numbers links tasks reporters) (λ (report : raw.Report). report.amount ≤ MAX_AMOUNT) (IsReport (length links) (length tasks) (length reporters)) (report_fits links tasks reporters) 0 document.script script.0 amounts script_read;
        closing_count = length-each (closing_numbers links) 0 document.closings closings.0 (under_ok (Key keys.Closings) (each (closing_numbers links) 0 document.closings) closings.0 closings.1);
        closings = each_all (closing_numbers links) (λ (closing : raw.Closing). closing.share ≤ MAX_SHARE) (IsClosing (length links)) (closing_fits links) 0 document.closings closings.0 shares (under_ok (Key keys.Closings) (each (closing_numbers links) 0 document.closings) closings.0 closings.1);
      } in
      subst (AreNumbersOf (length links) (length tasks) (length reporters) document) (ok_is made found closings.2) right
