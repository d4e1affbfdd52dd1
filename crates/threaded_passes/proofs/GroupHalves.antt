-- The numbers of groups in two parts, each found by itself.
use Rattle.std.proofs.Common.{◌≡◌, ℕ, suc, ◌+◌, ◌≤◌, List, [], ◌∷◌, ◌++◌, length, map, take, drop, Result, Ok, Err, refl, sym, ap, ap₂, subst, ◌∙◌, arith, append_assoc, append-nil}
use Rattle.std.specs.Prelude.{IfOk, IfErr}
use Rattle.std.proofs.lemmas.List.{take-append-drop, length-map, length-take-le, take-map, drop-map}
use Rattle.raw_document.specs.declared.key.DocKey.{DocKey}
use Rattle.raw_document.specs.declared.key.DocKey.TheVariants as keys
use Rattle.raw_document.specs.declared.doc_path.PathStep.{PathStep}
use Rattle.raw_document.specs.declared.doc_path.PathStep.TheVariants.{Key, Index}
use Rattle.raw_document.specs.declared.doc_path.Fault.{Fault}
use Rattle.raw_document.specs.declared.doc_path.Fault.TheVariants.{OutOfMemory, At}
use Rattle.raw_document.specs.Reading.{◌>>=◌, under, fold_each, Fails, Gives}
use Rattle.raw_document.specs.Raw as raw
use Rattle.bwe_specs.specs.Given.{Group}
use Rattle.bwe_specs.specs.Paths.{PathGroups}
use Rattle.doc_passes.specs.Names.{number_in, fold_member}
use Rattle.threaded_passes.specs.Parts.{fold_member_from}
use Rattle.doc_passes.specs.Numbers.{add_task_owner, add_job_owners, add_user_owners, group_part, path_groups_numbers, add_group_numbers}

-- the first items, and then the others from the place where they stand
module _ {S A : Type 0} (step : S → A → Result S (List PathStep)) where
  fold-append : (place : ℕ) (state : S) (first others : List A) → fold_each step place state (first ++ others) ≡ (fold_each step place state first >>= λ next. fold_each step (place + length first) next others)
  unfolding fold_each
  fold-append place state [] others = ap (λ k. fold_each step k state others) (omega arith)
  fold-append place state (item ∷ first) others = go (under (Index place) (step state item)) (λ next. fold-append (suc place) next first others) where
    moved : (k l : ℕ) → k ≡ l → (r : Result S (List PathStep)) → (r >>= λ next. fold_each step k next others) ≡ (r >>= λ next. fold_each step l next others)
    moved k l same r = ap (λ place. r >>= λ next. fold_each step place next others) same

    go : (r : Result S (List PathStep)) → ((next : S) → fold_each step (suc place) next (first ++ others) ≡ (fold_each step (suc place) next first >>= λ end. fold_each step (suc place + length first) end others))
        → (r >>= λ next. fold_each step (suc place) next (first ++ others)) ≡ ((r >>= λ next. fold_each step (suc place) next first) >>= λ end. fold_each step (place + suc (length first)) end others)
    go (Ok next) later = later next ∙ moved (suc place + length first) (place + suc (length first)) (omega arith) (fold_each step (suc place) next first)
    go (Err path) later = refl

-- steps that put what they find behind what stood before
module _ {S A : Type 0} (zero : S) (add : S → S → S) (unit : (s : S) → add s zero ≡ s) (assoc : (a b c : S) → add (add a b) c ≡ add a (add b c)) (step : S → A → Result S (List PathStep)) where
  abbrev Adds : Type 0
  Adds = (before : S) (item : A) → step before item ≡ (step zero item >>= λ found. Ok (add before found))

  fold-adds : Adds → (place : ℕ) (before : S) (items : List A) → fold_each step place before items ≡ (fold_each step place zero items >>= λ found. Ok (add before found))
  unfolding fold_each
  fold-adds adds place before [] = ap Ok (sym (unit before))
  fold-adds adds place before (item ∷ items) =
      ap (λ r. under (Index place) r >>= λ next. fold_each step (suc place) next items) (adds before item) ∙ go (step zero item) (λ next. fold-adds adds (suc place) next items) where
        twice : (found : S) (r : Result S (List PathStep)) → (r >>= λ more. Ok (add (add before found) more)) ≡ ((r >>= λ more. Ok (add found more)) >>= λ all. Ok (add before all))
        twice found (Ok more) = ap Ok (assoc before found more)
        twice found (Err path) = refl

        go : (r : Result S (List PathStep)) → ((next : S) → fold_each step (suc place) next items ≡ (fold_each step (suc place) zero items >>= λ found. Ok (add next found)))
            → (under (Index place) (r >>= λ found. Ok (add before found)) >>= λ next. fold_each step (suc place) next items) ≡ ((under (Index place) r >>= λ next. fold_each step (suc place) next items) >>= λ found. Ok (add before found))
        go (Ok found) later =
            later (add before found) ∙ twice found (fold_each step (suc place) zero items)
            ∙ sym (ap (λ r. r >>= λ all. Ok (add before all)) (later found))
        go (Err path) later = refl

  member-adds : Adds → (key : DocKey) (before : S) (items : List A) → fold_member key step before items ≡ (fold_member key step zero items >>= λ found. Ok (add before found))
  member-adds adds key before items = ap (under (Key key)) (fold-adds adds 0 before items) ∙ go (fold_each step 0 zero items) where
    go : (r : Result S (List PathStep)) → under (Key key) (r >>= λ found. Ok (add before found)) ≡ (under (Key key) r >>= λ found. Ok (add before found))
    go (Ok found) = refl
    go (Err path) = refl

  -- what two parts give is what the whole gives
  halves : Adds → (key : DocKey) (first others : List A) → fold_member key step zero (first ++ others) ≡ (fold_member key step zero first >>= λ early. fold_member_from key step (length first) zero others >>= λ late. Ok (add early late))
  halves adds key first others =
      ap (under (Key key)) (fold-append step 0 zero first others ∙ ap (λ (place : ℕ). fold_each step 0 zero first >>= λ early. fold_each step place early others) at_start) ∙ go (fold_each step 0 zero first) where
        at_start : 0 + length first ≡ length first
        at_start = omega arith

        back : (early : S) (r : Result S (List PathStep)) → under (Key key) (r >>= λ late. Ok (add early late)) ≡ (under (Key key) r >>= λ late. Ok (add early late))
        back early (Ok late) = refl
        back early (Err path) = refl

        go : (r : Result S (List PathStep)) → under (Key key) (r >>= λ early. fold_each step (length first) early others) ≡ (under (Key key) r >>= λ early. fold_member_from key step (length first) zero others >>= λ late. Ok (add early late))
        go (Ok early) = ap (under (Key key)) (fold-adds adds (length first) early others) ∙ back early (fold_each step (length first) zero others)
        go (Err path) = refl

-- ---- what the code answers of two parts

module _ {Y : Type 0} (add : Y → Y → Y) (first others : Result Y (List PathStep)) where
  abbrev whole : Result Y (List PathStep)
  whole = first >>= λ early. others >>= λ late. Ok (add early late)

  pub early_fails : (fault : Fault) → Fails fault first → Fails fault whole
  early_fails OutOfMemory fails = tt
  early_fails (At path) fails = ap (λ r. r >>= λ early. others >>= λ late. Ok (add early late)) fails

  pub late_fails : (early : Y) (fault : Fault) → first ≡ Ok early → Fails fault others → Fails fault whole
  late_fails early OutOfMemory is fails = tt
  late_fails early (At path) is fails =
      ap (λ r. r >>= λ early. others >>= λ late. Ok (add early late)) is ∙ ap (λ r. r >>= λ late. Ok (add early late)) fails

  both_give : {X : Type 0} (view : X → Y) (early late : Y) (all : Result X Fault) → first ≡ Ok early → others ≡ Ok late → IfOk all (λ x. view x ≡ add early late) → IfErr all (λ fault. fault ≡ OutOfMemory) → Gives view all whole
  both_give view early late (Ok x) is also made refused =
      ap (λ r. r >>= λ early. others >>= λ late. Ok (add early late)) is ∙ ap (λ r. r >>= λ late. Ok (add early late)) also ∙ ap Ok (sym made)
  both_give view early late (Err fault) is also made refused = rw refused tt

-- ---- the owners of tasks

module _ (reporters : List (List ℕ)) where
  task_adds : (before : List ℕ) (task : raw.Task) → add_task_owner reporters before task ≡ (add_task_owner reporters [] task >>= λ found. Ok (before ++ found))
  unfolding add_task_owner
  task_adds before task = go (under (Key keys.Reporter) (number_in reporters task.reporter)) where
    go : (r : Result ℕ (List PathStep)) → (r >>= λ owner. Ok (before ++ owner ∷ [])) ≡ ((r >>= λ owner. Ok ([] ++ owner ∷ [])) >>= λ found. Ok (before ++ found))
    go (Ok owner) = refl
    go (Err path) = refl

  job_adds : (before : List ℕ) (job : raw.Job) → add_job_owners reporters before job ≡ (add_job_owners reporters [] job >>= λ found. Ok (before ++ found))
  job_adds before job = member-adds [] (λ a b. a ++ b) append-nil append_assoc (add_task_owner reporters) task_adds keys.Tasks before job.tasks

  user_adds : (before : List ℕ) (user : raw.User) → add_user_owners reporters before user ≡ (add_user_owners reporters [] user >>= λ found. Ok (before ++ found))
  user_adds before user = member-adds [] (λ a b. a ++ b) append-nil append_assoc (add_job_owners reporters) job_adds keys.Jobs before user.jobs

  users_adds : (before : List ℕ) (users : List raw.User) → fold_member keys.Users (add_user_owners reporters) before users ≡ (fold_member keys.Users (add_user_owners reporters) [] users >>= λ found. Ok (before ++ found))
  users_adds before users = member-adds [] (λ a b. a ++ b) append-nil append_assoc (add_user_owners reporters) user_adds keys.Users before users

-- ---- the groups, and the owners of their tasks

abbrev Found : Type 0
Found = List Group × List ℕ

abbrev both : Found → Found → Found
both early late = (early.0 ++ late.0, early.1 ++ late.1)

both-none : (found : Found) → both found ([], []) ≡ found
both-none found = ap₂ (λ groups owners. (groups, owners)) (append-nil found.0) (append-nil found.1)

both-both : (a b c : Found) → both (both a b) c ≡ both a (both b c)
both-both a b c = ap₂ (λ groups owners. (groups, owners)) (append_assoc a.0 b.0 c.0) (append_assoc a.1 b.1 c.1)

module _ (links reporters : List (List ℕ)) where
  group_adds : (before : Found) (group : raw.Group) → add_group_numbers links reporters before group ≡ (add_group_numbers links reporters ([], []) group >>= λ found. Ok (both before found))
  unfolding add_group_numbers
  group_adds before group = go (path_groups_numbers links group.path_groups) where
    with_owners : (path_groups : PathGroups) (r : Result (List ℕ) (List PathStep))
        → ((r >>= λ found. Ok (before.1 ++ found)) >>= λ owners. Ok (before.0 ++ group_part group path_groups ∷ [], owners)) ≡ ((r >>= λ owners. Ok ([] ++ group_part group path_groups ∷ [], owners)) >>= λ found. Ok (both before found))
    with_owners path_groups (Ok owners) = refl
    with_owners path_groups (Err path) = refl

    go : (r : Result PathGroups (List PathStep))
        → (r >>= λ path_groups. fold_member keys.Users (add_user_owners reporters) before.1 group.users >>= λ owners. Ok (before.0 ++ group_part group path_groups ∷ [], owners))
        ≡ ((r >>= λ path_groups. fold_member keys.Users (add_user_owners reporters) [] group.users >>= λ owners. Ok ([] ++ group_part group path_groups ∷ [], owners)) >>= λ found. Ok (both before found))
    go (Ok path_groups) =
        ap (λ r. r >>= λ owners. Ok (before.0 ++ group_part group path_groups ∷ [], owners)) (users_adds reporters before.1 group.users)
        ∙ with_owners path_groups (fold_member keys.Users (add_user_owners reporters) [] group.users)
    go (Err path) = refl

  abbrev numbers_of : List raw.Group → Result Found (List PathStep)
  numbers_of groups = fold_member keys.Groups (add_group_numbers links reporters) ([], []) groups

  abbrev numbers_from : ℕ → List raw.Group → Result Found (List PathStep)
  numbers_from place groups = fold_member_from keys.Groups (add_group_numbers links reporters) place ([], []) groups

  pub group_halves : {V : Type 0} (view_of : V → raw.Group) (middle : ℕ) (groups : List V) → middle ≤ length groups
      → numbers_of (map view_of groups) ≡ (numbers_of (map view_of (take middle groups)) >>= λ early. numbers_from middle (map view_of (drop middle groups)) >>= λ late. Ok (both early late))
  group_halves view_of middle groups within =
      sym (ap numbers_of (ap₂ (λ a b. a ++ b) (sym (take-map view_of middle groups)) (sym (drop-map view_of middle groups)) ∙ take-append-drop middle (map view_of groups)))
      ∙ halves ([], []) both both-none both-both (add_group_numbers links reporters) group_adds keys.Groups (map view_of (take middle groups)) (map view_of (drop middle groups))
      ∙ ap (λ place. numbers_of (map view_of (take middle groups)) >>= λ early. numbers_from place (map view_of (drop middle groups)) >>= λ late. Ok (both early late))
      (length-map (take middle groups) view_of ∙ length-take-le middle groups within)

  module _ {V : Type 0} (view_of : V → raw.Group) (middle : ℕ) (groups : List V) (within : middle ≤ length groups) where
    abbrev early : Result Found (List PathStep)
    early = numbers_of (map view_of (take middle groups))

    abbrev late : Result Found (List PathStep)
    late = numbers_from middle (map view_of (drop middle groups))

    pub early_refused : (fault : Fault) → Fails fault early → Fails fault (numbers_of (map view_of groups))
    early_refused fault fails = subst (Fails fault) (sym (group_halves view_of middle groups within)) (early_fails both early late fault fails)

    pub late_refused : (found : Found) (fault : Fault) → early ≡ Ok found → Fails fault late → Fails fault (numbers_of (map view_of groups))
    late_refused found fault is fails = subst (Fails fault) (sym (group_halves view_of middle groups within)) (late_fails both early late found fault is fails)

    pub both_found : {X : Type 0} (view : X → Found) (found more : Found) (all : Result X Fault) → early ≡ Ok found → late ≡ Ok more → IfOk all (λ x. view x ≡ both found more) → IfErr all (λ fault. fault ≡ OutOfMemory) → Gives view all (numbers_of (map view_of groups))
    both_found view found more all is also made refused = subst (Gives view all) (sym (group_halves view_of middle groups within)) (both_give both early late view found more all is also made refused)
