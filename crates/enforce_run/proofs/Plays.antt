-- Events, played one by one.
use Rattle.std.proofs.Common.{◌≡◌, ℕ, ◌+◌, ◌<◌, ◌≤◌, List, [], ◌∷◌, ◌++◌, length, take, drop, get_or, refl, sym, ◌∙◌, ap, ap₂, subst, arith}
use Rattle.std.proofs.lemmas.List.{take_more, drop_more, drop_all, length_push}
use Rattle.std.proofs.lemmas.List.Sums.{sum_by_push}
use Rattle.bwe_specs.specs.declared.report.Report.{Report}
use Rattle.enforcer_core.specs.declared.event.WorldAnswer.{WorldAnswer}
use Rattle.enforcer_core.specs.World.{World, answer_to, first_world, world_after}
use Rattle.enforce_run.specs.declared.event.EventLine.{EventLine}
use Rattle.enforce_run.specs.declared.event.EventLine.TheVariants.{Post, Send, Deliver, Reply, Restart}
use Rattle.enforce_run.specs.EventLines.{AreThere, IsThere, downs_of, ups_of, is_send, is_deliver}
use Rattle.enforce_run.specs.Playing.{Played, IsIn, IsOnScript, event_in, played_from, played_of, played_on}

-- the world has as many regions and messages as the events before say
pub record IsCounted {T : Type 0} (regions : ℕ) (before : List EventLine) (world : World T) : Type 0 where
  pub tasks : length world.tasks ≡ regions
  pub downs : length world.downs ≡ downs_of before
  pub ups : length world.ups ≡ ups_of before

pub nothing_counted : {T : Type 0} (regions : ℕ) (tasks : List (List ℕ)) (first : T) → length tasks ≡ regions → IsCounted regions [] (first_world tasks first)
nothing_counted regions tasks first counted = record { tasks = counted; downs = refl; ups = refl }

-- what is there by the events before is there in the world
pub is_in : {T : Type 0} (regions : ℕ) (before : List EventLine) (world : World T) (line : EventLine) → IsCounted regions before world → IsThere regions before line → IsIn world line
is_in regions before world (Post upto) counted there = tt
is_in regions before world (Send region) counted there = omega (arith, there, counted.tasks)
is_in regions before world (Deliver message) counted there = omega (arith, there, counted.downs)
is_in regions before world (Reply message) counted there = omega (arith, there, counted.ups)
is_in regions before world (Restart region) counted there = omega (arith, there, counted.tasks)

-- one event more
pub counted_on : {T : Type 0} (covers : T → ℕ) (limit_at : T → ℕ → ℕ) (table_of : List Report → T) (script : List Report) (regions : ℕ) (before : List EventLine) (world : World T) (line : EventLine)
    → IsCounted regions before world → IsCounted regions (before ++ line ∷ []) (world_after covers limit_at world (event_in covers table_of script world line))
counted_on covers limit_at table_of script regions before world line counted =
    let sent = sum_by_push (λ event. Rattle.std.proofs.Common.cond (is_send event) 1 0) before line in
    let told = sum_by_push (λ event. Rattle.std.proofs.Common.cond (is_deliver event) 1 0) before line in
    go line sent told
  where
    go : (line : EventLine) → downs_of (before ++ line ∷ []) ≡ downs_of before + Rattle.std.proofs.Common.cond (is_send line) 1 0
        → ups_of (before ++ line ∷ []) ≡ ups_of before + Rattle.std.proofs.Common.cond (is_deliver line) 1 0
        → IsCounted regions (before ++ line ∷ []) (world_after covers limit_at world (event_in covers table_of script world line))
    go (Post upto) sent told = record { tasks = counted.tasks; downs = omega (arith, sent, counted.downs); ups = omega (arith, told, counted.ups) }
    go (Send region) sent told = record { tasks = counted.tasks; downs = length_push world.downs _ ∙ omega (arith, sent, counted.downs); ups = omega (arith, told, counted.ups) }
    go (Deliver message) sent told = record { tasks = counted.tasks; downs = omega (arith, sent, counted.downs); ups = length_push world.ups _ ∙ omega (arith, told, counted.ups) }
    go (Reply message) sent told = record { tasks = counted.tasks; downs = omega (arith, sent, counted.downs); ups = omega (arith, told, counted.ups) }
    go (Restart region) sent told = record { tasks = counted.tasks; downs = omega (arith, sent, counted.downs); ups = omega (arith, told, counted.ups) }

pub tasks_on : {T : Type 0} (covers : T → ℕ) (limit_at : T → ℕ → ℕ) (table_of : List Report → T) (script : List Report) (world : World T) (line : EventLine)
    → (world_after covers limit_at world (event_in covers table_of script world line)).tasks ≡ world.tasks
tasks_on covers limit_at table_of script world (Post upto) = refl
tasks_on covers limit_at table_of script world (Send region) = refl
tasks_on covers limit_at table_of script world (Deliver message) = refl
tasks_on covers limit_at table_of script world (Reply message) = refl
tasks_on covers limit_at table_of script world (Restart region) = refl

-- the next event of those that are left
pub next_there : (regions : ℕ) (lines : List EventLine) (i : ℕ) (line : EventLine) → i < length lines → line ≡ get_or lines i line → AreThere regions (take i lines) (drop i lines) → IsThere regions (take i lines) line
next_there regions lines i line inside is there =
    (subst (AreThere regions (take i lines)) (drop_more lines i line inside ∙ ap (λ (line : EventLine). line ∷ drop (i + 1) lines) (sym is)) there).0

pub rest_there : (regions : ℕ) (lines : List EventLine) (i : ℕ) (line : EventLine) → i < length lines → line ≡ get_or lines i line → AreThere regions (take i lines) (drop i lines)
    → AreThere regions (take (i + 1) lines) (drop (i + 1) lines)
rest_there regions lines i line inside is there =
    subst (λ (before : List EventLine). AreThere regions before (drop (i + 1) lines)) (sym (take_more lines i line inside))
    (subst (λ (line : EventLine). AreThere regions (take i lines ++ line ∷ []) (drop (i + 1) lines)) is
    (subst (AreThere regions (take i lines)) (drop_more lines i line inside ∙ ap (λ (line : EventLine). line ∷ drop (i + 1) lines) (sym is)) there).1)

pub rest_played : {T : Type 0} (covers : T → ℕ) (limit_at : T → ℕ → ℕ) (table_of : List Report → T) (script : List Report) (all played new : Played T) (lines : List EventLine) (i : ℕ) (line : EventLine) → i < length lines
    → line ≡ get_or lines i line → all ≡ played_from covers limit_at table_of script played (drop i lines) → new ≡ played_on covers limit_at table_of script played line
    → all ≡ played_from covers limit_at table_of script new (drop (i + 1) lines)
unfolding played_from
rest_played covers limit_at table_of script all played new lines i line inside is before on =
    before ∙ ap (played_from covers limit_at table_of script played) (drop_more lines i line inside ∙ ap (λ (line : EventLine). line ∷ drop (i + 1) lines) (sym is))
    ∙ ap (λ new. played_from covers limit_at table_of script new (drop (i + 1) lines)) (sym on)

pub all_played : {T : Type 0} (covers : T → ℕ) (limit_at : T → ℕ → ℕ) (table_of : List Report → T) (script : List Report) (all played : Played T) (lines : List EventLine) (i : ℕ) → length lines ≤ i
    → all ≡ played_from covers limit_at table_of script played (drop i lines) → all ≡ played
unfolding played_from
all_played covers limit_at table_of script all played lines i past before = before ∙ ap (played_from covers limit_at table_of script played) (drop_all i lines past)

-- one event more, by what it was answered and what it left, under a plan that has not changed
pub played_more : {T P : Type 0} (covers : T → ℕ) (limit_at : T → ℕ → ℕ) (table_of : P → List Report → T) (script : List Report) (known now : P) (all : Played T) (answers more : List WorldAnswer) (world new : World T)
    (answer : WorldAnswer) (lines : List EventLine) (i : ℕ) (line : EventLine) → now ≡ known → i < length lines → line ≡ get_or lines i line
    → all ≡ played_from covers limit_at (table_of known) script (record { answers = answers; world = world }) (drop i lines)
    → answer ≡ answer_to covers world (event_in covers (table_of now) script world line) → new ≡ world_after covers limit_at world (event_in covers (table_of now) script world line) → more ≡ answers ++ answer ∷ []
    → all ≡ played_from covers limit_at (table_of known) script (record { answers = more; world = new }) (drop (i + 1) lines)
played_more {T} {P} covers limit_at table_of script known now all answers more world new answer lines i line same inside is before answered left pushed =
    let answers_are : more ≡ answers ++ answer_to covers world (event_in covers (table_of known) script world line) ∷ [] =
    pushed ∙ ap (λ (answer : WorldAnswer). answers ++ answer ∷ []) (answered ∙ ap (λ (plan : P). answer_to covers world (event_in covers (table_of plan) script world line)) same) in
    let world_is : new ≡ world_after covers limit_at world (event_in covers (table_of known) script world line) =
    left ∙ ap (λ (plan : P). world_after covers limit_at world (event_in covers (table_of plan) script world line)) same in
    let from : Played T = record { answers = answers; world = world } in
    let to : Played T = record { answers = more; world = new } in
    rest_played covers limit_at (table_of known) script all from to lines i line inside is before
    (ap₂ (λ (answers : List WorldAnswer) (world : World T). let played : Played T = record { answers = answers; world = world } in played) answers_are world_is)

-- after the last event
pub at_end : {T P : Type 0} (covers : T → ℕ) (limit_at : T → ℕ → ℕ) (table_of : P → List Report → T) (script : List Report) (tasks : List (List ℕ)) (known old : P) (played : Played T) (lines : List EventLine) (i : ℕ)
    → known ≡ old → length lines ≤ i → played_of covers limit_at (table_of known) script tasks lines ≡ played_from covers limit_at (table_of known) script played (drop i lines)
    → played ≡ played_of covers limit_at (table_of old) script tasks lines
at_end {T} {P} covers limit_at table_of script tasks known old played lines i same past before =
    subst (λ (plan : P). played ≡ played_of covers limit_at (table_of plan) script tasks lines) same
    (sym (all_played covers limit_at (table_of known) script (played_of covers limit_at (table_of known) script tasks lines) played lines i past before))

pub counted_more : {T : Type 0} (covers : T → ℕ) (limit_at : T → ℕ → ℕ) (table_of : List Report → T) (script : List Report) (regions : ℕ) (lines : List EventLine) (i : ℕ) (world new : World T) → i < length lines
    → new ≡ world_after covers limit_at world (event_in covers table_of script world (get_or lines i (Post 0))) → IsCounted regions (take i lines) world → IsCounted regions (take (i + 1) lines) new
counted_more {T} covers limit_at table_of script regions lines i world new inside left counted =
    subst (λ (before : List EventLine). IsCounted regions before new) (sym (take_more lines i (Post 0) inside))
    (subst (λ (world : World T). IsCounted regions (take i lines ++ get_or lines i (Post 0) ∷ []) world) (sym left)
    (counted_on covers limit_at table_of script regions (take i lines) world (get_or lines i (Post 0)) counted))

pub tasks_more : {T : Type 0} (covers : T → ℕ) (limit_at : T → ℕ → ℕ) (table_of : List Report → T) (script : List Report) (line : EventLine) (world new : World T) (rows : List (List ℕ))
    → new ≡ world_after covers limit_at world (event_in covers table_of script world line) → world.tasks ≡ rows → new.tasks ≡ rows
tasks_more {T} covers limit_at table_of script line world new rows left same = ap (λ (world : World T). world.tasks) left ∙ tasks_on covers limit_at table_of script world line ∙ same

pub script_same : {T P : Type 0} (covers : T → ℕ) (table_of : P → List Report → T) (has_absorbed : List Report → Type 0) (script : List Report) (posted : T) (now known : P) → now ≡ known
    → IsOnScript covers (table_of now) has_absorbed script posted → IsOnScript covers (table_of known) has_absorbed script posted
script_same {T} {P} covers table_of has_absorbed script posted now known same on = subst (λ (plan : P). IsOnScript covers (table_of plan) has_absorbed script posted) same on
