-- Posts on the locked state, by Core run.
use Rattle.std.proofs.Common.{◌≡◌, ℕ, ◌≤◌, List, length, Ok, Err, Result, refl, sym, ◌∙◌, ap, arith, inl, inr}
use Rattle.std.specs.Prelude.{max, OnErr}
use Rattle.board_core.specs.declared.event.CoreAnswer.TheVariants.{Posted}
use Rattle.board_core.specs.declared.event.CoreEvent.TheVariants as event
use Rattle.board_core.specs.CoreRun.{State, prefix_to_post, state_after}
use Rattle.board.specs.Standing.{Standing}
use Rattle.board.specs.CoreSteps.{core_state, ArePostSteps, ArePostStepsOfAll, IsPostRefused}

-- what waits is what a post of it covers
waits : (old : Standing) (floors : List ℕ) → old.posted ≤ old.pending → old.pending ≤ length old.log → prefix_to_post (core_state old floors) old.pending ≡ old.pending
waits old floors below within = omega arith

-- the first post is refused, and nothing is posted
pub first_refused : (old new : Standing) (covers : ℕ) → old.posted ≤ old.pending → old.pending ≤ length old.log → new.log ≡ old.log → new.posted ≡ old.posted → IsPostRefused old covers new
first_refused old new covers below within logs posted =
    λ total floors. inl (omega arith, omega arith, λ i. record { log = logs i; posted = posted i; taken = new.posted; floors = floors })

-- what waited is posted, and the second post is refused
pub second_refused : (old new : Standing) (covers : ℕ) → old.posted ≤ old.pending → old.pending ≤ length old.log → new.log ≡ old.log → new.posted ≡ old.pending → IsPostRefused old covers new
second_refused old new covers below within logs posted =
    λ total floors.
    let is : prefix_to_post (core_state old floors) old.pending ≡ old.pending = waits old floors below within in
    let same : new.posted ≡ prefix_to_post (core_state old floors) old.pending = posted ∙ sym is in
    inr ((λ i. Ok (Posted (is i)), refl), (omega arith, omega arith, λ i. record { log = logs i; posted = same i; taken = new.posted; floors = floors }))

-- the first of an answer
pub first_cut : {A E : Type 0} (result : Result A E) (old new : Standing) (covers : ℕ) → old.posted ≤ old.pending → old.pending ≤ length old.log → new.log ≡ old.log → new.posted ≡ old.posted
    → OnErr result (IsPostRefused old covers new)
first_cut (Ok answer) old new covers below within logs posted = tt
first_cut (Err error) old new covers below within logs posted = first_refused old new covers below within logs posted

-- the second of an answer
pub second_cut : {A E : Type 0} (result : Result A E) (old middle new : Standing) (covers : ℕ) → old.posted ≤ old.pending → old.pending ≤ length old.log → new.log ≡ old.log → middle.posted ≡ old.pending
    → OnErr result (new.posted ≡ middle.posted) → OnErr result (IsPostRefused old covers new)
second_cut (Ok answer) old middle new covers below within logs posted refused = tt
second_cut (Err error) old middle new covers below within logs posted refused = second_refused old new covers below within logs (refused ∙ posted)

-- a table that is posted where no later one is posted or waits
pub posts_are : (old new : Standing) (covers prefix : ℕ) → old.posted ≤ old.pending → old.pending ≤ length old.log → covers ≤ length old.log → new.log ≡ old.log → new.posted ≡ max old.pending covers
    → new.posted ≡ prefix → ArePostSteps old covers prefix new
posts_are old new covers prefix below within room logs posted answered =
    λ total floors.
    let first : prefix_to_post (core_state old floors) old.pending ≡ old.pending = waits old floors below within in
    let middle : State = state_after (core_state old floors) (event.Post old.pending) in
    let second : prefix_to_post middle covers ≡ prefix = omega (arith, posted, answered) in
    let same : new.posted ≡ prefix_to_post middle covers = answered ∙ sym second in
    ((λ i. Ok (Posted (first i)), refl), (λ i. Ok (Posted (second i)), λ i. record { log = logs i; posted = same i; taken = same i; floors = floors }))

-- the table of the whole log
pub posts_all : (old new : Standing) → old.posted ≤ old.pending → old.pending ≤ length old.log → new.log ≡ old.log → new.posted ≡ length new.log → ArePostStepsOfAll old new
posts_all old new below within logs posted =
    let whole : new.posted ≡ length old.log = posted ∙ ap length logs in
    posts_are old new (length old.log) (length old.log) below within (omega arith) logs (omega (arith, whole)) whole
