-- The laws, tried on worked cases: what they cannot say.
use Rattle.std.proofs.Common.{◌≡◌, ℕ, zero, suc, ◌<◌, ◌≤◌, [], ◌∷◌, slice_index, refl, arith}
use Rattle.bwe_specs.specs.Bounded.{sum_below, found_or, lowest_below}
use Rattle.bwe_specs.specs.Paths.{PathGroup, uses, weight_of, weight_over, load_on, link_load, lowest_over, is_open, current_path_group}
use Rattle.bwe_specs.specs.Filling.{Wan, is_at, growth, step_by, filling_step, after_steps, filling, stop_share, group_stop}
use Rattle.max_min.specs.MaxMin.{HasOnePathGroupEach, IsAssignment, values_at}

-- one path of weight 1 over one link
one_path : ℕ → PathGroup
one_path link = record { weight = 1; links = link ∷ [] } ∷ []

-- of two groups the first has one share or amount, the second another
of_two : ℕ → ℕ → ℕ → ℕ
of_two first second zero = first
of_two first second (suc group) = second

-- Slack: two groups of slope 1 over a link of 11. Both stop at 5. An assignment has 6 for the first
-- and takes nothing from the second; so the law says that the other has no more, and not that it
-- has less
slack : Wan
slack = record { top = 9; value = λ group share. share; groups = (one_path 0 ∷ []) ∷ (one_path 0 ∷ []) ∷ []; capacities = 11 ∷ [] }

slack-stops : (group_stop slack (filling slack) 0 ≡ 5) × (group_stop slack (filling slack) 1 ≡ 5)
unfolding filling after_steps filling_step step_by lowest_over link_load load_on weight_over weight_of uses is_open current_path_group growth is_at sum_below found_or lowest_below stop_share one_path slack
slack-stops = (refl, refl)

slack-single : HasOnePathGroupEach slack.groups
unfolding slack
slack-single zero lt = refl
slack-single (suc zero) lt = refl
slack-single (suc (suc group)) lt = absurd (omega (arith, lt))

slack-assignment : IsAssignment slack (of_two 6 5)
unfolding link_load load_on weight_over weight_of sum_below one_path slack of_two
slack-assignment = record { within = within; fits = fits } where
  within : (group : ℕ) → group < 2 → of_two 6 5 group ≤ 9
  within zero lt = omega arith
  within (suc group) lt = omega arith

  fits : (link : ℕ) → link < 1 → link_load slack.groups (values_at slack (of_two 6 5)) link ≤ slice_index (11 ∷ []) link
  fits zero lt = omega arith
  fits (suc link) lt = absurd (omega arith)

-- Several path groups: the first group goes on by the second link where the first closes, and gets
-- 15, the other 5. Amounts of 10 for each are within the capacities. So with several path groups
-- the filling does not do the best for those who have least
detour : Wan
detour = record { top = 15; value = λ group share. share; groups = (one_path 0 ∷ one_path 1 ∷ []) ∷ (one_path 0 ∷ []) ∷ []; capacities = 10 ∷ 10 ∷ [] }

-- the first group's 10 on its second path group, the other's on its first
by_detour : ℕ → ℕ → ℕ
by_detour zero zero = 0
by_detour zero (suc place) = 10
by_detour (suc group) place = 10

detour-stops : (group_stop detour (filling detour) 0 ≡ 15) × (group_stop detour (filling detour) 1 ≡ 5)
    × (link_load detour.groups by_detour 0 ≡ 10) × (link_load detour.groups by_detour 1 ≡ 10)
unfolding filling after_steps filling_step step_by lowest_over link_load load_on weight_over weight_of uses is_open current_path_group growth is_at sum_below found_or lowest_below stop_share one_path detour by_detour
detour-stops = (refl, refl, refl, refl)

-- The same with a link of 1: it closes at 0, and the first group goes on by the second link, with
-- nothing on the first. Then the first link has room for 1 more of the other group, which stopped
-- at 0, while nobody over it who stopped so early has anything
narrow : Wan
narrow = record { top = 1; value = λ group share. share; groups = (one_path 0 ∷ one_path 1 ∷ []) ∷ (one_path 0 ∷ []) ∷ []; capacities = 1 ∷ 1 ∷ [] }

beside : ℕ → ℕ → ℕ
beside zero zero = 0
beside zero (suc place) = 1
beside (suc group) place = 1

narrow-stops : (group_stop narrow (filling narrow) 0 ≡ 1) × (group_stop narrow (filling narrow) 1 ≡ 0)
    × ((filling narrow).amounts 0 0 ≡ 0) × ((filling narrow).amounts 0 1 ≡ 1)
    × (link_load narrow.groups beside 0 ≡ 1) × (link_load narrow.groups beside 1 ≡ 1)
unfolding filling after_steps filling_step step_by lowest_over link_load load_on weight_over weight_of uses is_open current_path_group growth is_at sum_below found_or lowest_below stop_share one_path narrow beside
narrow-stops = (refl, refl, refl, refl, refl, refl)
