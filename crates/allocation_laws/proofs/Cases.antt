-- The definitions, computed on the worked cases.
use Rattle.std.proofs.Common.{◌≡◌, ℕ, List, [], ◌∷◌, ◌++◌, ◌*◌, ◌+◌, min, refl, Some, None, reverse, if◌then◌else◌, nat_eq}
use Rattle.bwe_specs.specs.declared.network.Closing.{Closing}
use Rattle.bwe_specs.specs.declared.report.Report.{Report}
use Rattle.bwe_specs.specs.declared.report.Target.TheVariants.{Task, Link}
use Rattle.bwe_specs.specs.Reports.{demand_after, capacities_after, capacity_after, last_amount, is_task, is_link}
use Rattle.bwe_specs.specs.Bounded.{sum_below, found_or, lowest_below, greatest_upto}
use Rattle.bwe_specs.specs.FunctionValue.{Point, between, value_from, function_value}
use Rattle.bwe_specs.specs.Paths.{PathGroup, uses, weight_of, weight_over, load_on, link_load, lowest_over, is_open, current_path_group}
use Rattle.bwe_specs.specs.Filling.{Wan, is_at, growth, step_by, filling_step, after_steps, filling, stop_share, group_stop}
use Rattle.bwe_specs.specs.RightClosings.{amounts_at, verdict, verdict_after, verdict_or, cause_after, share_cause, next_cause, top_verdict}
use Rattle.bwe_specs.specs.declared.network.Verdict.TheVariants.{Right, Wrong}
use Rattle.bwe_specs.specs.declared.network.Cause.TheVariants.{NoSuchLink, Reclosed, ShareFalls, ShareAtTop, OverBefore, FitsAfter, LowerLink, OverAtTop}
use Rattle.bwe_specs.specs.Distribution.{common_share, handed_out, distribution}
use Rattle.bwe_specs.specs.Tree.{Job, Cluster, inner_share, node_value, group_value, job_value, cluster_limits}

-- slope k up to 100, with the demand
slope : ℕ → ℕ → ℕ → ℕ
slope k demand share = min (k * share) demand

-- one path of weight 1 over one link
one_path : ℕ → PathGroup
one_path link = record { weight = 1; links = link ∷ [] } ∷ []

closing : ℕ → ℕ → Closing
closing link share = record { link = link; share = share }

-- every group has the one value
all_alike : (ℕ → ℕ) → ℕ → ℕ → ℕ
all_alike value group share = value share

-- Shared link: capacity 100, two groups of slope 1 with demands of 80
shared_link : Wan
shared_link = record { top = 100; value = all_alike (slope 1 80); groups = ((one_path 0) ∷ []) ∷ ((one_path 0) ∷ []) ∷ []; capacities = (100) ∷ [] }

shared_link-case : (reverse (filling shared_link).closings ≡ (closing 0 50) ∷ [])
    × ((filling shared_link).amounts 0 0 ≡ 50)
    × (amounts_at shared_link (filling shared_link).closings shared_link.top 0 0 ≡ 50)
    × ((filling shared_link).amounts 1 0 ≡ 50)
    × (amounts_at shared_link (filling shared_link).closings shared_link.top 1 0 ≡ 50)
    × (group_stop shared_link (filling shared_link) 0 ≡ 50)
    × (group_stop shared_link (filling shared_link) 1 ≡ 50)
    × (verdict shared_link ((closing 0 50) ∷ []) ≡ Right)
    × (verdict shared_link ([]) ≡ Wrong 0 (OverAtTop 0))
    × (verdict shared_link ((closing 0 49) ∷ []) ≡ Wrong 0 FitsAfter)
    × (verdict shared_link ((closing 0 51) ∷ []) ≡ Wrong 0 (OverBefore 0))
    × (verdict shared_link ((closing 0 100) ∷ []) ≡ Wrong 0 ShareAtTop)
    × (verdict shared_link ((closing 0 50) ∷ (closing 0 50) ∷ []) ≡ Wrong 1 Reclosed)
    × (verdict shared_link ((closing 1 50) ∷ []) ≡ Wrong 0 NoSuchLink)
unfolding filling after_steps filling_step step_by lowest_over link_load load_on weight_over weight_of uses is_open current_path_group growth is_at sum_below found_or lowest_below stop_share amounts_at verdict_after verdict_or cause_after share_cause next_cause top_verdict slope one_path all_alike shared_link closing
shared_link-case = (refl, refl, refl, refl, refl, refl, refl, refl, refl, refl, refl, refl, refl, refl)

-- One unit of slack: capacity 101
one_unit_of_slack : Wan
one_unit_of_slack = record { top = 100; value = all_alike (slope 1 80); groups = ((one_path 0) ∷ []) ∷ ((one_path 0) ∷ []) ∷ []; capacities = (101) ∷ [] }

one_unit_of_slack-case : (reverse (filling one_unit_of_slack).closings ≡ (closing 0 50) ∷ [])
    × ((filling one_unit_of_slack).amounts 0 0 ≡ 50)
    × (amounts_at one_unit_of_slack (filling one_unit_of_slack).closings one_unit_of_slack.top 0 0 ≡ 50)
    × ((filling one_unit_of_slack).amounts 1 0 ≡ 50)
    × (amounts_at one_unit_of_slack (filling one_unit_of_slack).closings one_unit_of_slack.top 1 0 ≡ 50)
    × (group_stop one_unit_of_slack (filling one_unit_of_slack) 0 ≡ 50)
    × (group_stop one_unit_of_slack (filling one_unit_of_slack) 1 ≡ 50)
    × (verdict one_unit_of_slack ((closing 0 50) ∷ []) ≡ Right)
unfolding filling after_steps filling_step step_by lowest_over link_load load_on weight_over weight_of uses is_open current_path_group growth is_at sum_below found_or lowest_below stop_share amounts_at verdict_after verdict_or cause_after share_cause next_cause top_verdict slope one_path all_alike one_unit_of_slack closing
one_unit_of_slack-case = (refl, refl, refl, refl, refl, refl, refl, refl)

-- Unequal slopes: capacity 90, slopes 2 and 1
unequal_slopes : Wan
unequal_slopes = record { top = 100; value = λ group share. if nat_eq group 0 then slope 2 1000 share else slope 1 1000 share; groups = ((one_path 0) ∷ []) ∷ ((one_path 0) ∷ []) ∷ []; capacities = (90) ∷ [] }

unequal_slopes-case : (reverse (filling unequal_slopes).closings ≡ (closing 0 30) ∷ [])
    × ((filling unequal_slopes).amounts 0 0 ≡ 60)
    × (amounts_at unequal_slopes (filling unequal_slopes).closings unequal_slopes.top 0 0 ≡ 60)
    × ((filling unequal_slopes).amounts 1 0 ≡ 30)
    × (amounts_at unequal_slopes (filling unequal_slopes).closings unequal_slopes.top 1 0 ≡ 30)
    × (group_stop unequal_slopes (filling unequal_slopes) 0 ≡ 30)
    × (group_stop unequal_slopes (filling unequal_slopes) 1 ≡ 30)
    × (verdict unequal_slopes ((closing 0 30) ∷ []) ≡ Right)
unfolding filling after_steps filling_step step_by lowest_over link_load load_on weight_over weight_of uses is_open current_path_group growth is_at sum_below found_or lowest_below stop_share amounts_at verdict_after verdict_or cause_after share_cause next_cause top_verdict slope one_path all_alike unequal_slopes closing
unequal_slopes-case = (refl, refl, refl, refl, refl, refl, refl, refl)

-- Sated group: demands 10 and 200
sated_group : Wan
sated_group = record { top = 100; value = λ group share. if nat_eq group 0 then slope 1 10 share else slope 1 200 share; groups = ((one_path 0) ∷ []) ∷ ((one_path 0) ∷ []) ∷ []; capacities = (100) ∷ [] }

sated_group-case : (reverse (filling sated_group).closings ≡ (closing 0 90) ∷ [])
    × ((filling sated_group).amounts 0 0 ≡ 10)
    × (amounts_at sated_group (filling sated_group).closings sated_group.top 0 0 ≡ 10)
    × ((filling sated_group).amounts 1 0 ≡ 90)
    × (amounts_at sated_group (filling sated_group).closings sated_group.top 1 0 ≡ 90)
    × (group_stop sated_group (filling sated_group) 0 ≡ 90)
    × (group_stop sated_group (filling sated_group) 1 ≡ 90)
    × (verdict sated_group ((closing 0 90) ∷ []) ≡ Right)
unfolding filling after_steps filling_step step_by lowest_over link_load load_on weight_over weight_of uses is_open current_path_group growth is_at sum_below found_or lowest_below stop_share amounts_at verdict_after verdict_or cause_after share_cause next_cause top_verdict slope one_path all_alike sated_group closing
sated_group-case = (refl, refl, refl, refl, refl, refl, refl, refl)

-- Second path group: one link of 30, then one of 20
second_path_group : Wan
second_path_group = record { top = 100; value = all_alike (slope 1 1000); groups = ((one_path 0) ∷ (one_path 1) ∷ []) ∷ []; capacities = (30) ∷ (20) ∷ [] }

second_path_group-case : (reverse (filling second_path_group).closings ≡ (closing 0 30) ∷ (closing 1 50) ∷ [])
    × ((filling second_path_group).amounts 0 0 ≡ 30)
    × (amounts_at second_path_group (filling second_path_group).closings second_path_group.top 0 0 ≡ 30)
    × ((filling second_path_group).amounts 0 1 ≡ 20)
    × (amounts_at second_path_group (filling second_path_group).closings second_path_group.top 0 1 ≡ 20)
    × (group_stop second_path_group (filling second_path_group) 0 ≡ 50)
    × (verdict second_path_group ((closing 0 30) ∷ (closing 1 50) ∷ []) ≡ Right)
    × (verdict second_path_group ((closing 0 30) ∷ (closing 1 20) ∷ []) ≡ Wrong 1 ShareFalls)
unfolding filling after_steps filling_step step_by lowest_over link_load load_on weight_over weight_of uses is_open current_path_group growth is_at sum_below found_or lowest_below stop_share amounts_at verdict_after verdict_or cause_after share_cause next_cause top_verdict slope one_path all_alike second_path_group closing
second_path_group-case = (refl, refl, refl, refl, refl, refl, refl, refl)

-- Lowest link first: two links would be over at once, and the group that moves puts a further one over
lowest_link_first : Wan
lowest_link_first = record { top = 100; value = all_alike (slope 1 1000); groups = (((record { weight = 1; links = 1 ∷ (2 ∷ []) } ∷ [])) ∷ (one_path 0) ∷ []) ∷ ((one_path 2) ∷ []) ∷ ((one_path 0) ∷ []) ∷ []; capacities = (11) ∷ (10) ∷ (21) ∷ [] }

lowest_link_first-case : (reverse (filling lowest_link_first).closings ≡ (closing 1 10) ∷ (closing 0 10) ∷ (closing 2 11) ∷ [])
    × ((filling lowest_link_first).amounts 0 0 ≡ 10)
    × (amounts_at lowest_link_first (filling lowest_link_first).closings lowest_link_first.top 0 0 ≡ 10)
    × ((filling lowest_link_first).amounts 0 1 ≡ 0)
    × (amounts_at lowest_link_first (filling lowest_link_first).closings lowest_link_first.top 0 1 ≡ 0)
    × ((filling lowest_link_first).amounts 1 0 ≡ 11)
    × (amounts_at lowest_link_first (filling lowest_link_first).closings lowest_link_first.top 1 0 ≡ 11)
    × ((filling lowest_link_first).amounts 2 0 ≡ 10)
    × (amounts_at lowest_link_first (filling lowest_link_first).closings lowest_link_first.top 2 0 ≡ 10)
    × (group_stop lowest_link_first (filling lowest_link_first) 0 ≡ 10)
    × (group_stop lowest_link_first (filling lowest_link_first) 1 ≡ 11)
    × (group_stop lowest_link_first (filling lowest_link_first) 2 ≡ 10)
    × (verdict lowest_link_first ((closing 1 10) ∷ (closing 0 10) ∷ (closing 2 11) ∷ []) ≡ Right)
    × (verdict lowest_link_first ((closing 2 10) ∷ []) ≡ Wrong 0 (LowerLink 1))
unfolding filling after_steps filling_step step_by lowest_over link_load load_on weight_over weight_of uses is_open current_path_group growth is_at sum_below found_or lowest_below stop_share amounts_at verdict_after verdict_or cause_after share_cause next_cause top_verdict slope one_path all_alike lowest_link_first closing
lowest_link_first-case = (refl, refl, refl, refl, refl, refl, refl, refl, refl, refl, refl, refl, refl, refl)

-- a function with a flat part
flat : List Point
flat = (record { share = 0; amount = 0 }) ∷ (record { share = 10; amount = 10 }) ∷ (record { share = 90; amount = 10 }) ∷ (record { share = 100; amount = 20 }) ∷ []

-- Flat function: nothing grows from 10 to 90
flat_function : Wan
flat_function = record { top = 100; value = λ group share. min (function_value flat share) 1000; groups = ((one_path 0) ∷ []) ∷ []; capacities = (15) ∷ [] }

flat_function-case : (reverse (filling flat_function).closings ≡ closing 0 95 ∷ [])
    × ((filling flat_function).amounts 0 0 ≡ 15)
unfolding filling after_steps filling_step step_by lowest_over link_load load_on weight_over weight_of uses is_open current_path_group growth is_at sum_below found_or lowest_below stop_share amounts_at verdict_after verdict_or cause_after share_cause next_cause top_verdict slope one_path all_alike function_value value_from between flat flat_function closing
flat_function-case = (refl, refl)

-- Weighted paths: a path of weight 2 and one of weight 1
weighted_paths : Wan
weighted_paths = record { top = 100; value = all_alike (slope 1 1000); groups = ((record { weight = 2; links = 0 ∷ [] } ∷ (record { weight = 1; links = 1 ∷ [] } ∷ [])) ∷ []) ∷ []; capacities = (7) ∷ (4) ∷ [] }

weighted_paths-case : (reverse (filling weighted_paths).closings ≡ (closing 0 10) ∷ [])
    × ((filling weighted_paths).amounts 0 0 ≡ 10)
    × (amounts_at weighted_paths (filling weighted_paths).closings weighted_paths.top 0 0 ≡ 10)
    × (group_stop weighted_paths (filling weighted_paths) 0 ≡ 10)
    × (verdict weighted_paths ((closing 0 10) ∷ []) ≡ Right)
    × (link_load weighted_paths.groups (λ group place. 10) 0 ≡ 7)
    × (link_load weighted_paths.groups (λ group place. 10) 1 ≡ 4)
unfolding filling after_steps filling_step step_by lowest_over link_load load_on weight_over weight_of uses is_open current_path_group growth is_at sum_below found_or lowest_below stop_share amounts_at verdict_after verdict_or cause_after share_cause next_cause top_verdict slope one_path all_alike weighted_paths closing
weighted_paths-case = (refl, refl, refl, refl, refl, refl, refl)

-- Zero capacity
zero_capacity : Wan
zero_capacity = record { top = 100; value = all_alike (slope 1 1000); groups = ((one_path 0) ∷ []) ∷ []; capacities = (0) ∷ [] }

zero_capacity-case : (reverse (filling zero_capacity).closings ≡ (closing 0 0) ∷ [])
    × ((filling zero_capacity).amounts 0 0 ≡ 0)
    × (amounts_at zero_capacity (filling zero_capacity).closings zero_capacity.top 0 0 ≡ 0)
    × (group_stop zero_capacity (filling zero_capacity) 0 ≡ 0)
    × (verdict zero_capacity ((closing 0 0) ∷ []) ≡ Right)
unfolding filling after_steps filling_step step_by lowest_over link_load load_on weight_over weight_of uses is_open current_path_group growth is_at sum_below found_or lowest_below stop_share amounts_at verdict_after verdict_or cause_after share_cause next_cause top_verdict slope one_path all_alike zero_capacity closing
zero_capacity-case = (refl, refl, refl, refl, refl)

-- Unused middle path group: the second is closed by the link of the first
unused_middle_path_group : Wan
unused_middle_path_group = record { top = 100; value = all_alike (slope 1 1000); groups = ((one_path 0) ∷ (record { weight = 1; links = 0 ∷ [] } ∷ (record { weight = 1; links = 1 ∷ [] } ∷ [])) ∷ (one_path 2) ∷ []) ∷ []; capacities = (5) ∷ (50) ∷ (5) ∷ [] }

unused_middle_path_group-case : (reverse (filling unused_middle_path_group).closings ≡ (closing 0 5) ∷ (closing 2 10) ∷ [])
    × ((filling unused_middle_path_group).amounts 0 0 ≡ 5)
    × (amounts_at unused_middle_path_group (filling unused_middle_path_group).closings unused_middle_path_group.top 0 0 ≡ 5)
    × ((filling unused_middle_path_group).amounts 0 1 ≡ 0)
    × (amounts_at unused_middle_path_group (filling unused_middle_path_group).closings unused_middle_path_group.top 0 1 ≡ 0)
    × ((filling unused_middle_path_group).amounts 0 2 ≡ 5)
    × (amounts_at unused_middle_path_group (filling unused_middle_path_group).closings unused_middle_path_group.top 0 2 ≡ 5)
    × (group_stop unused_middle_path_group (filling unused_middle_path_group) 0 ≡ 10)
    × (verdict unused_middle_path_group ((closing 0 5) ∷ (closing 2 10) ∷ []) ≡ Right)
unfolding filling after_steps filling_step step_by lowest_over link_load load_on weight_over weight_of uses is_open current_path_group growth is_at sum_below found_or lowest_below stop_share amounts_at verdict_after verdict_or cause_after share_cause next_cause top_verdict slope one_path all_alike unused_middle_path_group closing
unused_middle_path_group-case = (refl, refl, refl, refl, refl, refl, refl, refl, refl)

-- A network without groups and links
empty_network : Wan
empty_network = record { top = 1; value = all_alike (slope 1 1000); groups = []; capacities = [] }

empty_network-case : (reverse (filling empty_network).closings ≡ [])
    × (verdict empty_network ([]) ≡ Right)
unfolding filling after_steps filling_step step_by lowest_over link_load load_on weight_over weight_of uses is_open current_path_group growth is_at sum_below found_or lowest_below stop_share amounts_at verdict_after verdict_or cause_after share_cause next_cause top_verdict slope one_path all_alike empty_network closing
empty_network-case = (refl, refl)

-- Configured user: a user with a function over two jobs of one task each
steep : List Point
steep = (record { share = 0; amount = 0 }) ∷ (record { share = 10; amount = 100 }) ∷ []

mild : List Point
mild = (record { share = 0; amount = 0 }) ∷ (record { share = 10; amount = 50 }) ∷ []

demands : ℕ → ℕ
demands task = if nat_eq task 0 then 100 else 50

first_job : Job
first_job = record { configured = None; task = steep; tasks = (record { number = 0; weight = 1 }) ∷ [] }

second_job : Job
second_job = record { configured = None; task = mild; tasks = (record { number = 1; weight = 1 }) ∷ [] }

configured_user : Cluster
configured_user = record { configured = None; users = record { configured = Some ((record { share = 0; amount = 0 }) ∷ (record { share = 10; amount = 60 }) ∷ []); jobs = first_job ∷ (second_job ∷ []) } ∷ [] }

configured_user_value : group_value 10 demands (configured_user ∷ []) 0 10 ≡ 60
unfolding common_share handed_out distribution function_value value_from between greatest_upto inner_share node_value configured_user steep mild first_job second_job demands
configured_user_value = refl

configured_user_inner : inner_share 10 ((record { share = 0; amount = 0 }) ∷ (record { share = 10; amount = 60 }) ∷ []) (λ inner. job_value 10 demands first_job inner + job_value 10 demands second_job inner) 10 ≡ 4
unfolding common_share handed_out distribution function_value value_from between greatest_upto inner_share node_value configured_user steep mild first_job second_job demands
configured_user_inner = refl

configured_user_first : job_value 10 demands first_job 4 ≡ 40
unfolding common_share handed_out distribution function_value value_from between greatest_upto inner_share node_value configured_user steep mild first_job second_job demands
configured_user_first = refl

configured_user_second : job_value 10 demands second_job 4 ≡ 20
unfolding common_share handed_out distribution function_value value_from between greatest_upto inner_share node_value configured_user steep mild first_job second_job demands
configured_user_second = refl

configured_user_rest : cluster_limits 10 demands configured_user 55 ≡ 40 ∷ (15 ∷ [])
unfolding common_share handed_out distribution function_value value_from between greatest_upto inner_share node_value configured_user steep mild first_job second_job demands
configured_user_rest = refl

without_function : Cluster
without_function = record { configured = None; users = record { configured = None; jobs = first_job ∷ (second_job ∷ []) } ∷ [] }

without_function_limits : cluster_limits 10 demands without_function 61 ≡ 41 ∷ (20 ∷ [])
unfolding common_share handed_out distribution function_value value_from between greatest_upto inner_share node_value configured_user steep mild first_job second_job demands without_function
without_function_limits = refl

-- Weights in one job, Weighted rest: tasks of weights 3 and 1, where 100 gives 75 and 25, 102 gives 77 and 25
slope1 : List Point
slope1 = (record { share = 0; amount = 0 }) ∷ (record { share = 100; amount = 100 }) ∷ []

weighted : Cluster
weighted = record { configured = None; users = record { configured = None; jobs = record { configured = None; task = slope1; tasks = (record { number = 0; weight = 3 }) ∷ (record { number = 1; weight = 1 }) ∷ [] } ∷ [] } ∷ [] }

weighted_value : group_value 100 (λ task. 1000) (weighted ∷ []) 0 25 ≡ 100
unfolding function_value value_from between node_value weighted slope1
weighted_value = refl

weighted_limits : cluster_limits 100 (λ task. 1000) weighted 100 ≡ 75 ∷ (25 ∷ [])
unfolding common_share handed_out distribution function_value value_from between greatest_upto inner_share node_value weighted slope1
weighted_limits = refl

weighted_rest : cluster_limits 100 (λ task. 1000) weighted 102 ≡ 77 ∷ (25 ∷ [])
unfolding common_share handed_out distribution function_value value_from between greatest_upto inner_share node_value weighted slope1
weighted_rest = refl

-- Drain: demands of two tasks, then the link's capacity cut to 60 and to 0; a further report restores it
demand_of : ℕ → ℕ → Report
demand_of task amount = record { reporter = 0; target = Task task; amount = amount }

capacity_of : ℕ → ℕ → Report
capacity_of link amount = record { reporter = 0; target = Link link; amount = amount }

drain : List Report
drain = demand_of 0 80 ∷ demand_of 1 80 ∷ capacity_of 0 60 ∷ capacity_of 0 0 ∷ []

drain-case : (demand_after drain 0 ≡ 80) × (demand_after drain 2 ≡ 0) × (capacities_after (100 ∷ 50 ∷ []) drain ≡ 0 ∷ 50 ∷ [])
    × (capacities_after (100 ∷ []) (drain ++ capacity_of 0 200 ∷ []) ≡ 200 ∷ [])
unfolding demand_after capacities_after capacity_after last_amount is_task is_link demand_of capacity_of drain
drain-case = (refl, refl, refl, refl)
