-- All tables of a plan have one frame, cover their reports and have the tasks of the plan: the laws
-- of a maker.
use Rattle.std.proofs.Common.{◌≡◌, ℕ, List, [], ◌∷◌, length, map, refl, sym, ◌∙◌, ap, ap₂}
use Rattle.std.proofs.lemmas.List.FromFn.{length-map-range_with_len}
use Rattle.bwe_specs.specs.declared.report.Report.{Report}
use Rattle.bwe_specs.specs.Filling.{Wan, State, filling}
use Rattle.bwe_specs.specs.Paths.{path_group_count}
use Rattle.bwe_specs.specs.Reports.{numbers, demand_after}
use Rattle.bwe_specs.specs.Allocation.{Plan, wan_after, group_line, limits_of, allocation}
use Rattle.bwe_specs.proofs.Plans.{length-capacities_after}
use Rattle.demand_book.specs.TableChanges.{Frame, frame_of}
use Rattle.plain_table.proofs.Lengths.{length-limits_of}
use Rattle.allocator.specs.Frames.{task_count, frame_of_plan}

places-of-lines : (wan : Wan) (final : State)
    → map (λ line. length line.places) (map (group_line wan final) (numbers (length wan.groups)))
    ≡ map (path_group_count wan.groups) (numbers (length wan.groups))
places-of-lines wan final = go (numbers (length wan.groups)) where
  go : (groups : List ℕ)
      → map (λ line. length line.places) (map (group_line wan final) groups)
      ≡ map (path_group_count wan.groups) groups
  go [] = refl
  go (group ∷ groups) =
      ap₂ (λ count counts. count ∷ counts)
      (length-map-range_with_len _ 0 (path_group_count wan.groups group)) (go groups)

abbrev parts : ℕ → List ℕ → ℕ → Frame
parts tasks path_groups links = record { tasks = tasks; path_groups = path_groups; links = links }

equal-frames : (tasks other_tasks : ℕ) (path_groups other_path_groups : List ℕ)
    (links other_links : ℕ)
    → tasks ≡ other_tasks → path_groups ≡ other_path_groups → links ≡ other_links
    → parts tasks path_groups links ≡ parts other_tasks other_path_groups other_links
equal-frames tasks other_tasks path_groups other_path_groups links other_links e f g =
    ap (λ n. parts n path_groups links) e ∙ ap (λ counts. parts other_tasks counts links) f
    ∙ ap (λ n. parts other_tasks other_path_groups n) g

-- each table of a plan has the frame of the plan
pub frame_of-allocation : (plan : Plan) (reports : List Report)
    → frame_of (allocation plan reports) ≡ frame_of_plan plan
unfolding allocation
frame_of-allocation plan reports =
    let wan : Wan = wan_after plan reports in
    let final : State = filling wan in
    let tasks : length (limits_of plan (demand_after reports) wan final) ≡ task_count plan =
    length-limits_of plan (demand_after reports) wan final in
    let loads : length (allocation plan reports).loads ≡ length plan.capacities =
    length-map-range_with_len _ 0 (length wan.capacities)
    ∙ length-capacities_after plan.capacities reports in
    equal-frames _ _ _ _ _ _ tasks (places-of-lines wan final) loads

-- a table covers the reports that it belongs to
pub covers-allocation : (plan : Plan) (reports : List Report)
    → (allocation plan reports).prefix ≡ length reports
unfolding allocation
covers-allocation plan reports = refl

-- all tables of a plan have one frame
pub one_frame-allocation : (plan : Plan) (reports others : List Report)
    → frame_of (allocation plan reports) ≡ frame_of (allocation plan others)
one_frame-allocation plan reports others =
    frame_of-allocation plan reports ∙ sym (frame_of-allocation plan others)

-- all tables of a plan have its number of tasks
pub same_tasks-allocation : (plan : Plan) (reports : List Report)
    → (frame_of (allocation plan reports)).tasks ≡ task_count plan
same_tasks-allocation plan reports = ap (λ frame. frame.tasks) (frame_of-allocation plan reports)
