-- What all groups may have together at a share, and after a script.
use Rattle.std.proofs.Common.{◌≡◌, ℕ, ◌≤◌, ◌∙◌, List, length, sum, min, ap, arith, le_refl}
use mathlib.Core.Path.{fun_ext}
use Rattle.bwe_specs.specs.declared.limits.TheConstants.{MAX_TOTAL}
use Rattle.bwe_specs.specs.Bounded.{sum_below}
use Rattle.bwe_specs.specs.declared.report.Report.{Report}
use Rattle.bwe_specs.specs.Allocation.{Plan}
use Rattle.bwe_specs.specs.Paths.{PathGroups}
use Rattle.bwe_specs.specs.Reports.{demand_after}
use Rattle.bwe_specs.specs.Values.{AreValues}
use Rattle.bwe_specs.proofs.Bounds.{sum_below-mono}
use Rattle.bwe_specs.proofs.ShareFunctions.{share-mono}
use Rattle.plain_table.proofs.Filled.{sum-numbers}
use Rattle.plain_table.specs.Tables.{plan_by}
use Rattle.plain_table.specs.Reported.{IsAfter, Reported}
use Rattle.policy_tree.specs.Trees.{Tree, demand_in, value_in}
use Rattle.parallel_values.specs.Levels.{levels_in}
use Rattle.doc_names.specs.NameTexts.{NameTexts}
use Rattle.line_answers.specs.Replies.{levels_reply, values_reply}

pub levels-together : (tree : Tree) (share : ℕ) → AreValues (length tree.clusters) tree.top (value_in tree) → share ≤ tree.top → sum (levels_in tree share) ≤ MAX_TOTAL
levels-together tree share are within =
    let groups = length tree.clusters in
    let below : sum_below groups (λ group. value_in tree group share) ≤ sum_below groups (λ group. value_in tree group tree.top) =
    sum_below-mono groups (λ group. value_in tree group share) (λ group. value_in tree group tree.top)
    (λ group lt. share-mono tree.top (value_in tree group) (record { starts = are.starts group; next = are.never_falls group }) share tree.top within (le_refl tree.top)) in
    omega (arith, sum-numbers (λ group. value_in tree group share) groups, below, are.together)

-- the values of a tree at the lesser of a share and its top
pub levels-lesser : (asked share : ℕ) (names : NameTexts) (tree reported : Tree) → share ≡ min asked tree.top → tree ≡ reported
    → values_reply names share (levels_in tree share) ≡ levels_reply asked names reported.top (demand_in reported) reported.clusters
levels-lesser asked share names tree reported lesser same =
    ap (λ s. values_reply names s (levels_in tree s)) lesser ∙ ap (λ (of : Tree). levels_reply asked names of.top (demand_in of) of.clusters) same

-- a tree after a script gives the reply of the script
pub levels-after : (asked : ℕ) (names : NameTexts) (reported : Reported) (groups : List PathGroups) (plan : Plan) (script : List Report)
    → IsAfter reported script → plan_by reported groups ≡ plan
    → levels_reply asked names reported.tree.top (demand_in reported.tree) reported.tree.clusters ≡ levels_reply asked names plan.top (demand_after script) plan.clusters
levels-after asked names reported groups plan script after same =
    ap (λ demand. levels_reply asked names reported.tree.top demand reported.tree.clusters) (fun_ext after.demands)
    ∙ ap (λ (planned : Plan). levels_reply asked names planned.top (demand_after script) planned.clusters) same
