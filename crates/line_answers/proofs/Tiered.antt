-- The table of tiers after a script.
use Rattle.std.proofs.Common.{◌≡◌, ℕ, ◌∙◌, List, length, ap, ap₂}
use mathlib.Core.Path.{fun_ext}
use Rattle.bwe_specs.specs.declared.report.Report.{Report}
use Rattle.bwe_specs.specs.Allocation.{Plan}
use Rattle.bwe_specs.specs.Paths.{PathGroups}
use Rattle.policy_tree.specs.Trees.{demand_in}
use Rattle.plain_table.specs.Tables.{plan_by}
use Rattle.plain_table.specs.Reported.{Reported, IsAfter}
use Rattle.tiers.specs.Tables.{plan_of}
use Rattle.tiers.specs.Tiered.{tiered_under}
use Rattle.line_answers.specs.TiersReply.{tiered_after}

-- a tree and a network after the script give the Tiered allocation of the script
pub tiered_after_script : (reported : Reported) (groups : List PathGroups) (plan : Plan) (script : List Report) (tiers : List ℕ)
    → IsAfter reported script → plan_by reported groups ≡ plan
    → tiered_under (plan_of reported.tree reported.network groups) reported.prefix (demand_in reported.tree) reported.network.capacities tiers
    ≡ tiered_after plan script tiers
unfolding tiered_under
tiered_after_script reported groups plan script tiers after same =
    ap (λ prefix. tiered_under (plan_by reported groups) prefix (demand_in reported.tree) reported.network.capacities tiers) after.prefix
    ∙ ap₂ (λ demand capacities. tiered_under (plan_by reported groups) (length script) demand capacities tiers) (fun_ext after.demands) after.capacities
    ∙ ap (λ planned. tiered_after planned script tiers) same
