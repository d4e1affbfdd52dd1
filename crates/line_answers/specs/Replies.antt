-- What the input of `check` and of `levels` gets.
use Rattle.std.specs.Prelude.{ℕ, List, min}
use Rattle.bwe_specs.specs.declared.network.Closing.{Closing}
use Rattle.bwe_specs.specs.declared.network.Verdict.{Verdict}
use Rattle.bwe_specs.specs.declared.network.Verdict.TheVariants.{Right, Wrong}
use Rattle.bwe_specs.specs.declared.report.Report.{Report}
use Rattle.bwe_specs.specs.Allocation.{Plan, wan_after}
use Rattle.bwe_specs.specs.Reports.{demand_after}
use Rattle.bwe_specs.specs.RightClosings.{verdict}
use Rattle.bwe_specs.specs.Tree.{Cluster}
use Rattle.one_run.specs.Endings.{Reply}
use Rattle.doc_names.specs.NameTexts.{NameTexts}
use Rattle.reply_text.specs.CheckText.{verdict_line}
use Rattle.reply_text.specs.LevelsText.{levels_text_of}
use Rattle.parallel_values.specs.Levels.{levels}
use Rattle.doc_parts.specs.Document.{Accepted}
use Rattle.doc_parts.specs.Plans.{plan_of}

-- exit status 0 where the closings are right, else 1
abbrev pub verdict_status : Verdict → ℕ
verdict_status Right = 0
verdict_status (Wrong at cause) = 1

-- `check`: the verdict on the closings, under the demands and capacities after the script
abbrev pub check_reply : NameTexts → Plan → List Report → List Closing → Reply
check_reply names plan script closings =
    let judged = verdict (wan_after plan script) closings in
    record { status = verdict_status judged; text = verdict_line names judged }

-- the text of what all groups may have at a share
abbrev pub values_reply : NameTexts → ℕ → List ℕ → Reply
values_reply names share values = record { status = 0; text = levels_text_of names share values }

-- `levels`: what each group of a tree may have under these demands, at the share that was asked for
-- or at the top, whichever is less
abbrev pub levels_reply : ℕ → NameTexts → ℕ → (ℕ → ℕ) → List Cluster → Reply
levels_reply asked names top demand clusters =
    let share = min asked top in
    values_reply names share (levels top demand clusters share)

-- `check` and `levels` of an accepted document
abbrev pub check_accepted : Accepted → Reply
check_accepted accepted =
    check_reply accepted.names (plan_of accepted) accepted.script accepted.closings

abbrev pub levels_accepted : ℕ → Accepted → Reply
levels_accepted share accepted =
    levels_reply share accepted.names accepted.top (demand_after accepted.script) accepted.clusters
