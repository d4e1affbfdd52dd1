-- The command `tiers`, and what an accepted document and the second part behind it get.
use Rattle.std.specs.Prelude.{ℕ, List, length, Option, Some, None}
use Rattle.bwe_specs.specs.declared.report.Report.{Report}
use Rattle.bwe_specs.specs.Allocation.{Plan}
use Rattle.bwe_specs.specs.Reports.{demand_after, capacities_after}
use Rattle.one_run.specs.Endings.{Reply}
use Rattle.doc_parts.specs.Document.{Accepted}
use Rattle.doc_parts.specs.Plans.{plan_of}
use Rattle.doc_names.specs.NameTexts.{NameTexts}
use Rattle.tier_text.specs.TierPart.{part_fault, tiers_in, tiers_line}
use Rattle.tier_text.specs.TierText.{tier_text_of}
use Rattle.tiers.specs.Tiered.{Tiered, tiered_under}

-- the Tiered allocation of the demands and capacities after these reports
abbrev pub tiered_after : Plan → List Report → List ℕ → Tiered
tiered_after plan reports tiers =
    tiered_under plan (length reports) (demand_after reports)
    (capacities_after plan.capacities reports) tiers

-- the text of its table
abbrev pub tiered_reply : NameTexts → Plan → List Report → List ℕ → Reply
tiered_reply names plan script tiers =
    record { status = 0; text = tier_text_of names (tiered_after plan script tiers) }

-- the row for the first byte at fault, where there is one
abbrev pub unless_refused : Option ℕ → Reply → Reply
unless_refused (Some at) given = record { status = 3; text = tiers_line at }
unless_refused None given = given

-- `tiers`: the table of the script and of the tiers that the part gives to all groups
abbrev pub tiers_reply : NameTexts → Plan → List Report → List ℕ → Reply
tiers_reply names plan script part =
    let groups = length plan.groups in
    unless_refused (part_fault groups part) (tiered_reply names plan script (tiers_in groups part))

abbrev pub tiers_accepted : Accepted → List ℕ → Reply
tiers_accepted accepted part = tiers_reply accepted.names (plan_of accepted) accepted.script part
