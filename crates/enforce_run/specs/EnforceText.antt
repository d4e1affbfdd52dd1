-- The text of a world of regions after its events, row by row. A text is the list of its bytes.
use Rattle.std.specs.Prelude.{ℕ, ◌++◌, List, [], Option, Some, None, length, flat_map, slice_index, codes, decimal}
use Rattle.bwe_specs.specs.Reports.{numbers}
use Rattle.enforcer_core.specs.declared.event.WorldAnswer.{WorldAnswer}
use Rattle.enforcer_core.specs.declared.event.WorldAnswer.TheVariants.{Posted, Sent, Took, Older, Acked, Restarted}
use Rattle.enforcer_core.specs.World.{World, acked_at, limit_in_force, prefix_in_force, region_at, settled_of, tasks_at}
use Rattle.doc_names.specs.NameTexts.{entry_at}
use Rattle.bwe_specs.specs.declared.report.Report.{Report}
use Rattle.enforce_run.specs.declared.event.EventLine.{EventLine}
use Rattle.enforce_run.specs.Playing.{played_of}

-- what an event was answered
unfoldable pub answer_line : WorldAnswer → List ℕ
answer_line (Posted prefix) = codes "posted " ++ decimal prefix ++ codes "\n"
answer_line (Sent message prefix) =
    codes "sent " ++ decimal message ++ codes " prefix " ++ decimal prefix ++ codes "\n"
answer_line (Took prefix up) =
    codes "took " ++ decimal prefix ++ codes " up " ++ decimal up ++ codes "\n"
answer_line (Older floor up) =
    codes "older " ++ decimal floor ++ codes " up " ++ decimal up ++ codes "\n"
answer_line (Acked prefix) = codes "acked " ++ decimal prefix ++ codes "\n"
answer_line (Restarted floor) = codes "restarted floor " ++ decimal floor ++ codes "\n"

-- a region: its floor, what it acknowledged, and how many reports the table covers whose limits are
-- in force
unfoldable pub region_line : ℕ → ℕ → ℕ → Option ℕ → List ℕ
region_line region floor acked None =
    codes "region " ++ decimal region ++ codes " floor " ++ decimal floor ++ codes " acked "
    ++ decimal acked ++ codes " in force none\n"
region_line region floor acked (Some prefix) =
    codes "region " ++ decimal region ++ codes " floor " ++ decimal floor ++ codes " acked "
    ++ decimal acked ++ codes " in force " ++ decimal prefix ++ codes "\n"

-- a task's limit, where it is in force
unfoldable pub limit_text : List ℕ → Option ℕ → List ℕ
limit_text name None = []
limit_text name (Some limit) =
    codes "task " ++ name ++ codes " limit " ++ decimal limit ++ codes "\n"

abbrev pub limit_line : {T : Type 0} → List (List ℕ) → World T → ℕ → ℕ → List ℕ
limit_line names world region place =
    limit_text (entry_at names (slice_index (tasks_at world region) place))
    (limit_in_force world region place)

-- a region's row, and under it the limits in force
abbrev pub region_lines : {T : Type 0} → List (List ℕ) → World T → ℕ → List ℕ
region_lines names world region =
    region_line region (region_at world region).floor (acked_at world region)
    (prefix_in_force world region)
    ++ flat_map (limit_line names world region) (numbers (length (tasks_at world region)))

-- the whole text, with the names of tasks
unfoldable pub enforce_text_of : {T : Type 0} → (T → ℕ) → List (List ℕ) → List WorldAnswer → World T
    → List ℕ
enforce_text_of covers names answers world =
    flat_map answer_line answers
    ++ flat_map (region_lines names world) (numbers (length world.tasks))
    ++ codes "settled " ++ decimal (settled_of covers world) ++ codes "\n"

-- the text of written events on a world of regions, with the tables of a script
unfoldable pub enforced_text : {T : Type 0} → (T → ℕ) → (T → ℕ → ℕ) → (List Report → T)
    → List Report → List (List ℕ) → List (List ℕ) → List EventLine → List ℕ
enforced_text covers limit_at table_of script tasks names lines =
    let played = played_of covers limit_at table_of script tasks lines in
    enforce_text_of covers names played.answers played.world
