-- A table that is kept by its changes has the text of the table made.
use Rattle.std.proofs.Common.{◌≡◌, ◌<◌, ℕ, Bool, true, false, cond, List, [], ◌∷◌, ◌++◌, length, length-append, refl, sym, ap, ◌∙◌, arith, flat_map}
use Rattle.std.specs.Prelude.{codes, decimal}
use Rattle.std.specs.Str.{bytes_eq}
use Rattle.std.proofs.lemmas.Bool.{ne_eqb}
use Rattle.std.proofs.lemmas.List.{length-map}
use Rattle.std.proofs.lemmas.Slice.Eq.{bytes_eq-Decides}
use Rattle.bwe_specs.specs.declared.network.Closing.{Closing}
use Rattle.bwe_specs.specs.Allocation.{Table, GroupLine}
use Rattle.bwe_specs.specs.Reports.{numbers}
use Rattle.demand_book.specs.TableChanges.{Frame, frame_of}
use Rattle.doc_names.specs.NameTexts.{NameTexts}
use Rattle.table_text.specs.TableText.{link_line, group_lines, task_line, text_of}
use Rattle.change_text.specs.ChangeText.{changed, changed_closings, closing_lines}
use Rattle.change_text.specs.Laws.{is_nothing, kept, kept_closings, kept_text, KeptTablesAreMadeTables, ChangesStandWhereLinesDiffer}
use Rattle.change_text.proofs.ChangeFacts.{same_lines, other_lines}

pub stand_where_they_differ : ChangesStandWhereLinesDiffer
stand_where_they_differ = λ earlier later number. (same_lines earlier later number, other_lines earlier later number)

-- ---- numbers

some_is_left : (text : List ℕ) → 0 < length text → is_nothing text ≡ false
some_is_left text some = ne_eqb (length text) 0 (λ e. omega (arith, some, e))

-- what is kept of a number is what the later table has, if that is something
kept_line : (earlier later : ℕ → List ℕ) (number : ℕ) → 0 < length (later number) → kept earlier (changed earlier later) number ≡ later number
unfolding changed
kept_line earlier later number some = go (bytes_eq (earlier number) (later number)) refl
  where
    go : (b : Bool) → bytes_eq (earlier number) (later number) ≡ b → cond (is_nothing (cond b [] (later number))) (earlier number) (cond b [] (later number)) ≡ later number
    go true e = (bytes_eq-Decides (earlier number) (later number)).0 e
    go false e = rw (some_is_left (later number) some) refl

kept_lines : (earlier later : ℕ → List ℕ) → ((number : ℕ) → 0 < length (later number)) → (list : List ℕ)
    → flat_map (kept earlier (changed earlier later)) list ≡ flat_map later list
kept_lines earlier later some [] = refl
kept_lines earlier later some (number ∷ list) =
    ap (λ (line : List ℕ). line ++ flat_map (kept earlier (changed earlier later)) list) (kept_line earlier later number (some number))
    ∙ ap (λ (rest : List ℕ). later number ++ rest) (kept_lines earlier later some list)

-- no line is empty
some_link : (names : NameTexts) (loads : List ℕ) (link : ℕ) → 0 < length (link_line names loads link)
some_link names loads link = simp length-append (omega arith)

some_group : (names : NameTexts) (lines : List GroupLine) (group : ℕ) → 0 < length (group_lines names lines group)
some_group names lines group = simp length-append (omega arith)

some_task : (names : NameTexts) (limits : List ℕ) (task : ℕ) → 0 < length (task_line names limits task)
some_task names limits task = simp length-append (omega arith)

-- ---- closings

kept_closings_are : (names : NameTexts) (earlier later : List Closing) → kept_closings names earlier later ≡ closing_lines names later
unfolding changed_closings
kept_closings_are names earlier later = go (bytes_eq (closing_lines names earlier) (closing_lines names later)) refl
  where
    counted : List ℕ
    counted = codes "closings " ++ decimal (length later) ++ codes "\n" ++ closing_lines names later

    some : 0 < length counted
    some = simp length-append (omega arith)

    go : (b : Bool) → bytes_eq (closing_lines names earlier) (closing_lines names later) ≡ b
        → cond (is_nothing (cond b [] counted)) (closing_lines names earlier) (closing_lines names later) ≡ closing_lines names later
    go true e = (bytes_eq-Decides (closing_lines names earlier) (closing_lines names later)).0 e
    go false e = rw (some_is_left counted some) refl

-- ---- the whole text

pub same_groups : (earlier later : Table) → frame_of earlier ≡ frame_of later → length earlier.groups ≡ length later.groups
same_groups earlier later e =
    sym (length-map earlier.groups (λ (line : GroupLine). length line.places))
    ∙ ap (λ (frame : Frame). length frame.path_groups) e
    ∙ length-map later.groups (λ (line : GroupLine). length line.places)

pub kept_are_made : KeptTablesAreMadeTables
unfolding kept_text text_of
kept_are_made = λ names earlier later one_plan.
    rw (
      kept_closings_are names earlier.closings later.closings,
      ap (λ (frame : Frame). frame.links) one_plan,
      same_groups earlier later one_plan,
      ap (λ (frame : Frame). frame.tasks) one_plan,
      kept_lines (link_line names earlier.loads) (link_line names later.loads) (some_link names later.loads) (numbers (length later.loads)),
      kept_lines (group_lines names earlier.groups) (group_lines names later.groups) (some_group names later.groups) (numbers (length later.groups)),
      kept_lines (task_line names earlier.limits) (task_line names later.limits) (some_task names later.limits) (numbers (length later.limits)),
    ) refl
