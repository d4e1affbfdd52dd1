-- The rows of a table text and of a change text, and the one put into the other.
use Rattle.std.proofs.Common.{◌≡◌, ◌≢◌, ◌<◌, ℕ, Bool, true, false, cond, not, List, [], ◌∷◌, ◌++◌, length, map, filter, flat_map, get_or, Option, Some, None, refl, sym, ap, ap₂, subst, ◌∙◌, arith, All, ◌==◌, ◌||◌, codes, decimal, ◌⊎◌, inl, inr, append_assoc, append-nil, bytes_eq, sum_by, slice_index, slice_index_or, ne_eqb}
use Rattle.std.specs.List.{list_any}
use Rattle.std.proofs.lemmas.Bool.{cases_lt}
use Rattle.std.proofs.lemmas.List.{append_cancel_left, get_or_past}
use Rattle.std.proofs.lemmas.List.Concat.{flat_map-append}
use Rattle.std.proofs.lemmas.List.Elements.{All-append, All-cons, All-head, All-nil, All-tail, filter-append}
use Rattle.std.proofs.lemmas.List.FromFn.{get_or-range_with_len, length-range_with_len}
use Rattle.std.proofs.lemmas.List.Splits.{slice_split_at, slice_split_none}
use Rattle.std.proofs.lemmas.Slice.Eq.{bytes_eq-Decides}
use Rattle.bwe_specs.specs.declared.network.Closing.{Closing}
use Rattle.bwe_specs.specs.Allocation.{GroupLine, PlaceLine, Table}
use Rattle.bwe_specs.specs.Reports.{numbers}
use Rattle.demand_book.specs.TableChanges.{Frame, frame_of}
use Rattle.doc_names.specs.NameTexts.{IsPlain, NameTexts, entry_at}
use Rattle.text_scan.specs.Lines.{lines_of}
use Rattle.text_scan.specs.Words.{words_of}
use Rattle.table_text.specs.TableText.{closed_text, closing_line, group_lines, link_line, place_line, task_line, text_of}
use Rattle.change_text.specs.ChangeText.{change_text_of, changed, changed_closings, closing_lines}
use Rattle.change_text.specs.ChangedText.{Block, begins_with, blocks_of, changed_rows, closings_in, is_of_block, blocks_of_rows, is_place, key_of, newest, text_of_rows, with_change_text, word_at}
use Rattle.change_text.specs.Laws.{AreTold, ChangedTextIsLaterText, IsTold}
use Rattle.change_text.proofs.LawFacts.{same_groups}
use Rattle.change_text.proofs.RowFacts.{ArePlaces, HasNo, IsIn, all-blocks, all-newest, changed-text, has_changed, in-append, in-map, no-append, no-decimal, rows-append, rows-read, same-each}

-- ---- rows of words

-- a word, a name, and what follows
abbrev row_of : List ℕ → List ℕ → List ℕ → List ℕ
row_of word name rest = word ++ 32 ∷ (name ++ 32 ∷ rest)

abbrev link_row : NameTexts → List ℕ → ℕ → List ℕ
link_row names loads link = row_of (codes "link") (entry_at names.links link) (codes "load " ++ decimal (slice_index loads link))

abbrev task_row : NameTexts → List ℕ → ℕ → List ℕ
task_row names limits task = row_of (codes "task") (entry_at names.tasks task) (codes "limit " ++ decimal (slice_index limits task))

abbrev group_at : List GroupLine → ℕ → GroupLine
group_at lines group = slice_index_or lines group (record { share = 0; amount = 0; places = [] })

abbrev group_row : NameTexts → List GroupLine → ℕ → List ℕ
group_row names lines group =
    row_of (codes "group") (entry_at names.groups group) (codes "share " ++ decimal (group_at lines group).share ++ codes " amount " ++ decimal (group_at lines group).amount)

abbrev closed_words : NameTexts → Option ℕ → List ℕ
closed_words names None = codes " open"
closed_words names (Some link) = codes " closed by " ++ entry_at names.links link

abbrev place_at : List PlaceLine → ℕ → PlaceLine
place_at lines place = slice_index_or lines place (record { amount = 0; closed = None })

abbrev place_row : NameTexts → List PlaceLine → ℕ → List ℕ
place_row names lines place =
    codes "place " ++ decimal place ++ codes " amount " ++ decimal (place_at lines place).amount ++ closed_words names (place_at lines place).closed

abbrev closing_row : NameTexts → Closing → List ℕ
closing_row names closing = row_of (codes "closing") (entry_at names.links closing.link) (codes "at " ++ decimal closing.share)

abbrev total_row : List GroupLine → List ℕ
total_row lines = codes "total " ++ decimal (sum_by (λ line. line.amount) lines)

-- ---- blocks

data Entry : Type 0 where
  a_link : ℕ → Entry
  a_group : ℕ → Entry
  a_task : ℕ → Entry

abbrev entries : Table → List Entry
entries table = map a_link (numbers (length table.loads)) ++ map a_group (numbers (length table.groups)) ++ map a_task (numbers (length table.limits))

abbrev first_row : NameTexts → Table → Entry → List ℕ
first_row names table (a_link link) = link_row names table.loads link
first_row names table (a_group group) = group_row names table.groups group
first_row names table (a_task task) = task_row names table.limits task

abbrev places_of : NameTexts → Table → Entry → List (List ℕ)
places_of names table (a_link link) = []
places_of names table (a_group group) = map (place_row names (group_at table.groups group).places) (numbers (length (group_at table.groups group).places))
places_of names table (a_task task) = []

abbrev block_of : NameTexts → Table → Entry → Block
block_of names table entry = first_row names table entry ∷ places_of names table entry

-- ---- rows are lines without their line feeds

shape : (word name between number : List ℕ) → word ++ name ++ between ++ number ++ codes "\n" ≡ (word ++ (name ++ (between ++ number))) ++ codes "\n"
shape word name between number = simp append_assoc

link-text : (names : NameTexts) (loads : List ℕ) (link : ℕ) → text_of_rows (link_row names loads link ∷ []) ≡ link_line names loads link
link-text names loads link = append-nil _ ∙ sym (shape (codes "link ") (entry_at names.links link) (codes " load ") (decimal (slice_index loads link)))

task-text : (names : NameTexts) (limits : List ℕ) (task : ℕ) → text_of_rows (task_row names limits task ∷ []) ≡ task_line names limits task
task-text names limits task = append-nil _ ∙ sym (shape (codes "task ") (entry_at names.tasks task) (codes " limit ") (decimal (slice_index limits task)))

closing-text : (names : NameTexts) (closing : Closing) → closing_row names closing ++ codes "\n" ≡ closing_line names closing
closing-text names closing = sym (shape (codes "closing ") (entry_at names.links closing.link) (codes " at ") (decimal closing.share))

closings-text : (names : NameTexts) (closings : List Closing) → text_of_rows (map (closing_row names) closings) ≡ closing_lines names closings
closings-text names [] = refl
closings-text names (closing ∷ closings) = ap₂ (λ (one more : List ℕ). one ++ more) (closing-text names closing) (closings-text names closings)

closed-text : (names : NameTexts) (text : List ℕ) (closed : Option ℕ) → (text ++ closed_words names closed) ++ codes "\n" ≡ text ++ closed_text names closed
unfolding closed_text
closed-text names text None = append_assoc text (codes " open") (codes "\n")
closed-text names text (Some link) = append_assoc text (codes " closed by " ++ entry_at names.links link) (codes "\n")

places-text : (names : NameTexts) (lines : List PlaceLine) (places : List ℕ) → text_of_rows (map (place_row names lines) places) ≡ flat_map (place_line names lines) places
places-text names lines [] = refl
places-text names lines (place ∷ places) =
    ap₂ (λ (one more : List ℕ). one ++ more)
    (closed-text names (codes "place " ++ decimal place ++ codes " amount " ++ decimal (place_at lines place).amount) (place_at lines place).closed) (places-text names lines places)

group-shape : (word name share number amount more : List ℕ) → word ++ name ++ share ++ number ++ amount ++ more ++ codes "\n" ≡ (word ++ (name ++ (share ++ number ++ amount ++ more))) ++ codes "\n"
group-shape word name share number amount more = simp append_assoc

group-text : (names : NameTexts) (lines : List GroupLine) (group : ℕ)
    → text_of_rows (group_row names lines group ∷ map (place_row names (group_at lines group).places) (numbers (length (group_at lines group).places))) ≡ group_lines names lines group
group-text names lines group =
    ap₂ (λ (one more : List ℕ). one ++ more)
    (sym (group-shape (codes "group ") (entry_at names.groups group) (codes " share ") (decimal (group_at lines group).share) (codes " amount ") (decimal (group_at lines group).amount)))
    (places-text names (group_at lines group).places (numbers (length (group_at lines group).places)))

-- the lines of all links, groups and tasks
map-text : {X Y : Type 0} (f : X → Y) (line : Y → List ℕ) (xs : List X) → flat_map line (map f xs) ≡ flat_map (λ x. line (f x)) xs
map-text f line [] = refl
map-text f line (x ∷ xs) = ap (λ (rest : List ℕ). line (f x) ++ rest) (map-text f line xs)

same-lines : {X : Type 0} (f g : X → List ℕ) → ((x : X) → f x ≡ g x) → (xs : List X) → flat_map f xs ≡ flat_map g xs
same-lines f g each xs = same-each f g xs (λ x is. each x)

three : (table : Table) (line : Entry → List ℕ) (link group task : ℕ → List ℕ) → ((n : ℕ) → line (a_link n) ≡ link n) → ((n : ℕ) → line (a_group n) ≡ group n) → ((n : ℕ) → line (a_task n) ≡ task n)
    → flat_map line (entries table) ≡ flat_map link (numbers (length table.loads)) ++ flat_map group (numbers (length table.groups)) ++ flat_map task (numbers (length table.limits))
three table line link group task links groups tasks =
    let one : List Entry = map a_link (numbers (length table.loads)) in
    let two : List Entry = map a_group (numbers (length table.groups)) in
    let rest : List Entry = map a_task (numbers (length table.limits)) in
    flat_map-append line (one ++ two) rest
    ∙ ap₂ (λ (front rest : List ℕ). front ++ rest)
    (flat_map-append line one two
    ∙ ap₂ (λ (front rest : List ℕ). front ++ rest)
    (map-text a_link line (numbers (length table.loads)) ∙ same-lines (λ n. line (a_link n)) link links (numbers (length table.loads)))
    (map-text a_group line (numbers (length table.groups)) ∙ same-lines (λ n. line (a_group n)) group groups (numbers (length table.groups))))
    (map-text a_task line (numbers (length table.limits)) ∙ same-lines (λ n. line (a_task n)) task tasks (numbers (length table.limits)))

-- ---- the rows of the whole texts

abbrev table_rows : NameTexts → Table → List (List ℕ)
table_rows names table =
    (codes "table " ++ decimal table.prefix) ∷ (map (closing_row names) table.closings ++ (flat_map (block_of names table) (entries table) ++ total_row table.groups ∷ []))

-- the change has a number's closings where they are printed otherwise
abbrev counted_rows : NameTexts → Bool → List Closing → List (List ℕ)
counted_rows names true closings = []
counted_rows names false closings = (codes "closings " ++ decimal (length closings)) ∷ map (closing_row names) closings

abbrev same_closings : NameTexts → Table → Table → Bool
same_closings names earlier later = bytes_eq (closing_lines names earlier.closings) (closing_lines names later.closings)

abbrev changed_entries : NameTexts → Table → Table → List Entry
changed_entries names earlier later = filter (has_changed (block_of names earlier) (block_of names later)) (entries later)

abbrev change_rows : NameTexts → Table → Table → List (List ℕ)
change_rows names earlier later =
    (codes "change " ++ decimal later.prefix)
    ∷ (counted_rows names (same_closings names earlier later) later.closings
    ++ (flat_map (block_of names later) (changed_entries names earlier later) ++ total_row later.groups ∷ []))

rows-whole : (first last : List ℕ) (closings blocks : List (List ℕ))
    → text_of_rows (first ∷ (closings ++ (blocks ++ last ∷ []))) ≡ (first ++ codes "\n") ++ (text_of_rows closings ++ (text_of_rows blocks ++ (last ++ codes "\n")))
rows-whole first last closings blocks =
    ap (λ (rest : List ℕ). (first ++ codes "\n") ++ rest) (rows-append closings (blocks ++ last ∷ [])
    ∙ ap (λ (rest : List ℕ). text_of_rows closings ++ rest) (rows-append blocks (last ∷ [])
    ∙ ap (λ (rest : List ℕ). text_of_rows blocks ++ rest) (append-nil (last ++ codes "\n"))))

frame : (first closings links groups tasks word number end : List ℕ)
    → first ++ closings ++ links ++ groups ++ tasks ++ word ++ number ++ end ≡ first ++ (closings ++ ((links ++ groups ++ tasks) ++ (word ++ number ++ end)))
frame first closings links groups tasks word number end = simp append_assoc

flat-text : {X : Type 0} (block : X → List (List ℕ)) (xs : List X) → text_of_rows (flat_map block xs) ≡ flat_map (λ x. text_of_rows (block x)) xs
flat-text block [] = refl
flat-text block (x ∷ xs) = rows-append (block x) (flat_map block xs) ∙ ap (λ (rest : List ℕ). text_of_rows (block x) ++ rest) (flat-text block xs)

abbrev links_text : NameTexts → Table → List ℕ
links_text names table = flat_map (link_line names table.loads) (numbers (length table.loads))

abbrev groups_text : NameTexts → Table → List ℕ
groups_text names table = flat_map (group_lines names table.groups) (numbers (length table.groups))

abbrev tasks_text : NameTexts → Table → List ℕ
tasks_text names table = flat_map (task_line names table.limits) (numbers (length table.limits))

entries-text : (names : NameTexts) (table : Table) → flat_map (λ entry. text_of_rows (block_of names table entry)) (entries table) ≡ links_text names table ++ groups_text names table ++ tasks_text names table
entries-text names table =
    three table (λ entry. text_of_rows (block_of names table entry)) (link_line names table.loads) (group_lines names table.groups) (task_line names table.limits)
    (link-text names table.loads) (group-text names table.groups) (task-text names table.limits)

-- the text of a table, part by part
parts : (names : NameTexts) (table : Table) (closings blocks : List ℕ) → closings ≡ closing_lines names table.closings → blocks ≡ flat_map (λ entry. text_of_rows (block_of names table entry)) (entries table)
    → (codes "table " ++ decimal table.prefix ++ codes "\n") ++ (closings ++ (blocks ++ (total_row table.groups ++ codes "\n"))) ≡ text_of names table
unfolding text_of
parts names table closings blocks closed are =
    ap₂ (λ (c b : List ℕ). (codes "table " ++ decimal table.prefix ++ codes "\n") ++ (c ++ (b ++ (total_row table.groups ++ codes "\n")))) closed (are ∙ entries-text names table)
    ∙ sym (frame (codes "table " ++ decimal table.prefix ++ codes "\n") (closing_lines names table.closings) (links_text names table) (groups_text names table) (tasks_text names table)
    (codes "total ") (decimal (sum_by (λ line. line.amount) table.groups)) (codes "\n"))

table-text : (names : NameTexts) (table : Table) → text_of names table ≡ text_of_rows (table_rows names table)
table-text names table =
    sym (parts names table (text_of_rows (map (closing_row names) table.closings)) (text_of_rows (flat_map (block_of names table) (entries table)))
    (closings-text names table.closings) (flat-text (block_of names table) (entries table)))
    ∙ sym (rows-whole (codes "table " ++ decimal table.prefix) (total_row table.groups) (map (closing_row names) table.closings) (flat_map (block_of names table) (entries table)))

counted-text : (names : NameTexts) (earlier later : List Closing)
    → text_of_rows (counted_rows names (bytes_eq (closing_lines names earlier) (closing_lines names later)) later) ≡ changed_closings names earlier later
unfolding changed_closings
counted-text names earlier later = go (bytes_eq (closing_lines names earlier) (closing_lines names later)) where
  go : (b : Bool) → text_of_rows (counted_rows names b later) ≡ cond b [] (codes "closings " ++ decimal (length later) ++ codes "\n" ++ closing_lines names later)
  go true = refl
  go false = ap (λ (rest : List ℕ). (codes "closings " ++ decimal (length later) ++ codes "\n") ++ rest) (closings-text names later)

-- one number of a change
number-text : (earlier later : ℕ → List ℕ) (number : ℕ) (before behind : List ℕ) → before ≡ earlier number → behind ≡ later number
    → cond (bytes_eq before behind) [] behind ≡ changed earlier later number
unfolding changed
number-text earlier later number before behind e f = ap₂ (λ (b a : List ℕ). cond (bytes_eq b a) [] a) e f

change-text : (names : NameTexts) (earlier later : Table) → change_text_of names earlier later ≡ text_of_rows (change_rows names earlier later)
unfolding change_text_of
change-text names earlier later =
    frame (codes "change " ++ decimal later.prefix ++ codes "\n") (changed_closings names earlier.closings later.closings)
    (flat_map (changed (link_line names earlier.loads) (link_line names later.loads)) (numbers (length later.loads)))
    (flat_map (changed (group_lines names earlier.groups) (group_lines names later.groups)) (numbers (length later.groups)))
    (flat_map (changed (task_line names earlier.limits) (task_line names later.limits)) (numbers (length later.limits)))
    (codes "total ") (decimal (sum_by (λ line. line.amount) later.groups)) (codes "\n")
    ∙ ap₂ (λ (c b : List ℕ). (codes "change " ++ decimal later.prefix ++ codes "\n") ++ (c ++ (b ++ (total_row later.groups ++ codes "\n"))))
    (sym (counted-text names earlier.closings later.closings))
    (sym (three later (λ entry. cond (bytes_eq (text_of_rows (block_of names earlier entry)) (text_of_rows (block_of names later entry))) [] (text_of_rows (block_of names later entry)))
    (changed (link_line names earlier.loads) (link_line names later.loads)) (changed (group_lines names earlier.groups) (group_lines names later.groups)) (changed (task_line names earlier.limits) (task_line names later.limits))
    (λ n. number-text (link_line names earlier.loads) (link_line names later.loads) n _ _ (link-text names earlier.loads n) (link-text names later.loads n))
    (λ n. number-text (group_lines names earlier.groups) (group_lines names later.groups) n _ _ (group-text names earlier.groups n) (group-text names later.groups n))
    (λ n. number-text (task_line names earlier.limits) (task_line names later.limits) n _ _ (task-text names earlier.limits n) (task-text names later.limits n)))
    ∙ changed-text (block_of names earlier) (block_of names later) (entries later))
    ∙ sym (rows-whole (codes "change " ++ decimal later.prefix) (total_row later.groups) (counted_rows names (same_closings names earlier later) later.closings)
    (flat_map (block_of names later) (changed_entries names earlier later)))

-- ---- the first word of a row

literal-no : (byte : ℕ) (text : List ℕ) → list_any (λ b. b == byte) text ≡ false → HasNo byte text
literal-no byte [] none = All-nil (λ b. (b == byte) ≡ false)
literal-no byte (b ∷ text) none = go (b == byte) (literal-no byte text) refl none where
  go : (is : Bool) → (list_any (λ b. b == byte) text ≡ false → HasNo byte text) → (b == byte) ≡ is → (is || list_any (λ b. b == byte) text) ≡ false → HasNo byte (b ∷ text)
  go true later e none = absurd (cc)
  go false later e none = All-cons (λ b. (b == byte) ≡ false) b text e (later none)

-- the row has this first word
abbrev Begins : List ℕ → List ℕ → Type 0
Begins word row = (other : List ℕ) → begins_with other row ≡ bytes_eq word other

begins : (word rest : List ℕ) → HasNo 32 word → Begins word (word ++ 32 ∷ rest)
unfolding begins_with words_of
begins word rest none other = ap (λ (words : List (List ℕ)). bytes_eq (slice_index_or words 0 []) other) (slice_split_at (λ byte. byte == 32) word 32 rest none refl)

-- a row of a block: it is none of the other rows
record IsOfBlock (row : List ℕ) : Type 0 where
  block : is_of_block row ≡ true
  closing : begins_with (codes "closing") row ≡ false
  closings : begins_with (codes "closings") row ≡ false
  total : begins_with (codes "total") row ≡ false

link-row : (row : List ℕ) → Begins (codes "link") row → IsOfBlock row
link-row row is = record {
  block = rw (is (codes "link")) refl;
  closing = is (codes "closing");
  closings = is (codes "closings");
  total = is (codes "total");
}

group-row : (row : List ℕ) → Begins (codes "group") row → IsOfBlock row
group-row row is = record {
  block = rw (is (codes "link"), is (codes "group")) refl;
  closing = is (codes "closing");
  closings = is (codes "closings");
  total = is (codes "total");
}

task-row : (row : List ℕ) → Begins (codes "task") row → IsOfBlock row
task-row row is = record {
  block = rw (is (codes "link"), is (codes "group"), is (codes "task")) refl;
  closing = is (codes "closing");
  closings = is (codes "closings");
  total = is (codes "total");
}

place-row : (row : List ℕ) → Begins (codes "place") row → IsOfBlock row
place-row row is = record {
  block = rw (is (codes "link"), is (codes "group"), is (codes "task"), is (codes "place")) refl;
  closing = is (codes "closing");
  closings = is (codes "closings");
  total = is (codes "total");
}

other-row : (word row : List ℕ) → Begins word row → (bytes_eq word (codes "link") || bytes_eq word (codes "group") || bytes_eq word (codes "task") || bytes_eq word (codes "place")) ≡ false → is_of_block row ≡ false
other-row word row is none = rw (is (codes "link"), is (codes "group"), is (codes "task"), is (codes "place")) none

first-begins : (names : NameTexts) (table : Table) (entry : Entry) → IsOfBlock (first_row names table entry)
first-begins names table (a_link link) = link-row _ (begins (codes "link") _ (literal-no 32 (codes "link") refl))
first-begins names table (a_group group) = group-row _ (begins (codes "group") _ (literal-no 32 (codes "group") refl))
first-begins names table (a_task task) = task-row _ (begins (codes "task") _ (literal-no 32 (codes "task") refl))

first-opens : (names : NameTexts) (table : Table) (entry : Entry) → is_place (first_row names table entry) ≡ false
first-opens names table (a_link link) = begins (codes "link") _ (literal-no 32 (codes "link") refl) (codes "place")
first-opens names table (a_group group) = begins (codes "group") _ (literal-no 32 (codes "group") refl) (codes "place")
first-opens names table (a_task task) = begins (codes "task") _ (literal-no 32 (codes "task") refl) (codes "place")

place-begins : (names : NameTexts) (lines : List PlaceLine) (place : ℕ) → Begins (codes "place") (place_row names lines place)
place-begins names lines place = begins (codes "place") _ (literal-no 32 (codes "place") refl)

all-map : {X Y : Type 0} (P : Y → Type 0) (f : X → Y) → ((x : X) → P (f x)) → (xs : List X) → All P (map f xs)
all-map P f each [] = All-nil P
all-map P f each (x ∷ xs) = All-cons P (f x) (map f xs) (each x) (all-map P f each xs)

all-flat : {X Y : Type 0} (P : Y → Type 0) (f : X → List Y) → ((x : X) → All P (f x)) → (xs : List X) → All P (flat_map f xs)
all-flat P f each [] = All-nil P
all-flat P f each (x ∷ xs) = All-append P (f x) (flat_map f xs) (each x) (all-flat P f each xs)

are-places : (names : NameTexts) (table : Table) (entry : Entry) → ArePlaces (places_of names table entry)
are-places names table (a_link link) = All-nil (λ row. is_place row ≡ true)
are-places names table (a_group group) =
    all-map (λ row. is_place row ≡ true) (place_row names (group_at table.groups group).places) (λ place. place-begins names (group_at table.groups group).places place (codes "place")) (numbers (length (group_at table.groups group).places))
are-places names table (a_task task) = All-nil (λ row. is_place row ≡ true)

places-begin : (names : NameTexts) (table : Table) (entry : Entry) → All IsOfBlock (places_of names table entry)
places-begin names table (a_link link) = All-nil IsOfBlock
places-begin names table (a_group group) =
    all-map IsOfBlock (place_row names (group_at table.groups group).places) (λ place. place-row _ (place-begins names (group_at table.groups group).places place)) (numbers (length (group_at table.groups group).places))
places-begin names table (a_task task) = All-nil IsOfBlock

block-begins : (names : NameTexts) (table : Table) (entry : Entry) → All IsOfBlock (block_of names table entry)
block-begins names table entry = All-cons IsOfBlock (first_row names table entry) (places_of names table entry) (first-begins names table entry) (places-begin names table entry)

-- ---- no row has a line feed

plain-no : (byte : ℕ) (name : List ℕ) → All (λ b. b ≢ byte) name → HasNo byte name
plain-no byte name plain = λ k d lt. ne_eqb (get_or name k d) byte (plain k d lt)

entry-plain : (names : List (List ℕ)) → All IsPlain names → (number : ℕ) → IsPlain (entry_at names number)
entry-plain names plain number = elim (cases_lt number (length names)) [
  | inl inside ↦ plain number [] inside
  | inr past ↦ subst IsPlain (sym (get_or_past names number [] past)) (All-nil (λ byte. (byte ≢ 10) × (byte ≢ 32)))
]

abbrev key : NameTexts → Entry → List ℕ
key names (a_link link) = codes "link " ++ entry_at names.links link
key names (a_group group) = codes "group " ++ entry_at names.groups group
key names (a_task task) = codes "task " ++ entry_at names.tasks task

module _ (names : NameTexts) (plain_links : All IsPlain names.links) (plain_groups : All IsPlain names.groups) (plain_tasks : All IsPlain names.tasks) where
  link-no : (byte : ℕ) → (byte ≡ 10) ⊎ (byte ≡ 32) → (link : ℕ) → HasNo byte (entry_at names.links link)
  link-no byte (inl e) link = λ k d lt. ne_eqb _ byte (λ same. (entry-plain names.links plain_links link k d lt).0 (same ∙ e))
  link-no byte (inr e) link = λ k d lt. ne_eqb _ byte (λ same. (entry-plain names.links plain_links link k d lt).1 (same ∙ e))

  group-no : (byte : ℕ) → (byte ≡ 10) ⊎ (byte ≡ 32) → (group : ℕ) → HasNo byte (entry_at names.groups group)
  group-no byte (inl e) group = λ k d lt. ne_eqb _ byte (λ same. (entry-plain names.groups plain_groups group k d lt).0 (same ∙ e))
  group-no byte (inr e) group = λ k d lt. ne_eqb _ byte (λ same. (entry-plain names.groups plain_groups group k d lt).1 (same ∙ e))

  task-no : (byte : ℕ) → (byte ≡ 10) ⊎ (byte ≡ 32) → (task : ℕ) → HasNo byte (entry_at names.tasks task)
  task-no byte (inl e) task = λ k d lt. ne_eqb _ byte (λ same. (entry-plain names.tasks plain_tasks task k d lt).0 (same ∙ e))
  task-no byte (inr e) task = λ k d lt. ne_eqb _ byte (λ same. (entry-plain names.tasks plain_tasks task k d lt).1 (same ∙ e))

  number-no : (n : ℕ) → HasNo 10 (decimal n)
  number-no n = no-decimal 10 (omega arith) n

  row-no : (word name rest : List ℕ) → HasNo 10 word → HasNo 10 name → HasNo 10 rest → HasNo 10 (row_of word name rest)
  row-no word name rest one two three =
      no-append 10 word (32 ∷ (name ++ 32 ∷ rest)) one
      (no-append 10 (32 ∷ []) (name ++ 32 ∷ rest) (literal-no 10 (32 ∷ []) refl)
      (no-append 10 name (32 ∷ rest) two (no-append 10 (32 ∷ []) rest (literal-no 10 (32 ∷ []) refl) three)))

  said-no : (words : List ℕ) (n : ℕ) → HasNo 10 words → HasNo 10 (words ++ decimal n)
  said-no words n none = no-append 10 words (decimal n) none (number-no n)

  closed-no : (closed : Option ℕ) → HasNo 10 (closed_words names closed)
  closed-no None = literal-no 10 (codes " open") refl
  closed-no (Some link) = no-append 10 (codes " closed by ") (entry_at names.links link) (literal-no 10 (codes " closed by ") refl) (link-no 10 (inl refl) link)

  place-no : (lines : List PlaceLine) (place : ℕ) → HasNo 10 (place_row names lines place)
  place-no lines place =
      no-append 10 (codes "place " ++ decimal place ++ codes " amount " ++ decimal (place_at lines place).amount) (closed_words names (place_at lines place).closed)
      (said-no (codes "place " ++ decimal place ++ codes " amount ") (place_at lines place).amount
      (no-append 10 (codes "place " ++ decimal place) (codes " amount ") (said-no (codes "place ") place (literal-no 10 (codes "place ") refl)) (literal-no 10 (codes " amount ") refl)))
      (closed-no (place_at lines place).closed)

  first-no : (table : Table) (entry : Entry) → HasNo 10 (first_row names table entry)
  first-no table (a_link link) = row-no (codes "link") (entry_at names.links link) _ (literal-no 10 (codes "link") refl) (link-no 10 (inl refl) link) (said-no (codes "load ") (slice_index table.loads link) (literal-no 10 (codes "load ") refl))
  first-no table (a_group group) =
      row-no (codes "group") (entry_at names.groups group) _ (literal-no 10 (codes "group") refl) (group-no 10 (inl refl) group)
      (said-no (codes "share " ++ decimal (group_at table.groups group).share ++ codes " amount ") (group_at table.groups group).amount
      (no-append 10 (codes "share " ++ decimal (group_at table.groups group).share) (codes " amount ") (said-no (codes "share ") (group_at table.groups group).share (literal-no 10 (codes "share ") refl)) (literal-no 10 (codes " amount ") refl)))
  first-no table (a_task task) = row-no (codes "task") (entry_at names.tasks task) _ (literal-no 10 (codes "task") refl) (task-no 10 (inl refl) task) (said-no (codes "limit ") (slice_index table.limits task) (literal-no 10 (codes "limit ") refl))

  places-no : (table : Table) (entry : Entry) → All (HasNo 10) (places_of names table entry)
  places-no table (a_link link) = All-nil (HasNo 10)
  places-no table (a_group group) = all-map (HasNo 10) (place_row names (group_at table.groups group).places) (place-no (group_at table.groups group).places) (numbers (length (group_at table.groups group).places))
  places-no table (a_task task) = All-nil (HasNo 10)

  blocks-no : (table : Table) (list : List Entry) → All (HasNo 10) (flat_map (block_of names table) list)
  blocks-no table list = all-flat (HasNo 10) (block_of names table) (λ entry. All-cons (HasNo 10) (first_row names table entry) (places_of names table entry) (first-no table entry) (places-no table entry)) list

  total-no : (lines : List GroupLine) → All (HasNo 10) (total_row lines ∷ [])
  total-no lines = All-cons (HasNo 10) (total_row lines) [] (said-no (codes "total ") (sum_by (λ line. line.amount) lines) (literal-no 10 (codes "total ") refl)) (All-nil (HasNo 10))

  closings-no : (closings : List Closing) → All (HasNo 10) (map (closing_row names) closings)
  closings-no closings =
      all-map (HasNo 10) (closing_row names)
      (λ closing. row-no (codes "closing") (entry_at names.links closing.link) _ (literal-no 10 (codes "closing") refl) (link-no 10 (inl refl) closing.link) (said-no (codes "at ") closing.share (literal-no 10 (codes "at ") refl))) closings

  counted-no : (b : Bool) (closings : List Closing) → All (HasNo 10) (counted_rows names b closings)
  counted-no true closings = All-nil (HasNo 10)
  counted-no false closings =
      All-cons (HasNo 10) (codes "closings " ++ decimal (length closings)) (map (closing_row names) closings) (said-no (codes "closings ") (length closings) (literal-no 10 (codes "closings ") refl)) (closings-no closings)

  table-no : (table : Table) → All (HasNo 10) (table_rows names table)
  table-no table =
      All-cons (HasNo 10) (codes "table " ++ decimal table.prefix) _ (said-no (codes "table ") table.prefix (literal-no 10 (codes "table ") refl))
      (All-append (HasNo 10) (map (closing_row names) table.closings) _ (closings-no table.closings)
      (All-append (HasNo 10) (flat_map (block_of names table) (entries table)) (total_row table.groups ∷ []) (blocks-no table (entries table)) (total-no table.groups)))

  change-no : (earlier later : Table) → All (HasNo 10) (change_rows names earlier later)
  change-no earlier later =
      All-cons (HasNo 10) (codes "change " ++ decimal later.prefix) _ (said-no (codes "change ") later.prefix (literal-no 10 (codes "change ") refl))
      (All-append (HasNo 10) (counted_rows names (same_closings names earlier later) later.closings) _ (counted-no (same_closings names earlier later) later.closings)
      (All-append (HasNo 10) (flat_map (block_of names later) (changed_entries names earlier later)) (total_row later.groups ∷ []) (blocks-no later (changed_entries names earlier later)) (total-no later.groups)))

  -- the key of a block
  words-row : (word name rest : List ℕ) → HasNo 32 word → HasNo 32 name → words_of (row_of word name rest) ≡ word ∷ name ∷ words_of rest
  unfolding words_of
  words-row word name rest one two =
      slice_split_at (λ byte. byte == 32) word 32 (name ++ 32 ∷ rest) one refl
      ∙ ap (λ (words : List (List ℕ)). word ∷ words) (slice_split_at (λ byte. byte == 32) name 32 rest two refl)

  row-key : (word name rest : List ℕ) (rows : List (List ℕ)) → HasNo 32 word → HasNo 32 name → key_of (row_of word name rest ∷ rows) ≡ word ++ codes " " ++ name
  unfolding key_of
  row-key word name rest rows one two = ap (λ (words : List (List ℕ)). slice_index_or words 0 [] ++ codes " " ++ slice_index_or words 1 []) (words-row word name rest one two)

  key-is : (table : Table) (entry : Entry) → key_of (block_of names table entry) ≡ key names entry
  key-is table (a_link link) = row-key (codes "link") (entry_at names.links link) _ _ (literal-no 32 (codes "link") refl) (link-no 32 (inr refl) link)
  key-is table (a_group group) = row-key (codes "group") (entry_at names.groups group) _ _ (literal-no 32 (codes "group") refl) (group-no 32 (inr refl) group)
  key-is table (a_task task) = row-key (codes "task") (entry_at names.tasks task) _ _ (literal-no 32 (codes "task") refl) (task-no 32 (inr refl) task)

-- ---- no two blocks have one key

-- the entry is one of the table
abbrev Fits : Table → Entry → Type 0
Fits table (a_link link) = link < length table.loads
Fits table (a_group group) = group < length table.groups
Fits table (a_task task) = task < length table.limits

all-in : {X : Type 0} (P : X → Type 0) (xs : List X) (x : X) → All P xs → IsIn x xs → P x
all-in P [] x all is = absurd is
all-in P (y ∷ ys) x all (inl e) = subst P (sym e) (All-head P y ys all)
all-in P (y ∷ ys) x all (inr is) = all-in P ys x (All-tail P y ys all) is

number-below : (n number : ℕ) → IsIn number (numbers n) → number < n
number-below n number is =
    all-in (λ i. i < n) (numbers n) number
    (λ k d lt. let within : k < n = omega (arith, length-range_with_len 0 n, lt) in omega (arith, within, get_or-range_with_len 0 n k d within)) is

fits-in : (table : Table) (entry : Entry) → IsIn entry (entries table) → Fits table entry
fits-in table entry is = elim (in-append (map a_link (numbers (length table.loads)) ++ map a_group (numbers (length table.groups))) (map a_task (numbers (length table.limits))) entry is) [
  | inl front ↦ elim (in-append (map a_link (numbers (length table.loads))) (map a_group (numbers (length table.groups))) entry front) [
    | inl link ↦ (let found = in-map a_link (numbers (length table.loads)) entry link in subst (Fits table) (sym found.2) (number-below (length table.loads) found.0 found.1))
    | inr group ↦ (let found = in-map a_group (numbers (length table.groups)) entry group in subst (Fits table) (sym found.2) (number-below (length table.groups) found.0 found.1))
  ]
  | inr task ↦ (let found = in-map a_task (numbers (length table.limits)) entry task in subst (Fits table) (sym found.2) (number-below (length table.limits) found.0 found.1))
]

one-number : (names : List (List ℕ)) (number other : ℕ) → AreTold names → number < length names → other < length names → entry_at names number ≡ entry_at names other → number ≡ other
one-number names number other told lt also same = elim (cases_lt number other) [
  | inl before ↦ absurd (told.apart number other before also same)
  | inr past ↦ elim (cases_lt other number) [
    | inl behind ↦ absurd (told.apart other number behind lt (sym same))
    | inr back ↦ omega (arith, past, back)
  ]
]

first-byte : (one two : List ℕ) → one ≡ two → get_or one 0 0 ≡ get_or two 0 0
first-byte one two same = ap (λ (text : List ℕ). get_or text 0 0) same

one-key : (names : NameTexts) (table : Table) → IsTold names table → (entry other : Entry) → Fits table entry → Fits table other → key names entry ≡ key names other → entry ≡ other
one-key names table told (a_link link) (a_link other) lt also same =
    ap a_link (one-number names.links link other told.links (omega (arith, lt, told.each_link)) (omega (arith, also, told.each_link)) (append_cancel_left (codes "link ") (entry_at names.links link) (entry_at names.links other) same))
one-key names table told (a_link link) (a_group other) lt also same = absurd (let clash : 108 ≡ 103 = first-byte _ _ same in omega (arith, clash))
one-key names table told (a_link link) (a_task other) lt also same = absurd (let clash : 108 ≡ 116 = first-byte _ _ same in omega (arith, clash))
one-key names table told (a_group group) (a_link other) lt also same = absurd (let clash : 103 ≡ 108 = first-byte _ _ same in omega (arith, clash))
one-key names table told (a_group group) (a_group other) lt also same =
    ap a_group (one-number names.groups group other told.groups (omega (arith, lt, told.each_group)) (omega (arith, also, told.each_group)) (append_cancel_left (codes "group ") (entry_at names.groups group) (entry_at names.groups other) same))
one-key names table told (a_group group) (a_task other) lt also same = absurd (let clash : 103 ≡ 116 = first-byte _ _ same in omega (arith, clash))
one-key names table told (a_task task) (a_link other) lt also same = absurd (let clash : 116 ≡ 108 = first-byte _ _ same in omega (arith, clash))
one-key names table told (a_task task) (a_group other) lt also same = absurd (let clash : 116 ≡ 103 = first-byte _ _ same in omega (arith, clash))
one-key names table told (a_task task) (a_task other) lt also same =
    ap a_task (one-number names.tasks task other told.tasks (omega (arith, lt, told.each_task)) (omega (arith, also, told.each_task)) (append_cancel_left (codes "task ") (entry_at names.tasks task) (entry_at names.tasks other) same))

-- ---- what is picked out of the rows

none-kept : (test : List ℕ → Bool) (rows : List (List ℕ)) → All (λ row. test row ≡ false) rows → filter test rows ≡ []
none-kept test [] none = refl
none-kept test (row ∷ rows) none = rw (All-head (λ row. test row ≡ false) row rows none) (none-kept test rows (All-tail (λ row. test row ≡ false) row rows none))

all-kept : (test : List ℕ → Bool) (rows : List (List ℕ)) → All (λ row. test row ≡ true) rows → filter test rows ≡ rows
all-kept test [] all = refl
all-kept test (row ∷ rows) all =
    rw (All-head (λ row. test row ≡ true) row rows all) (ap (λ (rest : List (List ℕ)). row ∷ rest) (all-kept test rows (All-tail (λ row. test row ≡ true) row rows all)))

none-any : (test : List ℕ → Bool) (rows : List (List ℕ)) → All (λ row. test row ≡ false) rows → list_any test rows ≡ false
none-any test [] none = refl
none-any test (row ∷ rows) none = rw (All-head (λ row. test row ≡ false) row rows none) (none-any test rows (All-tail (λ row. test row ≡ false) row rows none))

-- rows in their four parts
picked : (test : List ℕ → Bool) (first last : List ℕ) (closings blocks : List (List ℕ)) (b : Bool) → test first ≡ false → test last ≡ b
    → filter test (first ∷ (closings ++ (blocks ++ last ∷ []))) ≡ filter test closings ++ (filter test blocks ++ cond b (last ∷ []) [])
picked test first last closings blocks b one two =
    rw one (filter-append test closings (blocks ++ last ∷ []) ∙ ap (λ (rest : List (List ℕ)). filter test closings ++ rest) (filter-append test blocks (last ∷ []) ∙ ap (λ (c : Bool). filter test blocks ++ cond c (last ∷ []) []) two))

module _ (names : NameTexts) where
  closing-begins : (closing : Closing) → Begins (codes "closing") (closing_row names closing)
  closing-begins closing = begins (codes "closing") _ (literal-no 32 (codes "closing") refl)

  total-begins : (lines : List GroupLine) → Begins (codes "total") (total_row lines)
  total-begins lines = begins (codes "total") _ (literal-no 32 (codes "total") refl)

  table-begins : (n : ℕ) → Begins (codes "table") (codes "table " ++ decimal n)
  table-begins n = begins (codes "table") _ (literal-no 32 (codes "table") refl)

  change-begins : (n : ℕ) → Begins (codes "change") (codes "change " ++ decimal n)
  change-begins n = begins (codes "change") _ (literal-no 32 (codes "change") refl)

  count-begins : (n : ℕ) → Begins (codes "closings") (codes "closings " ++ decimal n)
  count-begins n = begins (codes "closings") _ (literal-no 32 (codes "closings") refl)

  -- a test that no row of a closing passes
  no-closing : (test : List ℕ → Bool) → ((row : List ℕ) → Begins (codes "closing") row → test row ≡ false) → (closings : List Closing) → All (λ row. test row ≡ false) (map (closing_row names) closings)
  no-closing test none closings = all-map (λ row. test row ≡ false) (closing_row names) (λ closing. none (closing_row names closing) (closing-begins closing)) closings

  no-counted : (test : List ℕ → Bool) → ((row : List ℕ) → Begins (codes "closing") row → test row ≡ false) → ((row : List ℕ) → Begins (codes "closings") row → test row ≡ false)
      → (b : Bool) (closings : List Closing) → All (λ row. test row ≡ false) (counted_rows names b closings)
  no-counted test none also true closings = All-nil (λ row. test row ≡ false)
  no-counted test none also false closings = All-cons (λ row. test row ≡ false) (codes "closings " ++ decimal (length closings)) (map (closing_row names) closings) (also _ (count-begins (length closings))) (no-closing test none closings)

  all-blocks-begin : (table : Table) (list : List Entry) → All IsOfBlock (flat_map (block_of names table) list)
  all-blocks-begin table list = all-flat IsOfBlock (block_of names table) (block-begins names table) list

  abbrev block_rows : Table → List Entry → List (List ℕ)
  block_rows table list = flat_map (block_of names table) list

  kept-blocks : (table : Table) (list : List Entry) → filter is_of_block (block_rows table list) ≡ block_rows table list
  kept-blocks table list = all-kept is_of_block (block_rows table list) (λ k d lt. (all-blocks-begin table list k d lt).block)

  -- the blocks of rows in their four parts
  blocks-are : (table : Table) (list : List Entry) (first last : List ℕ) (closings : List (List ℕ)) → is_of_block first ≡ false → is_of_block last ≡ false → All (λ row. is_of_block row ≡ false) closings
      → blocks_of (first ∷ (closings ++ (block_rows table list ++ last ∷ []))) ≡ map (block_of names table) list
  blocks-are table list first last closings one two none =
      ap blocks_of_rows (picked is_of_block first last closings (block_rows table list) false one two
      ∙ ap₂ (λ (c b : List (List ℕ)). c ++ (b ++ [])) (none-kept is_of_block closings none) (kept-blocks table list) ∙ append-nil (block_rows table list))
      ∙ all-blocks (first_row names table) (places_of names table) (first-opens names table) (are-places names table) list

  table-blocks : (table : Table) → blocks_of (table_rows names table) ≡ map (block_of names table) (entries table)
  table-blocks table =
      blocks-are table (entries table) (codes "table " ++ decimal table.prefix) (total_row table.groups) (map (closing_row names) table.closings)
      (other-row (codes "table") _ (table-begins table.prefix) refl) (other-row (codes "total") _ (total-begins table.groups) refl)
      (no-closing is_of_block (λ row is. other-row (codes "closing") row is refl) table.closings)

  change-blocks : (earlier later : Table) → blocks_of (change_rows names earlier later) ≡ map (block_of names later) (changed_entries names earlier later)
  change-blocks earlier later =
      blocks-are later (changed_entries names earlier later) (codes "change " ++ decimal later.prefix) (total_row later.groups) (counted_rows names (same_closings names earlier later) later.closings)
      (other-row (codes "change") _ (change-begins later.prefix) refl) (other-row (codes "total") _ (total-begins later.groups) refl)
      (no-counted is_of_block (λ row is. other-row (codes "closing") row is refl) (λ row is. other-row (codes "closings") row is refl) (same_closings names earlier later) later.closings)

  -- the total of the change
  last-is : (earlier later : Table) → filter (begins_with (codes "total")) (change_rows names earlier later) ≡ total_row later.groups ∷ []
  last-is earlier later =
      picked (begins_with (codes "total")) (codes "change " ++ decimal later.prefix) (total_row later.groups) (counted_rows names (same_closings names earlier later) later.closings)
      (block_rows later (changed_entries names earlier later)) true (change-begins later.prefix (codes "total")) (total-begins later.groups (codes "total"))
      ∙ ap₂ (λ (c b : List (List ℕ)). c ++ (b ++ total_row later.groups ∷ []))
      (none-kept (begins_with (codes "total")) (counted_rows names (same_closings names earlier later) later.closings)
      (no-counted (begins_with (codes "total")) (λ row is. is (codes "total")) (λ row is. is (codes "total")) (same_closings names earlier later) later.closings))
      (none-kept (begins_with (codes "total")) (block_rows later (changed_entries names earlier later)) (λ k d lt. (all-blocks-begin later (changed_entries names earlier later) k d lt).total))

  -- the closings of rows in their four parts
  closings-kept : (table : Table) (list : List Entry) (first last : List ℕ) (closings : List (List ℕ)) → begins_with (codes "closing") first ≡ false → begins_with (codes "closing") last ≡ false
      → filter (begins_with (codes "closing")) (first ∷ (closings ++ (block_rows table list ++ last ∷ []))) ≡ filter (begins_with (codes "closing")) closings
  closings-kept table list first last closings one two =
      picked (begins_with (codes "closing")) first last closings (block_rows table list) false one two
      ∙ ap (λ (b : List (List ℕ)). filter (begins_with (codes "closing")) closings ++ (b ++ [])) (none-kept (begins_with (codes "closing")) (block_rows table list) (λ k d lt. (all-blocks-begin table list k d lt).closing))
      ∙ append-nil (filter (begins_with (codes "closing")) closings)

  all-closings : (closings : List Closing) → filter (begins_with (codes "closing")) (map (closing_row names) closings) ≡ map (closing_row names) closings
  all-closings closings =
      all-kept (begins_with (codes "closing")) (map (closing_row names) closings) (all-map (λ row. begins_with (codes "closing") row ≡ true) (closing_row names) (λ closing. closing-begins closing (codes "closing")) closings)

  -- whether the change has a row `closings`
  counted-any : (b : Bool) (later : Table) (list : List Entry)
      → list_any (begins_with (codes "closings")) ((codes "change " ++ decimal later.prefix) ∷ (counted_rows names b later.closings ++ (block_rows later list ++ total_row later.groups ∷ []))) ≡ not b
  counted-any true later list =
      rw (change-begins later.prefix (codes "closings"))
      (none-any (begins_with (codes "closings")) (block_rows later list ++ total_row later.groups ∷ [])
      (All-append (λ row. begins_with (codes "closings") row ≡ false) (block_rows later list) (total_row later.groups ∷ []) (λ k d lt. (all-blocks-begin later list k d lt).closings)
      (All-cons (λ row. begins_with (codes "closings") row ≡ false) (total_row later.groups) [] (total-begins later.groups (codes "closings")) (All-nil (λ row. begins_with (codes "closings") row ≡ false)))))
  counted-any false later list = rw (change-begins later.prefix (codes "closings"), count-begins (length later.closings) (codes "closings")) refl

  closings-are : (earlier later : Table) → text_of_rows (closings_in (table_rows names earlier) (change_rows names earlier later)) ≡ closing_lines names later.closings
  closings-are earlier later = go (same_closings names earlier later) refl where
    go : (b : Bool) → same_closings names earlier later ≡ b → text_of_rows (closings_in (table_rows names earlier) ((codes "change " ++ decimal later.prefix) ∷ (counted_rows names b later.closings ++ (block_rows later (changed_entries names earlier later) ++ total_row later.groups ∷ [])))) ≡ closing_lines names later.closings
    go true e =
        ap (λ (c : Bool). text_of_rows (filter (begins_with (codes "closing")) (cond c ((codes "change " ++ decimal later.prefix) ∷ (counted_rows names true later.closings ++ (block_rows later (changed_entries names earlier later) ++ total_row later.groups ∷ []))) (table_rows names earlier)))) (counted-any true later (changed_entries names earlier later))
        ∙ ap text_of_rows (closings-kept earlier (entries earlier) (codes "table " ++ decimal earlier.prefix) (total_row earlier.groups) (map (closing_row names) earlier.closings)
        (table-begins earlier.prefix (codes "closing")) (total-begins earlier.groups (codes "closing"))
        ∙ all-closings earlier.closings)
        ∙ closings-text names earlier.closings
        ∙ (bytes_eq-Decides (closing_lines names earlier.closings) (closing_lines names later.closings)).0 e
    go false e =
        ap (λ (c : Bool). text_of_rows (filter (begins_with (codes "closing")) (cond c ((codes "change " ++ decimal later.prefix) ∷ (counted_rows names false later.closings ++ (block_rows later (changed_entries names earlier later) ++ total_row later.groups ∷ []))) (table_rows names earlier)))) (counted-any false later (changed_entries names earlier later))
        ∙ ap text_of_rows (closings-kept later (changed_entries names earlier later) (codes "change " ++ decimal later.prefix) (total_row later.groups) (counted_rows names false later.closings)
        (change-begins later.prefix (codes "closing")) (total-begins later.groups (codes "closing"))
        ∙ rw (count-begins (length later.closings) (codes "closing")) (all-closings later.closings))
        ∙ closings-text names later.closings

-- the number of reports of the change
number-is : (n : ℕ) → word_at 1 (codes "change " ++ decimal n) ≡ decimal n
unfolding words_of
number-is n =
    ap (λ (words : List (List ℕ)). slice_index_or words 1 [])
    (slice_split_at (λ byte. byte == 32) (codes "change") 32 (decimal n) (literal-no 32 (codes "change") refl) refl
    ∙ ap (λ (words : List (List ℕ)). codes "change" ∷ words) (slice_split_none (λ byte. byte == 32) (decimal n) (no-decimal 32 (omega arith) n)))

-- ---- the law

same-entries : (earlier later : Table) → frame_of earlier ≡ frame_of later → entries earlier ≡ entries later
same-entries earlier later one_plan =
    ap₂ (λ (links tasks : ℕ). map a_link (numbers links) ++ map a_group (numbers (length earlier.groups)) ++ map a_task (numbers tasks)) (ap (λ (made : Frame). made.links) one_plan) (ap (λ (made : Frame). made.tasks) one_plan)
    ∙ ap (λ (groups : ℕ). map a_link (numbers (length later.loads)) ++ map a_group (numbers groups) ++ map a_task (numbers (length later.limits))) (same_groups earlier later one_plan)

regroup : (first closings blocks last : List ℕ) → first ++ closings ++ blocks ++ last ≡ first ++ (closings ++ (blocks ++ last))
regroup first closings blocks last = simp append_assoc

pub changed_is_later : ChangedTextIsLaterText
unfolding with_change_text
changed_is_later = λ names earlier later one_plan told.
    let key_same : (entry : Entry) → key_of (block_of names earlier entry) ≡ key_of (block_of names later entry) =
    λ entry. key-is names told.links.plain told.groups.plain told.tasks.plain earlier entry ∙ sym (key-is names told.links.plain told.groups.plain told.tasks.plain later entry) in
    let alone : (entry : Entry) → IsIn entry (entries later) → (other : Entry) → IsIn other (entries later) → key_of (block_of names later other) ≡ key_of (block_of names earlier entry) → entry ≡ other =
    λ entry is other also same. one-key names later told entry other (fits-in later entry is) (fits-in later other also)
    (sym (key-is names told.links.plain told.groups.plain told.tasks.plain earlier entry) ∙ sym same ∙ key-is names told.links.plain told.groups.plain told.tasks.plain later other) in
    let blocks : flat_map text_of_rows (map (newest (blocks_of (change_rows names earlier later))) (blocks_of (table_rows names earlier))) ≡ flat_map (λ entry. text_of_rows (block_of names later entry)) (entries later) =
    ap₂ (λ (changed blocks : List Block). flat_map text_of_rows (map (newest changed) blocks)) (change-blocks names earlier later) (table-blocks names earlier ∙ ap (map (block_of names earlier)) (same-entries earlier later one_plan))
    ∙ all-newest (block_of names earlier) (block_of names later) key_same (entries later) (entries later) (λ entry is. (is, alone entry is)) in
    ap₂ changed_rows
    (ap lines_of (table-text names earlier) ∙ rows-read (table_rows names earlier) (table-no names told.links.plain told.groups.plain told.tasks.plain earlier))
    (ap lines_of (change-text names earlier later) ∙ rows-read (change_rows names earlier later) (change-no names told.links.plain told.groups.plain told.tasks.plain earlier later))
    ∙ ap₂ (λ (number last : List ℕ).
    codes "table " ++ number ++ codes "\n" ++ text_of_rows (closings_in (table_rows names earlier) (change_rows names earlier later))
    ++ flat_map text_of_rows (map (newest (blocks_of (change_rows names earlier later))) (blocks_of (table_rows names earlier))) ++ last)
    (number-is later.prefix) (ap text_of_rows (last-is names earlier later) ∙ append-nil (total_row later.groups ++ codes "\n"))
    ∙ regroup (codes "table " ++ decimal later.prefix ++ codes "\n") (text_of_rows (closings_in (table_rows names earlier) (change_rows names earlier later)))
    (flat_map text_of_rows (map (newest (blocks_of (change_rows names earlier later))) (blocks_of (table_rows names earlier)))) (total_row later.groups ++ codes "\n")
    ∙ parts names later _ _ (closings-are names earlier later) blocks
