-- Events that are written a line each. A text is the list of its bytes.
use Rattle.std.specs.Prelude.{◌≡◌, ℕ, ◌<◌, Bool, true, false, List, [], ◌∷◌, ◌++◌, Vec, Option, Some, None, Result, Ok, Err, length, codes, nat_lt, if◌then◌else◌, option_and_then}
use Rattle.std.specs.List.{count_by}
use Rattle.std.specs.Str.{bytes_eq}
use Rattle.std.specs.declared.alloc.Global.{Global}
use Rattle.text_scan.specs.Cuts.{Cut, cut_at}
use Rattle.text_scan.specs.Items.{items_of}
use Rattle.text_scan.specs.Numbers.{printed_number_of}
use Rattle.text_scan.specs.Words.{Text}
use Rattle.bwe_specs.specs.declared.limits.TheConstants.{MAX_EVENTS}
use Rattle.enforce_run.specs.declared.event.EventLine.{EventLine}
use Rattle.enforce_run.specs.declared.event.EventLine.TheVariants.{Post, Send, Deliver, Reply, Restart}
use Rattle.enforce_run.specs.declared.event.EventError.{EventError}
use Rattle.enforce_run.specs.declared.event.EventError.TheVariants.{BadLine, OutOfMemory}

-- ---- which events may come

-- a message to a region is sent by `send`, one to the centre by `deliver`
abbrev pub is_send : EventLine → Bool
is_send (Send region) = true
is_send (Post upto) = false
is_send (Deliver message) = false
is_send (Reply message) = false
is_send (Restart region) = false

abbrev pub is_deliver : EventLine → Bool
is_deliver (Deliver message) = true
is_deliver (Post upto) = false
is_deliver (Send region) = false
is_deliver (Reply message) = false
is_deliver (Restart region) = false

-- how many messages of each kind the events send
abbrev pub downs_of : List EventLine → ℕ
downs_of events = count_by is_send events

abbrev pub ups_of : List EventLine → ℕ
ups_of events = count_by is_deliver events

-- after these events, the region or message that the event names is there
abbrev pub IsThere : ℕ → List EventLine → EventLine → Type 0
IsThere regions before (Post upto) = Unit {0}
IsThere regions before (Send region) = region < regions
IsThere regions before (Deliver message) = message < downs_of before
IsThere regions before (Reply message) = message < ups_of before
IsThere regions before (Restart region) = region < regions

-- each of the events, after those before it
abbrev pub AreThere : ℕ → List EventLine → List EventLine → Type 0
AreThere regions before [] = Unit {0}
AreThere regions before (event ∷ events) = IsThere regions before event
    × AreThere regions (before ++ event ∷ []) events

-- ---- what a line says

abbrev pub when : Bool → EventLine → Option EventLine
when there event = if there then Some event else None

-- the event of a word and a number, where what it names is there
unfoldable pub event_named : ℕ → List EventLine → Text → ℕ → Option EventLine
event_named regions before word number =
    if bytes_eq word (codes "post") then Some (Post number)
    else if bytes_eq word (codes "send") then when (nat_lt number regions) (Send number)
    else if bytes_eq word (codes "deliver")
    then when (nat_lt number (downs_of before)) (Deliver number)
    else if bytes_eq word (codes "reply") then when (nat_lt number (ups_of before)) (Reply number)
    else if bytes_eq word (codes "restart") then when (nat_lt number regions) (Restart number)
    else None

abbrev pub event_of_cut : ℕ → List EventLine → Cut → Option EventLine
event_of_cut regions before cut =
    option_and_then (event_named regions before cut.before) (printed_number_of cut.behind)

-- the event of a line: a word, a space (32) and a number as texts print it
unfoldable pub event_of : ℕ → List EventLine → Text → Option EventLine
event_of regions before line = option_and_then (event_of_cut regions before) (cut_at 32 line)

-- ---- all lines

-- the event of the next line, where there may be one more
abbrev pub next_event : ℕ → List EventLine → Text → Option EventLine
next_event regions before line =
    if nat_lt (length before) MAX_EVENTS then event_of regions before line else None

-- the events of a text, whose lines are ended by line feeds, or the number of the first line at
-- fault
abbrev pub events_of : ℕ → Text → Result (List EventLine) ℕ
events_of regions text = items_of (next_event regions) text

-- the answer is what was wanted, or memory ran out
abbrev pub Answers : Result (List EventLine) ℕ → Result (Vec EventLine Global) EventError → Type 0
Answers wanted (Ok events) = wanted ≡ Ok events.items
Answers wanted (Err (BadLine line)) = wanted ≡ Err line
Answers wanted (Err OutOfMemory) = Unit {0}
