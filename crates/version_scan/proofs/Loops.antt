-- The grammar's loops, a turn at a time, where nothing of the items is kept.
use Rattle.std.proofs.Common.{◌≡◌, ℕ, ◌-◌, ◌<◌, ◌≤◌, List, length, Option, Some, None, refl, ap, ◌∙◌, arith}
use Rattle.json.specs.Token.{Token}
use Rattle.json.specs.Json.{parse_map, after_end_array, read_key, items, members, value}
use Rattle.json.proofs.Grammar.{read_key-shorter}
use Rattle.serde_json.specs.Data.{Data, Items, no_items, item, Members, no_members, put}
use Rattle.serde_json.specs.Read.{of_json, of_items, of_members, converted}
use Rattle.version_scan.proofs.Reading.{item_read, item_refused, items_over, member_read, member_refused, key_refused, members_over, none_before}
use Rattle.version_scan.specs.Passing.{items_in, members_in}

mapped : (before : Items → Items) (d : Data) (r : Option (Items × List Token)) → parse_map before (parse_map (item d) r) ≡ parse_map (λ rest. before (item d rest)) r
mapped before d None = refl
mapped before d (Some p) = refl

-- Items were passed from the first token of an array on; the others are still to come.
abbrev pub Amid : ℕ → List Token → List Token → Type 0
Amid depth start now =
    (n : ℕ) × (length now ≤ n) × (before : Items → Items)
    × (items_in depth start ≡ parse_map before (converted of_items (items (value depth) n now)))
    × (length now ≤ length start)

pub Amid-start : (depth : ℕ) (start : List Token) → Amid depth start start
Amid-start depth start = (length start, omega arith, λ rest. rest, none_before (items_in depth start), omega arith)

pub Amid-more : (depth : ℕ) (start now after : List Token) (d : Data) → Amid depth start now → after_end_array now ≡ None
    → converted of_json (value depth now) ≡ Some (d, after) → length after < length now → Amid depth start after
Amid-more depth start now after d amid going read less =
    let n = amid.0 in
    let turn = item_read (value depth) n now after d (omega (arith, amid.1)) going read in (
      n - 1,
      omega (arith, amid.1),
      λ rest. amid.2 (item d rest),
      amid.3 ∙ ap (parse_map amid.2) turn ∙ mapped amid.2 d _,
      omega (arith, amid.4),
    )

pub Amid-end : (depth : ℕ) (start now after : List Token) → Amid depth start now → after_end_array now ≡ Some after → (ds : Items) × (items_in depth start ≡ Some (ds, after))
Amid-end depth start now after amid over =
    (amid.2 no_items, amid.3 ∙ ap (parse_map amid.2) (items_over (value depth) amid.0 now after amid.1 over))

pub Amid-refused : (depth : ℕ) (start now : List Token) → Amid depth start now → after_end_array now ≡ None → converted of_json (value depth now) ≡ None → items_in depth start ≡ None
Amid-refused depth start now amid going none = amid.3 ∙ ap (parse_map amid.2) (item_refused (value depth) amid.0 now going none)

-- Members were passed from the first token of an object on, and these are what they are so far.
abbrev pub Within : ℕ → List Token → List Token → Members → Type 0
Within depth start now found =
    (n : ℕ) × (length now ≤ n)
    × (members_in depth start ≡ converted (λ ms. of_members ms found) (members (value depth) n now))
    × (length now ≤ length start)

pub Within-start : (depth : ℕ) (start : List Token) → Within depth start start no_members
Within-start depth start = (length start, omega arith, refl, omega arith)

pub Within-more : (depth : ℕ) (start now inside after : List Token) (k : List ℕ) (d : Data) (found : Members) → Within depth start now found → read_key now ≡ Some (Some k, inside)
    → converted of_json (value depth inside) ≡ Some (d, after) → length after < length inside → Within depth start after (put k d found)
Within-more depth start now inside after k d found within key read less =
    let n = within.0 in
    let shorter = read_key-shorter now (Some k) inside key in
    let turn = member_read (value depth) found n k now inside after d (omega (arith, within.1)) key read in
    (n - 1, omega (arith, within.1), within.2 ∙ turn, omega (arith, within.3))

pub Within-end : (depth : ℕ) (start now after : List Token) (found : Members) → Within depth start now found → read_key now ≡ Some (None, after) → members_in depth start ≡ Some (found, after)
Within-end depth start now after found within over = within.2 ∙ members_over (value depth) found within.0 now after within.1 over

pub Within-no_key : (depth : ℕ) (start now : List Token) (found : Members) → Within depth start now found → read_key now ≡ None → members_in depth start ≡ None
Within-no_key depth start now found within none = within.2 ∙ key_refused (value depth) found within.0 now none

pub Within-refused : (depth : ℕ) (start now inside : List Token) (k : List ℕ) (found : Members) → Within depth start now found → read_key now ≡ Some (Some k, inside)
    → converted of_json (value depth inside) ≡ None → members_in depth start ≡ None
Within-refused depth start now inside k found within key none = within.2 ∙ member_refused (value depth) found within.0 k now inside key none
