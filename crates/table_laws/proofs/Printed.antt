-- A table is read back of its text.
use Rattle.std.proofs.Common.{◌≡◌, ◌≢◌, ℕ, ◌<◌, ◌^◌, Bool, false, ◌==◌, List, [], ◌∷◌, ◌++◌, length, flat_map, get_or, drop, sum_by, codes, decimal, Option, Some, None, refl, sym, ◌∙◌, ap, ap₂, arith, append_assoc, append-nil, ne_eqb, inl, inr}
use Rattle.std.specs.List.{All}
use Rattle.std.proofs.lemmas.Bool.{cases_lt}
use Rattle.std.proofs.lemmas.List.{append_cancel_left}
use Rattle.std.proofs.lemmas.List.Elements.{All-head, All-tail}
use Rattle.bwe_specs.specs.declared.network.Closing.{Closing}
use Rattle.bwe_specs.specs.Allocation.{GroupLine, PlaceLine, Table}
use Rattle.bwe_specs.specs.Reports.{numbers}
use Rattle.doc_names.specs.NameTexts.{IsPlain, NameTexts, entry_at}
use Rattle.table_text.specs.TableText.{closing_line, link_line, closed_text, place_line, group_lines, task_line, text_of}
use Rattle.table_laws.specs.Printing.{AreTelling, IsNamed, IsNamedClosing, IsNamedLine, IsNamedPlace}
use Rattle.table_laws.proofs.Reading.{in_word, IsWord, word-read, number-read, nest5, nest8, nest10, walk, walk-is, walk-plain, walk-mark, walk-read}
use Rattle.limit_table.proofs.Parts.{line_parts, same-parts}

-- a text that begins with this byte, or has it as its second
abbrev first_is : ℕ → List ℕ → Bool
first_is byte text = get_or text 0 0 == byte

abbrev second_is : ℕ → List ℕ → Bool
second_is byte text = get_or text 1 0 == byte

-- no text
abbrev never : List ℕ → Bool
never text = false

plain-word : (name : List ℕ) → IsPlain name → IsWord name
plain-word [] all = tt
plain-word (byte ∷ bytes) all =
    let here = All-head (λ byte. (byte ≢ 10) × (byte ≢ 32)) byte bytes all in
    (rw (ne_eqb byte 10 here.0, ne_eqb byte 32 here.1) refl, plain-word bytes (All-tail (λ byte. (byte ≢ 10) × (byte ≢ 32)) byte bytes all))

module _ (names : NameTexts) (telling : AreTelling names) where
  name-word : (link : ℕ) → link < length names.links → IsWord (entry_at names.links link)
  name-word link lt = plain-word (entry_at names.links link) (telling.plain link [] lt)

  one-link : (one two : ℕ) → one < length names.links → two < length names.links → entry_at names.links one ≡ entry_at names.links two → one ≡ two
  one-link one two lt also same = elim (cases_lt one two) [
    | inl less ↦ absurd (telling.apart one two less also same)
    | inr over ↦ elim (cases_lt two one) [
      | inl more ↦ absurd (telling.apart two one more lt (sym same))
      | inr under ↦ omega arith
    ]
  ]

  name-read : (one two end stop : ℕ) (more rest : List ℕ) → one < length names.links → two < length names.links → in_word end ≡ false → in_word stop ≡ false
      → entry_at names.links one ++ end ∷ more ≡ entry_at names.links two ++ stop ∷ rest → (one ≡ two) × (end ∷ more ≡ stop ∷ rest)
  name-read one two end stop more rest lt also ends stops same =
      let both = word-read (entry_at names.links one) (entry_at names.links two) end stop more rest (name-word one lt) (name-word two also) ends stops same in
      (one-link one two lt also both.0, both.1)

  -- ---- closings

  closing-read : (at : ℕ) (one two : Closing) (more rest : List ℕ) → IsNamedClosing names one → IsNamedClosing names two → never more ≡ false → never rest ≡ false
      → closing_line names one ++ more ≡ closing_line names two ++ rest → (one ≡ two) × (more ≡ rest)
  closing-read at one two more rest is also ends stops same =
      let whole = sym (nest5 (codes "closing ") (entry_at names.links one.link) (codes " at ") (decimal one.share) (codes "\n") more) ∙ same
      ∙ nest5 (codes "closing ") (entry_at names.links two.link) (codes " at ") (decimal two.share) (codes "\n") rest in
      let named = name-read one.link two.link 32 32 (97 ∷ 116 ∷ 32 ∷ (decimal one.share ++ 10 ∷ more)) (97 ∷ 116 ∷ 32 ∷ (decimal two.share ++ 10 ∷ rest)) is.link also.link refl refl (ap (drop 8) whole) in
      let number = number-read one.share two.share 10 10 more rest is.share also.share refl refl (ap (drop 4) named.1) in
      (ap₂ (λ link share. record { link = link; share = share }) named.0 number.0, ap (drop 1) number.1)

  -- ---- numbers under names

  abbrev numbered : List ℕ → List (List ℕ) → List ℕ → ℕ → ℕ → List ℕ
  numbered word list then at number = word ++ entry_at list at ++ then ++ decimal number ++ codes "\n"

  numbered-read : (word : List ℕ) (list : List (List ℕ)) (then : List ℕ) (at one two : ℕ) (more rest : List ℕ) → one < 2 ^ 64 → two < 2 ^ 64 → never more ≡ false → never rest ≡ false
      → numbered word list then at one ++ more ≡ numbered word list then at two ++ rest → (one ≡ two) × (more ≡ rest)
  numbered-read word list then at one two more rest small few ends stops same =
      let whole = sym (nest5 word (entry_at list at) then (decimal one) (codes "\n") more) ∙ same ∙ nest5 word (entry_at list at) then (decimal two) (codes "\n") rest in
      let number = number-read one two 10 10 more rest small few refl refl
      (append_cancel_left then _ _ (append_cancel_left (entry_at list at) _ _ (append_cancel_left word _ _ whole))) in
      (number.0, ap (drop 1) number.1)

  -- ---- path groups

  abbrev place_at : ℕ → PlaceLine → List ℕ
  place_at at line = codes "place " ++ decimal at ++ codes " amount " ++ decimal line.amount ++ closed_text names line.closed

  abbrev place_parts : ℕ → Option ℕ → PlaceLine
  place_parts amount closed = record { amount = amount; closed = closed }

  -- an amount and what closed its path group
  closed-read : (amount other : ℕ) (one two : Option ℕ) (more rest : List ℕ) → IsNamedPlace names (place_parts amount one) → IsNamedPlace names (place_parts other two)
      → decimal amount ++ (closed_text names one ++ more) ≡ decimal other ++ (closed_text names two ++ rest) → (amount ≡ other) × (one ≡ two) × (more ≡ rest)
  unfolding closed_text
  closed-read amount other None None more rest is also same =
      let number = number-read amount other 32 32 (111 ∷ 112 ∷ 101 ∷ 110 ∷ 10 ∷ more) (111 ∷ 112 ∷ 101 ∷ 110 ∷ 10 ∷ rest) is.amount also.amount refl refl same in
      (number.0, refl, ap (drop 6) number.1)
  closed-read amount other None (Some link) more rest is also same =
      let number = number-read amount other 32 32 (111 ∷ 112 ∷ 101 ∷ 110 ∷ 10 ∷ more) (drop 1 (codes " closed by ") ++ entry_at names.links link ++ codes "\n" ++ rest) is.amount also.amount refl refl same in
      let apart : 111 ≡ 99 = ap (λ list. get_or list 1 0) number.1 in absurd (omega (arith, apart))
  closed-read amount other (Some link) None more rest is also same =
      let number = number-read amount other 32 32 (drop 1 (codes " closed by ") ++ entry_at names.links link ++ codes "\n" ++ more) (111 ∷ 112 ∷ 101 ∷ 110 ∷ 10 ∷ rest) is.amount also.amount refl refl same in
      let apart : 99 ≡ 111 = ap (λ list. get_or list 1 0) number.1 in absurd (omega (arith, apart))
  closed-read amount other (Some link) (Some closer) more rest is also same =
      let number = number-read amount other 32 32 (drop 1 (codes " closed by ") ++ entry_at names.links link ++ codes "\n" ++ more) (drop 1 (codes " closed by ") ++ entry_at names.links closer ++ codes "\n" ++ rest) is.amount also.amount refl refl same in
      let named = name-read link closer 10 10 more rest is.closed also.closed refl refl
      (sym (append_assoc (entry_at names.links link) (codes "\n") more) ∙ ap (drop 11) number.1 ∙ append_assoc (entry_at names.links closer) (codes "\n") rest) in
      (number.0, ap Some named.0, ap (drop 1) named.1)

  place-read : (at : ℕ) (one two : PlaceLine) (more rest : List ℕ) → IsNamedPlace names one → IsNamedPlace names two → never more ≡ false → never rest ≡ false
      → place_at at one ++ more ≡ place_at at two ++ rest → (one ≡ two) × (more ≡ rest)
  place-read at one two more rest is also ends stops same =
      let whole = sym (nest5 (codes "place ") (decimal at) (codes " amount ") (decimal one.amount) (closed_text names one.closed) more) ∙ same
      ∙ nest5 (codes "place ") (decimal at) (codes " amount ") (decimal two.amount) (closed_text names two.closed) rest in
      let parts = closed-read one.amount two.amount one.closed two.closed more rest is also
      (ap (drop 8) (append_cancel_left (decimal at) (codes " amount " ++ (decimal one.amount ++ (closed_text names one.closed ++ more))) (codes " amount " ++ (decimal two.amount ++ (closed_text names two.closed ++ rest))) (ap (drop 6) whole))) in
      (ap₂ place_parts parts.0 parts.1, parts.2)

  -- ---- groups

  abbrev group_at : ℕ → GroupLine → List ℕ
  group_at at line =
      codes "group " ++ entry_at names.groups at ++ codes " share " ++ decimal line.share ++ codes " amount " ++ decimal line.amount ++ codes "\n"
      ++ flat_map (place_line names line.places) (numbers (length line.places))

  places-are : (places : List PlaceLine) → flat_map (place_line names places) (numbers (length places)) ≡ walk place_at 0 places
  places-are places = walk-is place_at (record { amount = 0; closed = None }) places

  places-read : (one two : List PlaceLine) (more rest : List ℕ) → All (IsNamedPlace names) one → All (IsNamedPlace names) two → first_is 112 more ≡ false → first_is 112 rest ≡ false
      → flat_map (place_line names one) (numbers (length one)) ++ more ≡ flat_map (place_line names two) (numbers (length two)) ++ rest → (one ≡ two) × (more ≡ rest)
  places-read one two more rest are also ends stops same =
      walk-read place_at (first_is 112) never (IsNamedPlace names) (λ at line more. refl) (λ at line more. refl) place-read 0 one two more rest are also ends stops refl refl
      (sym (ap (λ text. text ++ more) (places-are one)) ∙ same ∙ ap (λ text. text ++ rest) (places-are two))

  group-read : (at : ℕ) (one two : GroupLine) (more rest : List ℕ) → IsNamedLine names one → IsNamedLine names two → first_is 112 more ≡ false → first_is 112 rest ≡ false
      → group_at at one ++ more ≡ group_at at two ++ rest → (one ≡ two) × (more ≡ rest)
  group-read at one two more rest is also ends stops same =
      let places : GroupLine → List ℕ = λ line. flat_map (place_line names line.places) (numbers (length line.places)) in
      let whole = sym (nest8 (codes "group ") (entry_at names.groups at) (codes " share ") (decimal one.share) (codes " amount ") (decimal one.amount) (codes "\n") (places one) more) ∙ same
      ∙ nest8 (codes "group ") (entry_at names.groups at) (codes " share ") (decimal two.share) (codes " amount ") (decimal two.amount) (codes "\n") (places two) rest in
      let after_name = append_cancel_left (entry_at names.groups at)
      (codes " share " ++ (decimal one.share ++ (codes " amount " ++ (decimal one.amount ++ (codes "\n" ++ (places one ++ more))))))
      (codes " share " ++ (decimal two.share ++ (codes " amount " ++ (decimal two.amount ++ (codes "\n" ++ (places two ++ rest)))))) (ap (drop 6) whole) in
      let share = number-read one.share two.share 32 32 (drop 1 (codes " amount ") ++ (decimal one.amount ++ (codes "\n" ++ (places one ++ more))))
      (drop 1 (codes " amount ") ++ (decimal two.amount ++ (codes "\n" ++ (places two ++ rest)))) is.share also.share refl refl (ap (drop 7) after_name) in
      let amount = number-read one.amount two.amount 10 10 (places one ++ more) (places two ++ rest) is.amount also.amount refl refl (ap (drop 8) share.1) in
      let both = places-read one.places two.places more rest is.places also.places ends stops (ap (drop 1) amount.1) in
      (ap₂ (λ make places. make places) (ap₂ line_parts share.0 amount.0) both.0, both.1)

  -- ---- the sections of a text

  abbrev closings_text : List Closing → List ℕ
  closings_text closings = flat_map (closing_line names) closings

  abbrev loads_text : List ℕ → List ℕ
  loads_text loads = flat_map (link_line names loads) (numbers (length loads))

  abbrev groups_text : List GroupLine → List ℕ
  groups_text lines = flat_map (group_lines names lines) (numbers (length lines))

  abbrev limits_text : List ℕ → List ℕ
  limits_text limits = flat_map (task_line names limits) (numbers (length limits))

  abbrev load_at : ℕ → ℕ → List ℕ
  load_at = numbered (codes "link ") names.links (codes " load ")

  abbrev limit_at : ℕ → ℕ → List ℕ
  limit_at = numbered (codes "task ") names.tasks (codes " limit ")

  abbrev no_line : GroupLine
  no_line = record { share = 0; amount = 0; places = [] }

  loads-are : (loads : List ℕ) → loads_text loads ≡ walk load_at 0 loads
  loads-are loads = walk-is load_at 0 loads

  groups-are : (lines : List GroupLine) → groups_text lines ≡ walk group_at 0 lines
  groups-are lines = walk-is group_at no_line lines

  limits-are : (limits : List ℕ) → limits_text limits ≡ walk limit_at 0 limits
  limits-are limits = walk-is limit_at 0 limits

  closings-read : (one two : List Closing) (more rest : List ℕ) → All (IsNamedClosing names) one → All (IsNamedClosing names) two → first_is 99 more ≡ false → first_is 99 rest ≡ false
      → closings_text one ++ more ≡ closings_text two ++ rest → (one ≡ two) × (more ≡ rest)
  closings-read one two more rest are also ends stops same =
      walk-read (λ at closing. closing_line names closing) (first_is 99) never (IsNamedClosing names) (λ at closing more. refl) (λ at closing more. refl) closing-read 0 one two more rest are also ends stops refl refl
      (sym (ap (λ text. text ++ more) (walk-plain (closing_line names) 0 one)) ∙ same ∙ ap (λ text. text ++ rest) (walk-plain (closing_line names) 0 two))

  loads-read : (one two more rest : List ℕ) → All (λ load. load < 2 ^ 64) one → All (λ load. load < 2 ^ 64) two → first_is 108 more ≡ false → first_is 108 rest ≡ false
      → loads_text one ++ more ≡ loads_text two ++ rest → (one ≡ two) × (more ≡ rest)
  loads-read one two more rest are also ends stops same =
      walk-read load_at (first_is 108) never (λ load. load < 2 ^ 64) (λ at load more. refl) (λ at load more. refl) (numbered-read (codes "link ") names.links (codes " load ")) 0 one two more rest are also ends stops refl refl
      (sym (ap (λ text. text ++ more) (loads-are one)) ∙ same ∙ ap (λ text. text ++ rest) (loads-are two))

  groups-read : (one two : List GroupLine) (more rest : List ℕ) → All (IsNamedLine names) one → All (IsNamedLine names) two → first_is 103 more ≡ false → first_is 103 rest ≡ false
      → first_is 112 more ≡ false → first_is 112 rest ≡ false
      → groups_text one ++ more ≡ groups_text two ++ rest → (one ≡ two) × (more ≡ rest)
  groups-read one two more rest are also ends stops apart other same =
      walk-read group_at (first_is 103) (first_is 112) (IsNamedLine names) (λ at line more. refl) (λ at line more. refl) group-read 0 one two more rest are also ends stops apart other
      (sym (ap (λ text. text ++ more) (groups-are one)) ∙ same ∙ ap (λ text. text ++ rest) (groups-are two))

  limits-read : (one two more rest : List ℕ) → All (λ limit. limit < 2 ^ 64) one → All (λ limit. limit < 2 ^ 64) two → second_is 97 more ≡ false → second_is 97 rest ≡ false
      → limits_text one ++ more ≡ limits_text two ++ rest → (one ≡ two) × (more ≡ rest)
  limits-read one two more rest are also ends stops same =
      walk-read limit_at (second_is 97) never (λ limit. limit < 2 ^ 64) (λ at limit more. refl) (λ at limit more. refl) (numbered-read (codes "task ") names.tasks (codes " limit ")) 0 one two more rest are also ends stops refl refl
      (sym (ap (λ text. text ++ more) (limits-are one)) ∙ same ∙ ap (λ text. text ++ rest) (limits-are two))

  -- what comes after a section begins with another letter
  limits-mark : (byte : ℕ) → (116 == byte) ≡ false → (limits more : List ℕ) → first_is byte more ≡ false → first_is byte (limits_text limits ++ more) ≡ false
  limits-mark byte t limits more none =
      ap (λ text. first_is byte (text ++ more)) (limits-are limits) ∙ walk-mark limit_at (first_is byte) (λ at limit more. t) 0 limits more none

  groups-mark : (byte : ℕ) → (103 == byte) ≡ false → (lines : List GroupLine) (more : List ℕ) → first_is byte more ≡ false → first_is byte (groups_text lines ++ more) ≡ false
  groups-mark byte g lines more none =
      ap (λ text. first_is byte (text ++ more)) (groups-are lines) ∙ walk-mark group_at (first_is byte) (λ at line more. g) 0 lines more none

  loads-mark : (byte : ℕ) → (108 == byte) ≡ false → (loads more : List ℕ) → first_is byte more ≡ false → first_is byte (loads_text loads ++ more) ≡ false
  loads-mark byte l loads more none =
      ap (λ text. first_is byte (text ++ more)) (loads-are loads) ∙ walk-mark load_at (first_is byte) (λ at load more. l) 0 loads more none

  -- ---- the whole text

  abbrev total_text : List GroupLine → List ℕ → List ℕ
  total_text lines more = codes "total " ++ (decimal (sum_by (λ line. line.amount) lines) ++ (codes "\n" ++ more))

  abbrev text_with : Table → List ℕ → List ℕ
  text_with table more =
      codes "table " ++ (decimal table.prefix ++ (codes "\n" ++ (closings_text table.closings ++ (loads_text table.loads ++ (groups_text table.groups ++ (limits_text table.limits ++ total_text table.groups more))))))

  text-with : (table : Table) (more : List ℕ) → text_of names table ++ more ≡ text_with table more
  unfolding text_of
  text-with table more =
      nest10 (codes "table ") (decimal table.prefix) (codes "\n") (closings_text table.closings) (loads_text table.loads) (groups_text table.groups) (limits_text table.limits)
      (codes "total ") (decimal (sum_by (λ line. line.amount) table.groups)) (codes "\n") more

  pub one-text : (table other : Table) → IsNamed names table → IsNamed names other → (more : List ℕ) → text_of names table ≡ text_of names other ++ more → (table ≡ other) × (more ≡ [])
  one-text table other named also more same =
      let after_limits : Table → List ℕ → List ℕ = λ table more. total_text table.groups more in
      let after_groups : Table → List ℕ → List ℕ = λ table more. limits_text table.limits ++ after_limits table more in
      let after_loads : Table → List ℕ → List ℕ = λ table more. groups_text table.groups ++ after_groups table more in
      let after_closings : Table → List ℕ → List ℕ = λ table more. loads_text table.loads ++ after_loads table more in
      let no_limits : (byte : ℕ) → (116 == byte) ≡ false → (table : Table) (more : List ℕ) → first_is byte (after_groups table more) ≡ false =
      λ byte t table more. limits-mark byte t table.limits (after_limits table more) t in
      let no_groups : (byte : ℕ) → (103 == byte) ≡ false → (116 == byte) ≡ false → (table : Table) (more : List ℕ) → first_is byte (after_loads table more) ≡ false =
      λ byte g t table more. groups-mark byte g table.groups (after_groups table more) (no_limits byte t table more) in
      let whole : text_with table [] ≡ text_with other more = sym (text-with table []) ∙ append-nil (text_of names table) ∙ same ∙ text-with other more in
      let prefix = number-read table.prefix other.prefix 10 10 (closings_text table.closings ++ after_closings table []) (closings_text other.closings ++ after_closings other more) named.prefix also.prefix refl refl (ap (drop 6) whole) in
      let closings = closings-read table.closings other.closings (after_closings table []) (after_closings other more) named.closings also.closings
      (loads-mark 99 refl table.loads (after_loads table []) (no_groups 99 refl refl table []))
      (loads-mark 99 refl other.loads (after_loads other more) (no_groups 99 refl refl other more)) (ap (drop 1) prefix.1) in
      let loads = loads-read table.loads other.loads (after_loads table []) (after_loads other more) named.loads also.loads (no_groups 108 refl refl table []) (no_groups 108 refl refl other more) closings.1 in
      let groups = groups-read table.groups other.groups (after_groups table []) (after_groups other more) named.groups also.groups
      (no_limits 103 refl table []) (no_limits 103 refl other more) (no_limits 112 refl table []) (no_limits 112 refl other more) loads.1 in
      let limits = limits-read table.limits other.limits (after_limits table []) (after_limits other more) named.limits also.limits refl refl groups.1 in
      let total : total_text other.groups [] ≡ total_text other.groups more = ap (λ lines. total_text lines []) (sym groups.0) ∙ limits.1 in
      let left = append_cancel_left (decimal (sum_by (λ line. line.amount) other.groups)) (codes "\n" ++ []) (codes "\n" ++ more) (ap (drop 6) total) in
      (same-parts _ _ _ _ _ _ _ _ _ _ prefix.0 limits.0 groups.0 loads.0 closings.0, sym (ap (drop 1) left))
