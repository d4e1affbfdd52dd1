use Rattle.std.proofs.Common.{◌≡◌, ◌-◌, [], ◌∷◌, ◌++◌, Some, None, refl, sym, ap, ◌∙◌, subst, arith}
use Rattle.json.specs.Json.{parse_map, after_end_array, value}
use Rattle.serde_json.specs.Data.{array, no_items}
use Rattle.serde_json.specs.Read.{of_json, converted}
use Rattle.raw_reader.specs.Takes.{EachRead}
use Rattle.raw_reader.specs.Walks.{Amid, items_before}
use Rattle.raw_reader.proofs.Reading.{Amid-more, Amid-end, array_is, listed}
use Rattle.raw_reader.proofs.part.VecPart.read.Goals as goal

pub items-preserved : goal.items-preserved
items-preserved g c =
    let l = c.items in
    let IsRead = g.T.Part.is_read c.args.version in
    let going : (after_end_array l.reader ≡ None) × (c.take_end_array.new.self ≡ l.reader) = grind arith in
    let read = c.in_ok-item.ensures in
    let pushed : c.add.new.found.items ≡ l.found.items ++ c.in_ok-item.item ∷ [] = c.in_ok-add.ensures in
    subst (λ xs. Amid (c.args.depth - 1) IsRead c.open_array.new.reader xs c.read.new.reader) (sym pushed)
    (Amid-more (c.args.depth - 1) IsRead c.open_array.new.reader l.found.items l.reader c.read.new.reader c.in_ok-item.item read.value.0 l.invariant going.0 (rw (← going.1) read.value.1) read.value.2 (rw (← going.1) read.shorter))

pub returns-clause-value : goal.returns-clause-value
returns-clause-value g c =
    let l = c.items in
    let IsRead = g.T.Part.is_read c.args.version in
    let after = c.take_end_array.new.self in
    let over : after_end_array l.reader ≡ Some after = grind arith in
    let whole = Amid-end (c.args.depth - 1) IsRead c.open_array.new.reader l.found.items l.reader after l.invariant over in
    let bracket = c.in_ok-open_array.ensures in (
      array (items_before whole.0 no_items),
      ap (λ ts. converted of_json (value c.args.depth ts)) bracket.0 ∙ array_is c.args.depth c.open_array.new.reader bracket.1 ∙ ap (parse_map array) whole.2,
      (items_before whole.0 no_items, refl, rw (c.let_room_go.ensures) (subst (λ ds. EachRead IsRead ds l.found.items) (sym (listed whole.0)) whole.1)),
    )
