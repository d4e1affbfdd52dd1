use Rattle.std.proofs.Common.{◌≡◌, ◌-◌, Some, None, refl, ap, ◌∙◌, arith}
use Rattle.json.specs.Json.{parse_map, read_key}
use Rattle.json.proofs.Grammar.{read_key-shorter}
use Rattle.serde_json.specs.Data.{object}
use Rattle.raw_reader.proofs.Reading.{Within-more, Within-end, object_is}
use Rattle.raw_reader.proofs.slots.fill_members.Goals as goal

pub members-preserved : goal.members-preserved
members-preserved g c =
    let l = c.members in
    let k = c.in-Some.key.now in
    let inside = c.next_key.new.self in
    let named : read_key l.reader ≡ Some (Some k, inside) = grind arith in
    let taken = c.in_ok-take.ensures.value in
    Within-more (c.args.depth - 1) (g.S.Slots.holds c.args.version l.slots) (g.S.Slots.holds c.args.version c.take.new.self) c.args.reader.now l.reader inside c.take.new.reader k taken.0
    l.invariant named taken.1 taken.2 (read_key-shorter l.reader (Some k) inside named) c.in_ok-take.ensures.shorter

pub returns-clause-value : goal.returns-clause-value
returns-clause-value g c =
    let l = c.members in
    let after = c.next_key.new.self in
    let over : read_key l.reader ≡ Some (None, after) = grind arith in
    let whole = Within-end (c.args.depth - 1) (g.S.Slots.holds c.args.version l.slots) c.args.reader.now l.reader after l.invariant over in
    (object whole.0, object_is c.args.depth c.args.reader.now c.requires.depth ∙ ap (parse_map object) whole.2, (whole.0, refl, whole.1))
