use Rattle.std.proofs.Common.{◌≡◌, [], map, true, false, rules}
use Rattle.std.specs.List.{list_any}
use Rattle.std.specs.Str.{bytes_eq}
use Rattle.raw_document.specs.Raw.{name_view}
use Rattle.doc_passes.proofs.NamesInParts.{later_gives, first_gives, there_fails}
use Rattle.doc_passes.proofs.few_names.FewNames.add.Goals as goal

pub returns-then-has_name : goal.returns-then-has_name
returns-then-has_name c =
    let first = c.self.inside.first.items in
    let there : list_any (bytes_eq c.args.name.now) (map name_view first) ≡ true = cc in
    rw (← c.self.view_is) (there_fails (map name_view first) c.self.inside.more c.args.name.now c.here.result there c.here.ensures)

pub returns-then-not-is_full : goal.returns-then-not-is_full
returns-then-not-is_full c =
    let first = c.self.inside.first.items in
    let absent : list_any (bytes_eq c.args.name.now) (map name_view first) ≡ false = cc in
    let none : c.self.inside.more ≡ [] = search rules in
    rw (← c.self.view_is) (first_gives first c.push.new.self.items c.self.inside.more c.args.name absent none c.push.ensures.items)

pub returns : goal.returns
returns c =
    let first = c.self.inside.first.items in
    let absent : list_any (bytes_eq c.args.name.now) (map name_view first) ≡ false = cc in
    rw (← c.self.view_is) (later_gives (map name_view first) c.self.inside.more _ c.args.name.now c.add.result absent c.add.ensures)
