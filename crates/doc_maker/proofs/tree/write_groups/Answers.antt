use Rattle.std.proofs.Common.{◌≡◌, map, ap, arith}
use Rattle.json.specs.Token.{begin_array}
use Rattle.bwe_specs.specs.Reports.{numbers}
use Rattle.doc_maker.specs.Layout.{group_value}
use Rattle.doc_maker.specs.Made.{made_group}
use Rattle.doc_maker.specs.Writing.{each_tokens}
use Rattle.doc_maker.proofs.Lists.{wrote, added_as, list_done, one_more}
use Rattle.doc_maker.proofs.tree.write_groups.Goals as goal

pub loop-group-preserved : goal.loop-group-preserved
loop-group-preserved c = one_more group_value (made_group c.args.size.now) c.begin_array.new.self c.loop-group.out c.write_group.new.out c.loop-group.group c.loop-group.invariant c.in_ok-write_group.ensures

pub returns : goal.returns
returns c =
    let end : c.loop-group.group ≡ c.args.size.now.groups = omega (arith, c.groups-group-end.ensures.groups) in
    list_done group_value c.end_array.result c.args.out.now c.begin_array.new.self c.loop-group.out c.end_array.new.self (map (made_group c.args.size.now) (numbers c.args.size.now.groups))
    (wrote c.args.out.now c.begin_array.new.self begin_array c.in_ok-begin_array.ensures)
    (added_as c.begin_array.new.self c.loop-group.out _ _ (ap (λ n. each_tokens group_value (map (made_group c.args.size.now) (numbers n))) end) c.loop-group.invariant)
    c.end_array.ensures
