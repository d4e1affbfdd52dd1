use Rattle.std.proofs.Common.{◌≡◌, map, ap, arith}
use Rattle.json.specs.Token.{begin_array}
use Rattle.bwe_specs.specs.Reports.{numbers}
use Rattle.doc_maker.specs.Layout.{link_value}
use Rattle.doc_maker.specs.Made.{made_link}
use Rattle.doc_maker.specs.Writing.{each_tokens}
use Rattle.doc_maker.proofs.Lists.{wrote, added_as, list_done, one_more}
use Rattle.doc_maker.proofs.network.write_links.Goals as goal

pub loop-link-preserved : goal.loop-link-preserved
loop-link-preserved c = one_more link_value (made_link c.args.size.now) c.begin_array.new.self c.loop-link.out c.write_link.new.out c.loop-link.link c.loop-link.invariant c.in_ok-write_link.ensures

pub returns : goal.returns
returns c =
    let end : c.loop-link.link ≡ c.args.size.now.groups = omega (arith, c.groups-link-end.ensures.groups) in
    list_done link_value c.end_array.result c.args.out.now c.begin_array.new.self c.loop-link.out c.end_array.new.self (map (made_link c.args.size.now) (numbers c.args.size.now.groups))
    (wrote c.args.out.now c.begin_array.new.self begin_array c.in_ok-begin_array.ensures)
    (added_as c.begin_array.new.self c.loop-link.out _ _ (ap (λ n. each_tokens link_value (map (made_link c.args.size.now) (numbers n))) end) c.loop-link.invariant)
    c.end_array.ensures
