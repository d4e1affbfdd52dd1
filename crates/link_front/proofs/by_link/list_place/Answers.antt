use Rattle.std.proofs.Common.{◌<◌, ◌∙◌, length, refl, subst, get_or, arith}
use Rattle.std.proofs.lemmas.List.{length-set, take_all}
use Rattle.path_groups.specs.declared.part.LinkPart.{LinkPart}
use Rattle.link_front.specs.ByLink.{IsListedTo}
use Rattle.link_front.proofs.Listing.{listed_on-read, ArePlaced, placed-here, placed-next, placed-end}
use Rattle.link_front.proofs.by_link.list_place.Goals as goal

pub loop-part-preserved : goal.loop-part-preserved
loop-part-preserved c =
    let d : LinkPart = record { link = 0; weight = 0; whole = 0 } in
    let parts = c.parts-part-items.result.now in
    let at = c.loop-part.part-index in
    let part : LinkPart = get_or parts at d in
    let are = c.parts-part-items.ensures in
    let i = c.loop-part.invariant in
    let lt : part.link < length c.loop-part.lists = omega (arith, c.requires.links part.link (are.parts.some.each at d c.loop-part-test.true).used, i.each_link) in
    let before = placed-here c.args.plan.now c.args.group c.args.place parts are.parts c.loop-part.lists at d c.loop-part-test.true i.placed in
    let after =
    c.in_ok-list_once.ensures c.args.plan.now part.link (record { on = refl; sound = are.each at d c.loop-part-test.true; of = are.parts.some.each at d c.loop-part-test.true })
    (subst (IsListedTo c.args.plan.now part.link c.args.group c.args.place) (listed_on-read c.loop-part.lists part.link c.index-lists-part.result lt) before) in
    record {
      each_link = length-set c.loop-part.lists part.link c.list_once.new.list ∙ i.each_link;
      placed = placed-next c.args.plan.now c.args.group c.args.place parts are.parts c.loop-part.lists at d c.list_once.new.list c.loop-part-test.true lt i.placed after;
    }

pub returns-clause-after : goal.returns-clause-after
returns-clause-after c =
    let parts = c.parts-part-items.result.now in
    placed-end c.args.plan.now c.args.group c.args.place parts c.parts-part-items.ensures.parts c.loop-part.lists
    (subst (λ some. ArePlaced c.args.plan.now c.args.group c.args.place some c.loop-part.lists) (take_all c.loop-part.part-index parts c.loop-part-test.false) c.loop-part.invariant.placed)
