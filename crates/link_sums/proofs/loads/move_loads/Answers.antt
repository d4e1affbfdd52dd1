use Rattle.std.proofs.Common.{◌∙◌, subst, arith}
use Rattle.std.proofs.lemmas.List.{take_all}
use Rattle.bwe_specs.specs.Paths.{path_group_at}
use Rattle.path_groups.proofs.Parts.{IsPartOf-load}
use Rattle.link_sums.proofs.MovedLoads.{IsMoved, IsMoved-read, IsMoved-more, IsMoved-end}
use Rattle.link_sums.proofs.loads.move_loads.Goals as goal

pub overflow_sub-loads : goal.overflow_sub-loads
overflow_sub-loads c =
    let group = path_group_at c.args.plan.now c.args.group c.args.place in
    let part = c.parts-part-items.ensures.parts.some.each c.loop-part.part-index (record { link = 0; weight = 0; whole = 0 }) c.loop-part-test.true in
    let read = IsMoved-read group c.parts-part-items.result.now c.parts-part-items.ensures.parts c.args.before c.args.after c.args.loads.now c.loop-part.loads c.loop-part.part-index (record { link = 0; weight = 0; whole = 0 }) c.loop-part-test.true c.loop-part.invariant in
    let load = IsPartOf-load group _ c.args.before part in
    let counted = c.requires.counted _ (c.requires.links _ part.used) in
    omega (arith, read, load, c.load.ensures.load, counted)

pub overflow_add-loads : goal.overflow_add-loads
overflow_add-loads c =
    let group = path_group_at c.args.plan.now c.args.group c.args.place in
    let part = c.parts-part-items.ensures.parts.some.each c.loop-part.part-index (record { link = 0; weight = 0; whole = 0 }) c.loop-part-test.true in
    let read = IsMoved-read group c.parts-part-items.result.now c.parts-part-items.ensures.parts c.args.before c.args.after c.args.loads.now c.loop-part.loads c.loop-part.part-index (record { link = 0; weight = 0; whole = 0 }) c.loop-part-test.true c.loop-part.invariant in
    let room = c.requires.room _ (c.requires.links _ part.used) in
    omega (arith, read, room, c.load-in-loop-part.ensures.at_most, c.requires.after)

pub loop-part-preserved : goal.loop-part-preserved
loop-part-preserved c =
    let group = path_group_at c.args.plan.now c.args.group c.args.place in
    let part = c.parts-part-items.ensures.parts.some.each c.loop-part.part-index (record { link = 0; weight = 0; whole = 0 }) c.loop-part-test.true in
    let within = c.requires.links _ part.used in
    let counted = c.requires.counted _ within in
    let less = c.load.ensures.load ∙ IsPartOf-load group _ c.args.before part in
    let more = c.load-in-loop-part.ensures.load ∙ IsPartOf-load group _ c.args.after part in
    IsMoved-more group c.parts-part-items.result.now c.parts-part-items.ensures.parts c.args.before c.args.after c.args.loads.now c.loop-part.loads c.loop-part.part-index (record { link = 0; weight = 0; whole = 0 }) c.loop-part-test.true c.loop-part.invariant
    c.load.result c.load-in-loop-part.result less more within (omega (arith, less, counted))

pub returns-clause-moved : goal.returns-clause-moved
returns-clause-moved c =
    let group = path_group_at c.args.plan.now c.args.group c.args.place in
    IsMoved-end group c.parts-part-items.result.now c.parts-part-items.ensures.parts c.args.before c.args.after c.args.loads.now c.loop-part.loads
    (subst (λ parts. IsMoved group parts c.args.before c.args.after c.args.loads.now c.loop-part.loads) (take_all c.loop-part.part-index c.parts-part-items.result.now c.loop-part-test.false) c.loop-part.invariant)
