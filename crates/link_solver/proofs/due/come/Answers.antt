use Rattle.std.proofs.Common.{ℕ, ◌+◌, ◌*◌, ◌-◌, ◌<◌, List, length, take, get_or, slice_index, sym, ap, subst, arith}
use Rattle.std.proofs.Math.Nat.{mul-le-mul_left}
use Rattle.std.proofs.lemmas.List.{take_all}
use Rattle.bwe_specs.specs.Filling.{Wan}
use Rattle.bwe_specs.specs.Paths.{PathGroup, path_group_at}
use Rattle.path_groups.specs.declared.part.LinkPart.{LinkPart}
use Rattle.path_groups.specs.Parts.{AreParts}
use Rattle.mpfa_fill.specs.Growth.{wan_in, added_in}
use Rattle.link_solver.specs.declared.due.Due.{Due}
use Rattle.link_solver.specs.Dues.{KeepsOver, IsReachedBy}
use Rattle.link_solver.proofs.Marking.{CameSoFar, came-start, came-more, came-end}
use Rattle.link_solver.proofs.Counting.{parts-few, length-more}
use Rattle.link_solver.proofs.due.come.Goals as goal

pub loop-part-init : goal.loop-part-init
loop-part-init g c =
    let wan : Wan = wan_in g.V.GroupValues.meaning c.args.growth.now in
    record {
      came = came-start (path_group_at wan.groups c.args.group c.args.place) (added_in c.args.growth.now c.args.group c.args.place) (λ share. wan.value c.args.group share - c.args.value) wan.capacities c.args.share c.parts-part-items.result.now c.args.dues.now;
      plays = λ levels le. omega arith;
    }

pub loop-part-preserved : goal.loop-part-preserved
loop-part-preserved g c =
    let wan : Wan = wan_in g.V.GroupValues.meaning c.args.growth.now in
    let path_group : PathGroup = path_group_at wan.groups c.args.group c.args.place in
    let had : ℕ = added_in c.args.growth.now c.args.group c.args.place in
    let gain : ℕ → ℕ = λ share. wan.value c.args.group share - c.args.value in
    let parts : List LinkPart = c.parts-part-items.result.now in
    let d : LinkPart = record { link = 0; weight = 0; whole = 0 } in
    let i : ℕ = c.loop-part.part-index in
    let link : ℕ = (get_or parts i d).link in
    let are : AreParts path_group parts = subst (λ groups. AreParts (path_group_at groups c.args.group c.args.place) parts) c.plan.ensures c.parts-part-items.ensures.parts in
    let so = c.loop-part.invariant.came in
    let inside : link < length c.loop-part.dues = omega (arith, c.requires.links link (are.some.each i d c.loop-part-test.true).used, so.each_link) in
    record {
      came = subst (CameSoFar path_group had gain wan.capacities c.args.share (take (i + 1) parts) c.args.dues.now) (sym c.set.ensures.dues)
          (came-more path_group had gain wan.capacities c.args.share parts i d c.loop-part-test.true c.args.dues.now c.loop-part.dues c.reached-new.result inside
          (subst (λ (due : Due). KeepsOver due c.reached-new.result) c.due-due.ensures c.reached-new.ensures.over)
          (subst (λ (due : Due). IsReachedBy path_group had gain (slice_index wan.capacities link) c.args.share link due c.reached-new.result) c.due-due.ensures c.reached-new.ensures.came)
          so);
      plays = λ levels le. omega (
        arith,
        c.loop-part.invariant.plays levels le,
        c.set.ensures.plays levels (omega (arith, le, so.each_link)),
        ap (λ n. levels * n) (length-more parts i d c.loop-part-test.true),
      );
    }

pub returns-clause-comes : goal.returns-clause-comes
returns-clause-comes g c =
    let wan : Wan = wan_in g.V.GroupValues.meaning c.args.growth.now in
    let path_group : PathGroup = path_group_at wan.groups c.args.group c.args.place in
    let had : ℕ = added_in c.args.growth.now c.args.group c.args.place in
    let gain : ℕ → ℕ = λ share. wan.value c.args.group share - c.args.value in
    let parts : List LinkPart = c.parts-part-items.result.now in
    let are : AreParts path_group parts = subst (λ groups. AreParts (path_group_at groups c.args.group c.args.place) parts) c.plan.ensures c.parts-part-items.ensures.parts in
    came-end path_group had gain wan.capacities c.args.share parts are c.args.dues.now c.loop-part.dues
    (subst (λ (ps : List LinkPart). CameSoFar path_group had gain wan.capacities c.args.share ps c.args.dues.now c.loop-part.dues) (take_all c.loop-part.part-index parts c.loop-part-test.false) c.loop-part.invariant.came)

pub returns-clause-plays : goal.returns-clause-plays
returns-clause-plays g c levels le =
    let wan : Wan = wan_in g.V.GroupValues.meaning c.args.growth.now in
    let path_group : PathGroup = path_group_at wan.groups c.args.group c.args.place in
    let parts : List LinkPart = c.parts-part-items.result.now in
    let are : AreParts path_group parts = subst (λ groups. AreParts (path_group_at groups c.args.group c.args.place) parts) c.plan.ensures c.parts-part-items.ensures.parts in
    omega (
      arith,
      c.loop-part.invariant.plays levels le,
      ap (λ (ps : List LinkPart). levels * length ps) (take_all c.loop-part.part-index parts c.loop-part-test.false),
      mul-le-mul_left levels (parts-few (length c.args.dues.now) path_group parts are c.requires.links),
    )
