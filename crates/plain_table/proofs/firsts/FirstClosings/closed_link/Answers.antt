use Rattle.std.proofs.Common.{◌<◌, ◌≤◌, List, length, Some, sym, ◌∙◌, ap, subst, arith}
use Rattle.std.proofs.lemmas.List.{take_all}
use Rattle.bwe_specs.specs.declared.network.Closing.{Closing}
use Rattle.bwe_specs.specs.Paths.{path_group_at}
use Rattle.path_groups.specs.declared.part.LinkPart.{LinkPart}
use Rattle.plain_table.specs.FirstOfLinks.{closing_at}
use Rattle.plain_table.proofs.FirstOfLinks.{IsFirstOf, first-closed, none-closed}
use Rattle.plain_table.proofs.firsts.FirstClosings.closed_link.Goals as goal

pub returns-then-first-self : goal.returns-then-first-self
returns-then-first-self c =
    let parts : List LinkPart = c.parts-part-items.result.now in
    let is : IsFirstOf c.args.self.now parts c.loop-part.first = subst (λ (ps : List LinkPart). IsFirstOf c.args.self.now ps c.loop-part.first) (take_all c.loop-part.part-index parts c.loop-part-test.false) c.loop-part.invariant in
    let inside : c.loop-part.first < length c.args.self.now = omega (arith, c.if-first-self.true, ap (λ (cs : List Closing). length cs) c.self.view_is) in
    ap (λ (cs : List Closing). Some (closing_at cs c.loop-part.first).link) c.self.view_is
    ∙ sym (first-closed (path_group_at c.args.plan.now c.args.group c.args.place) parts c.parts-part-items.ensures.parts c.args.self.now c.loop-part.first is inside)

pub returns-else-first-self : goal.returns-else-first-self
returns-else-first-self c =
    let parts : List LinkPart = c.parts-part-items.result.now in
    let is : IsFirstOf c.args.self.now parts c.loop-part.first = subst (λ (ps : List LinkPart). IsFirstOf c.args.self.now ps c.loop-part.first) (take_all c.loop-part.part-index parts c.loop-part-test.false) c.loop-part.invariant in
    let past : length c.args.self.now ≤ c.loop-part.first = omega (arith, c.if-first-self.false, ap (λ (cs : List Closing). length cs) c.self.view_is) in
    sym (none-closed (path_group_at c.args.plan.now c.args.group c.args.place) parts c.parts-part-items.ensures.parts c.args.self.now c.loop-part.first is past)
