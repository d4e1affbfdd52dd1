use Rattle.std.proofs.Common.{◌≡◌, false, List, sym, ◌∙◌, subst}
use Rattle.std.specs.List.{list_any}
use Rattle.std.proofs.lemmas.List.{take_all}
use Rattle.std.proofs.lemmas.List.Folds.{list_any_at}
use Rattle.bwe_specs.specs.Paths.{path_group_at}
use Rattle.path_groups.specs.declared.part.LinkPart.{LinkPart}
use Rattle.mpfa_fill.specs.Closings.{is_closed}
use Rattle.mpfa_fill.proofs.Flags.{closed-parts}
use Rattle.mpfa_fill.proofs.standing.uses_closed.Goals as goal

pub returns-then-is_closed : goal.returns-then-is_closed
returns-then-is_closed c =
    let parts : List LinkPart = c.parts-part-items.result.now in
    sym (list_any_at (λ (part : LinkPart). is_closed c.args.closings.now part.link) parts c.loop-part.part-index (record { link = 0; weight = 0; whole = 0 }) c.loop-part-test.true (sym c.is_closed.ensures ∙ c.if-is_closed.true))
    ∙ closed-parts (path_group_at c.args.plan.now c.args.group c.args.place) parts c.args.closings.now c.parts-part-items.ensures.parts

pub returns : goal.returns
returns c =
    let parts : List LinkPart = c.parts-part-items.result.now in
    sym (subst (λ (ps : List LinkPart). list_any (λ (part : LinkPart). is_closed c.args.closings.now part.link) ps ≡ false) (take_all c.loop-part.part-index parts c.loop-part-test.false) c.loop-part.invariant)
    ∙ closed-parts (path_group_at c.args.plan.now c.args.group c.args.place) parts c.args.closings.now c.parts-part-items.ensures.parts
