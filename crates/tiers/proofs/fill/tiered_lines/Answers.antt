use Rattle.std.proofs.Common.{◌∙◌, ◌++◌, ◌∷◌, [], ap₂, slice_index, sym, zero-add}
use Rattle.std.proofs.lemmas.List.FromFn.{map-range_with_len_more}
use Rattle.tiers.specs.Fillings.{line_in_tier}
use Rattle.tiers.proofs.fill.tiered_lines.Goals as goal

pub loop-group-preserved : goal.loop-group-preserved
loop-group-preserved c =
    c.in_ok-push.ensures.items
    ∙ ap₂ (λ lines line. lines ++ line ∷ []) c.loop-group.invariant c.in_ok-line.ensures
    ∙ sym (map-range_with_len_more (λ group. line_in_tier c.args.plan.now c.args.fillings.now (slice_index c.args.tiers.now group) group) 0 c.loop-group.group c.loop-group.group (zero-add c.loop-group.group))
