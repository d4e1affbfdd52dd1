use Rattle.std.proofs.Common.{◌∷◌, ◌++◌, [], ap, ◌∙◌}
use Rattle.std.specs.Prelude.{None}
use Rattle.std.proofs.lemmas.List.{replicate_more}
use Rattle.enforcer_core.specs.World.{Region}
use Rattle.enforcer_core.proofs.world.new_regions.Goals as goal

pub loop-preserved : goal.loop-preserved
loop-preserved c =
    let none : Region = record { floor = 0; in_force = None } in
    c.in_ok-push.ensures.items
    ∙ ap (λ region. c.loop.regions.items ++ region ∷ []) c.new.ensures
    ∙ ap (λ regions. regions ++ none ∷ []) c.loop.invariant
    ∙ replicate_more c.loop.counter none
