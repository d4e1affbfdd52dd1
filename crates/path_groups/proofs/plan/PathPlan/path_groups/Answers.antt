use Rattle.std.proofs.Common.{◌≡◌, ◌≤◌, ◌++◌, ◌∙◌, sym, ap, subst, map, refl, arith}
use Rattle.std.specs.Prelude.{All}
use Rattle.std.specs.Vec.Iter.{into_iter_items}
use Rattle.std.proofs.lemmas.List.Elements.{All-push}
use Rattle.bwe_specs.specs.Paths.{weight_of}
use Rattle.path_groups.specs.declared.plan.PathGroup.{PathGroup}
use Rattle.bwe_specs.specs.Given.{path_of, path_group_of}
use Rattle.path_groups.specs.Parts.{AreParts}
use Rattle.path_groups.specs.Held.{path_group_held, HoldsParts}
use Rattle.path_groups.proofs.Parts.{weight_of-read}
use Rattle.path_groups.proofs.Plans.{All-first, All-later, together-push}
use Rattle.path_groups.proofs.plan.PathPlan.path_groups.Goals as goal

pub parts_of-requires : goal.parts_of-requires
parts_of-requires c =
    let light : weight_of (path_group_of c.in-Some.paths) ≤ 16_000 =
    All-first (λ paths. weight_of (path_group_of paths) ≤ 16_000) c.in-Some.paths (into_iter_items c.next.new.self)
    (subst (All (λ paths. weight_of (path_group_of paths) ≤ 16_000)) c.in-Some.ensures.steps.0 c.loop-paths.invariant.light) in
    rw c.deref.ensures.value (omega (arith, light, weight_of-read c.in-Some.paths.items))

pub loop-paths-preserved : goal.loop-paths-preserved
loop-paths-preserved c =
    let held : PathGroup = record { paths = c.in-Some.paths; parts = c.in_ok-parts.parts } in
    let holds : HoldsParts held = subst (λ paths. AreParts (map path_of paths) c.in_ok-parts.parts.items) c.deref.ensures.value c.in_ok-parts.ensures in
    record {
      together =
          ap (λ items. map path_group_held items ++ map path_group_of (into_iter_items c.next.new.self)) c.in_ok-push.ensures.items
          ∙ together-push path_group_held path_group_of c.loop-paths.held.items (record { paths = c.in-Some.paths; parts = c.in_ok-parts.parts }) c.in-Some.paths (into_iter_items c.next.new.self) c.args.places.items refl
          (subst (λ rest. map path_group_held c.loop-paths.held.items ++ map path_group_of rest ≡ map path_group_of c.args.places.items) c.in-Some.ensures.steps.0 c.loop-paths.invariant.together);
      parts = subst (All HoldsParts) (sym c.in_ok-push.ensures.items) (All-push HoldsParts c.loop-paths.held.items held c.loop-paths.invariant.parts holds);
      light =
          All-later (λ paths. weight_of (path_group_of paths) ≤ 16_000) c.in-Some.paths (into_iter_items c.next.new.self)
          (subst (All (λ paths. weight_of (path_group_of paths) ≤ 16_000)) c.in-Some.ensures.steps.0 c.loop-paths.invariant.light);
    }
