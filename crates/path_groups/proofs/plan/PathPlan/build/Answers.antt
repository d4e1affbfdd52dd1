use Rattle.std.proofs.Common.{◌≡◌, ◌∙◌, ◌++◌, sym, ap, ap₂, subst, map, arith, None, append-nil, List, Option, [], rules}
use Rattle.std.specs.Prelude.{All}
use Rattle.std.specs.Vec.Iter.{into_iter_items}
use Rattle.std.proofs.lemmas.Grind.{common_steps}
use Rattle.std.proofs.lemmas.List.{length-map}
use Rattle.std.proofs.lemmas.List.Elements.{All-push}
use Rattle.path_groups.specs.Plan.{IsPlan, IsBuiltOn}
use Rattle.wan_topology.specs.Network.{Network}
use Rattle.path_groups.specs.declared.fault.PathFault.{PathFault}
use Rattle.bwe_specs.specs.declared.given.GroupSpec.{GroupSpec}
use Rattle.bwe_specs.specs.Given.{groups_of, group_of, path_groups_of}
use Rattle.path_groups.specs.Held.{path_groups_held, plan_held, HoldsParts, AllHoldParts}
use Rattle.path_groups.specs.Faults.{plan_fault}
use Rattle.path_groups.proofs.Sound.{IsSoundGroup, plan-sound}
use Rattle.path_groups.proofs.Plans.{IsPlan-sound, IsBuiltOn-sound, light-given, All-first, All-later, together-push}
use Rattle.path_groups.proofs.plan.PathPlan.build.Goals as goal

-- groups that were looked at and have no fault are sound
sound : (network : Network) (groups looked_at : List GroupSpec) → looked_at ≡ groups → (found : Option PathFault) → found ≡ plan_fault network (groups_of looked_at) → found ≡ None → All (IsSoundGroup network) (groups_of groups)
sound network groups looked_at same found is none = plan-sound network (groups_of groups) (ap (λ specs. plan_fault network (groups_of specs)) (sym same) ∙ sym is ∙ none)

pub loop-group-init : goal.loop-group-init
loop-group-init c =
    let given : into_iter_items c.into_iter-group-iterator.result ≡ c.args.groups.items = search rules in
    let none : c.in_ok-held.held.items ≡ [] = c.in_ok-held.ensures.items in
    record {
      together = ap₂ (λ held rest. map path_groups_held held ++ path_groups_of (groups_of rest)) none given;
      parts = subst AllHoldParts (sym none) (λ k d lt. absurd (omega arith));
      sound = subst (λ rest. All (IsSoundGroup c.args.topology.now) (groups_of rest)) (sym given) (sound c.args.topology.now c.args.groups.items c.deref.result.now c.deref.ensures.value c.first_fault.result c.first_fault.ensures c.in_default.is);
    }

pub path_groups-requires : goal.path_groups-requires
path_groups-requires c =
    light-given c.args.topology.now c.in-Some-group.group
    (All-first (IsSoundGroup c.args.topology.now) (group_of c.in-Some-group.group) (groups_of (into_iter_items c.next.new.self))
    (subst (λ rest. All (IsSoundGroup c.args.topology.now) (groups_of rest)) c.in-Some-group.ensures.steps.0 c.loop-group.invariant.sound))

pub loop-group-preserved : goal.loop-group-preserved
loop-group-preserved c =
    record {
      together =
          ap (λ items. map path_groups_held items ++ path_groups_of (groups_of (into_iter_items c.next.new.self))) c.in_ok-push.ensures.items
          ∙ together-push path_groups_held (λ group. group.path_groups) c.loop-group.held.items c.in_ok-path_groups.field-0 (group_of c.in-Some-group.group) (groups_of (into_iter_items c.next.new.self)) (groups_of c.args.groups.items) c.in_ok-path_groups.ensures.held
          (subst (λ rest. map path_groups_held c.loop-group.held.items ++ path_groups_of (groups_of rest) ≡ path_groups_of (groups_of c.args.groups.items)) c.in-Some-group.ensures.steps.0 c.loop-group.invariant.together);
      parts = subst AllHoldParts (sym c.in_ok-push.ensures.items) (All-push (λ path_groups. All HoldsParts path_groups.items) c.loop-group.held.items c.in_ok-path_groups.field-0 c.loop-group.invariant.parts c.in_ok-path_groups.ensures.parts);
      sound =
          All-later (IsSoundGroup c.args.topology.now) (group_of c.in-Some-group.group) (groups_of (into_iter_items c.next.new.self))
          (subst (λ rest. All (IsSoundGroup c.args.topology.now) (groups_of rest)) c.in-Some-group.ensures.steps.0 c.loop-group.invariant.sound);
    }

-- every group is held
all_held : (c : goal.After-drop-group-iterator-2) → plan_held c.loop-group.held.items ≡ path_groups_of (groups_of c.args.groups.items)
all_held c =
    let empty : into_iter_items c.loop-group.group-iterator ≡ [] = grind (arith, common_steps, c.in-None.ensures.steps) in
    sym (append-nil (plan_held c.loop-group.held.items)) ∙ subst (λ rest. plan_held c.loop-group.held.items ++ path_groups_of (groups_of rest) ≡ path_groups_of (groups_of c.args.groups.items)) empty c.loop-group.invariant.together

pub invariant_of-result : goal.invariant_of-result
invariant_of-result c =
    (subst IsPlan (sym (all_held c)) (IsPlan-sound c.args.topology.now (groups_of c.args.groups.items) (sound c.args.topology.now c.args.groups.items c.deref.result.now c.deref.ensures.value c.first_fault.result c.first_fault.ensures c.in_default.is) (omega (arith, c.requires.few, c.args.groups.ok.0, length-map c.args.groups.items group_of))), c.loop-group.invariant.parts)

pub returns-clause-built_on : goal.returns-clause-built_on
returns-clause-built_on c =
    subst (IsBuiltOn c.args.topology.now) (sym (all_held c)) (IsBuiltOn-sound c.args.topology.now (groups_of c.args.groups.items) (sound c.args.topology.now c.args.groups.items c.deref.result.now c.deref.ensures.value c.first_fault.result c.first_fault.ensures c.in_default.is) c.requires.in_range)
