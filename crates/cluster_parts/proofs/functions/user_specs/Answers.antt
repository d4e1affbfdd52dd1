use Rattle.std.proofs.Common.{arith, refl}
use Rattle.raw_document.specs.Raw.{user_view}
use Rattle.cluster_parts.specs.Functions.{refused_in_user}
use Rattle.cluster_parts.specs.TreeParts.{user_part}
use Rattle.tree_spec.specs.Asked.{idle_user}
use Rattle.cluster_parts.proofs.Buildings.{building_later, building_fails, building_whole}
use Rattle.cluster_parts.proofs.functions.user_specs.Goals as goal

pub loop-place-init : goal.loop-place-init
loop-place-init c = record { none = refl; parts = rw c.in_ok-specs.ensures.items refl }

pub returns-in-Err : goal.returns-in-Err
returns-in-Err c = building_fails user_view idle_user (refused_in_user c.args.top) (user_part c.args.top) c.args.users.now c.loop-place.place c.index-users-place.result c.loop-place.specs.items c.in-Err.error c.under.result (omega arith) c.index-users-place.is c.in-Err.ensures c.under.ensures c.loop-place.invariant

pub loop-place-preserved : goal.loop-place-preserved
loop-place-preserved c = rw c.in_ok-push-in-Ok.ensures.items (building_later user_view idle_user (refused_in_user c.args.top) (user_part c.args.top) c.args.users.now c.loop-place.place c.index-users-place.result c.loop-place.specs.items c.in-Ok.spec (omega arith) c.index-users-place.is c.in-Ok.ensures c.loop-place.invariant)

pub returns : goal.returns
returns c = building_whole user_view idle_user (refused_in_user c.args.top) (user_part c.args.top) c.args.users.now c.loop-place.place c.loop-place.specs (omega arith) c.loop-place.invariant
