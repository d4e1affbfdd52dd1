-- What amounts are under closings whose shares are in order.
use Rattle.std.proofs.Common.{◌≡◌, ℕ, ◌-◌, ◌≤◌, List, [], ◌∷◌, length, Option, Some, None, refl, arith, le_refl, le_trans}
use Rattle.bwe_specs.specs.declared.network.Closing.{Closing}
use Rattle.bwe_specs.specs.Bounded.{sum_below}
use Rattle.bwe_specs.specs.Paths.{path_group_count}
use Rattle.bwe_specs.specs.Filling.{Wan, current_path_group_of, growth, group_amount}
use Rattle.bwe_specs.specs.RightClosings.{last_share, amounts_at, AreRight}
use Rattle.bwe_specs.specs.Values.{NeverFalls}
use Rattle.bwe_specs.proofs.Bounds.{sum_below-add, sum_below-mono}
use Rattle.bwe_specs.proofs.Growth.{value-mono}
use Rattle.bwe_specs.proofs.StopShares.{grows-moving, grows-stopped}
use Rattle.bwe_specs.proofs.Totals.{total}
use Rattle.mpfa_fill.specs.Growth.{AreInOrder}

grows-le : (wan : Wan) (closings : List Closing) (from to group : ℕ) → sum_below (path_group_count wan.groups group) (growth wan closings from to group) ≤ wan.value group to - wan.value group from
grows-le wan closings from to group = go (current_path_group_of wan closings group) refl where
  go : (o : Option ℕ) → current_path_group_of wan closings group ≡ o → sum_below (path_group_count wan.groups group) (growth wan closings from to group) ≤ wan.value group to - wan.value group from
  go (Some q) e = omega (arith, grows-moving wan closings from to group q e)
  go None e = omega (arith, grows-stopped wan closings from to group e)

-- right closings are in order
pub right-order : (wan : Wan) (closings : List Closing) → AreRight wan closings → AreInOrder wan closings
right-order wan [] right = tt
right-order wan (closing ∷ earlier) right = (right-order wan earlier right.0, right.1.share_keeps, right.1.below_top)

pub order-le : (wan : Wan) (closings : List Closing) → AreInOrder wan closings → last_share closings ≤ wan.top
order-le wan [] order = omega arith
order-le wan (closing ∷ earlier) order = omega (arith, order.2)

-- a group has at most its value at the share
pub group-le : (wan : Wan) → NeverFalls wan → (group : ℕ) (closings : List Closing) (s : ℕ) → AreInOrder wan closings → last_share closings ≤ s → s ≤ wan.top → group_amount wan (amounts_at wan closings s) group ≤ wan.value group s
unfolding amounts_at
group-le wan never group [] s order last within = omega (arith, grows-le wan [] 0 s group)
group-le wan never group (c ∷ earlier) s order last within =
    omega (
      arith,
      sum_below-add (path_group_count wan.groups group) (amounts_at wan earlier c.share group) (growth wan (c ∷ earlier) c.share s group),
      group-le wan never group earlier c.share order.0 order.1 (omega (arith, order.2)),
      grows-le wan (c ∷ earlier) c.share s group,
      value-mono wan never group c.share s last within,
    )

pub all-le : (wan : Wan) → NeverFalls wan → (closings : List Closing) (s : ℕ) → AreInOrder wan closings → last_share closings ≤ s → s ≤ wan.top → total wan (amounts_at wan closings s) ≤ sum_below (length wan.groups) (λ group. wan.value group wan.top)
all-le wan never closings s order last within =
    sum_below-mono (length wan.groups) _ _ (λ group lt. le_trans (group-le wan never group closings s order last within) (value-mono wan never group s wan.top within (le_refl wan.top)))
