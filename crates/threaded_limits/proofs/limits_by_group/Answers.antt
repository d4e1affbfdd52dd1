use Rattle.std.proofs.Common.{◌≡◌, ◌<◌, ◌-◌, ◌∙◌, None, [], length, ap, arith}
use Rattle.std.specs.List.{range_with_len}
use Rattle.rayon.specs.Numbers.{nat_range}
use Rattle.rayon.proofs.ToStd.{nat_range-All}
use Rattle.bwe_specs.specs.Tree.{cluster_limits}
use Rattle.policy_tree.specs.Trees.{demand_in}
use Rattle.threaded_limits.proofs.Gathered.{made-by_number, ok-then}
use Rattle.threaded_limits.proofs.limits_by_group.Goals as goal

pub collect-requires-clause-ready : goal.collect-requires-clause-ready
collect-requires-clause-ready g c κs within =
    let ends = c.into_par_iter.ensures in
    let groups = length c.args.tree.now.clusters in
    let inside = nat_range-All (λ group. group < groups) 0 groups (λ group low high. high) in
    rw (c.map.ensures.base, c.map.ensures.f, c.with_min_len.ensures.base, ends.0, ends.1, c.groups.ensures) (λ k d lt.
    let in_tree = inside k d lt in
    ((in_tree, omega (arith, in_tree, c.requires.amounts), c.requires.within _ in_tree), λ y e. tt))

pub returns : goal.returns
returns g c =
    let tree = c.args.tree.now in
    let ends = c.into_par_iter.ensures in
    let groups = length tree.clusters in
    let whole : groups - 0 ≡ groups = omega arith in
    let given = c.in_ok-collect.ensures in
    let chain = rw (c.map.ensures.base, c.map.ensures.f, c.with_min_len.ensures.base) at given.1 in
    let places = chain.1 ∙ (λ i. nat_range (ends.0 i) ((ends.1 ∙ c.groups.ensures) i)) ∙ ap (range_with_len 0) whole in
    ok-then c.in_ok-collect.field-0 _ _ _ given.2 (λ lists made.
    made-by_number (record { configured = None; users = [] }) tree.clusters c.args.amounts.now c.requires.amounts
    _ (cluster_limits tree.top (demand_in tree)) chain.0 given.0 made.0 lists.items places made.1 made.2 chain.2)
