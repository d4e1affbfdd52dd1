use Rattle.std.proofs.Common.{◌≡◌, ℕ, ◌<◌, ◌-◌, ◌∙◌, length, map, ap, arith}
use Rattle.std.specs.List.{range_with_len}
use Rattle.std.proofs.lemmas.Slice.Zip.{AllZip-map}
use Rattle.rayon.specs.Numbers.{nat_range}
use Rattle.rayon.proofs.ToStd.{nat_range-All}
use Rattle.policy_tree.specs.Trees.{value_in}
use Rattle.parallel_values.proofs.values_at.Goals as goal

pub collect-requires-clause-ready : goal.collect-requires-clause-ready
collect-requires-clause-ready g c κs within =
    let ends = c.into_par_iter.ensures in
    let groups = length c.args.tree.now.clusters in
    let inside = nat_range-All (λ group. group < groups) 0 groups (λ group low high. high) in
    rw (c.map.ensures.base, c.map.ensures.f, c.with_min_len.ensures.base, ends.0, ends.1, c.groups.ensures) (λ k d lt. (inside k d lt, λ y e. tt))

pub returns : goal.returns
returns g c =
    let ends = c.into_par_iter.ensures in
    let groups = length c.args.tree.now.clusters in
    let whole : groups - 0 ≡ groups = omega arith in
    let value = λ (group : ℕ). value_in c.args.tree.now group c.args.share in
    let given = c.in_ok-values.ensures in
    let chain = rw (c.map.ensures.base, c.map.ensures.f, c.with_min_len.ensures.base) at given.1 in
    let places = chain.1 ∙ (λ i. nat_range (ends.0 i) ((ends.1 ∙ c.groups.ensures) i)) ∙ ap (range_with_len 0) whole in
    given.2 ∙ AllZip-map value chain.0 given.0 chain.2 ∙ ap (map value) places
