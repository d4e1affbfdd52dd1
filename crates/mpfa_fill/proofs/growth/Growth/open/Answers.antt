use Rattle.std.proofs.Common.{ℕ, sym, ◌∙◌, ap, subst, arith, length, reverse, List, [], get_or, slice_index_or}
use Rattle.std.proofs.lemmas.List.FromFn.{length-map-range_with_len, get_or-map-range_with_len}
use Rattle.bwe_specs.specs.declared.network.Closing.{Closing}
use Rattle.bwe_specs.specs.Filling.{Wan}
use Rattle.bwe_specs.specs.Values.{NeverFalls}
use Rattle.bwe_specs.specs.Paths.{current_path_group}
use Rattle.link_sums.specs.Sums.{amount_at}
use Rattle.mpfa_fill.specs.declared.standing.Standing.{Standing}
use Rattle.mpfa_fill.specs.declared.standing.Standing.TheVariants.{Stopped}
use Rattle.mpfa_fill.specs.GroupValues.{wan_of}
use Rattle.mpfa_fill.specs.Standing.{standing_of}
use Rattle.mpfa_fill.proofs.MomentLemmas.{never_falls}
use Rattle.mpfa_fill.specs.Growth.{IsGrowthOf, IsHeld}
use Rattle.mpfa_fill.proofs.Growths.{held-first, elsewhere-first}
use Rattle.mpfa_fill.proofs.growth.Growth.open.Goals as goal

pub returns-clause-growth : goal.returns-clause-growth
returns-clause-growth g c =
    let values = g.V.GroupValues.meaning c.args.values.now in
    let wan : Wan = wan_of values c.args.plan.now c.args.topology.now.capacities in
    let never : NeverFalls wan = never_falls _ _ _ c.requires.values in
    let standing : ℕ → Standing = λ group. standing_of (current_path_group (slice_index_or c.args.plan.now group []) []) 0 0 in
    let made = c.in_ok-standings.ensures.standings in
    let added : ℕ → ℕ → ℕ = amount_at c.in_ok-sums.sums.amounts in
    subst (λ (cs : List Closing). IsGrowthOf values wan cs c.in_ok-standings.standings.items c.in_ok-sums.sums) (sym (ap reverse c.in_ok-closings.ensures))
    (record {
      known = c.requires.values;
      count = c.requires.groups;
      order = tt;
      summed = c.in_ok-sums.ensures.summed;
      links = c.in_ok-sums.ensures.links;
      elsewhere = elsewhere-first wan added c.in_ok-sums.ensures.none;
      each_group = ap length made ∙ length-map-range_with_len standing 0 (length c.args.plan.now);
      each = λ group lt. subst (IsHeld wan [] added group)
          (sym (ap (λ (items : List Standing). get_or items group (Stopped 0)) made ∙ get_or-map-range_with_len standing 0 (length c.args.plan.now) group group (Stopped 0) lt (omega arith)))
          (held-first wan never added c.in_ok-sums.ensures.none group (c.requires.values.starts group) (c.in_ok-standings.ensures.plan.some_place group lt));
    })
