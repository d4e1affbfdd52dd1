use Rattle.std.proofs.Common.{[], length, replicate, sym, ◌∙◌, ap, arith, subst}
use Rattle.std.specs.Prelude.{IfSome}
use Rattle.bwe_specs.specs.Filling.{Wan}
use Rattle.link_front.specs.Front.{wan_in, closings_in}
use Rattle.link_front.specs.Moves.{links_over_all}
use Rattle.closing_walk.specs.Known.{AreKnownTwice}
use Rattle.closing_walk.specs.Ends.{AreEndLoads}
use Rattle.closing_walk.proofs.Fresh.{fresh-twice}
use Rattle.closing_walk.proofs.Kept.{walked-zeros}
use Rattle.link_front.proofs.GroupMoves.{ahead-few}
use Rattle.closing_walk.proofs.walk.seen_listed.Goals as goal

pub end_loads-requires-clause-known : goal.end_loads-requires-clause-known
end_loads-requires-clause-known g c =
    fresh-twice (wan_in g.V.GroupValues.meaning c.in_ok-ended.ended) c.in_ok-ended.ensures.front.growth.known.starts _
    (c.groups.ensures.count ∙ ap (λ (wan : Wan). length wan.groups) (sym c.in_ok-ended.ensures.wan)) c.in_ok-known.known c.in_ok-known.ensures

pub is_walked-requires-clause-known : goal.is_walked-requires-clause-known
is_walked-requires-clause-known g c =
    subst (λ wan. AreKnownTwice wan c.end_loads.new.known) (c.in_ok-ended.ensures.wan ∙ sym c.in_ok-front.ensures.wan) c.in_ok-ends.ensures.known

pub is_walked-requires-clause-ends : goal.is_walked-requires-clause-ends
is_walked-requires-clause-ends g c =
    subst (λ wan. AreEndLoads wan c.args.closings.now c.in-Some.ends) (c.in_ok-ended.ensures.wan ∙ sym c.in_ok-front.ensures.wan)
    (subst (λ found. IfSome found (AreEndLoads (wan_in g.V.GroupValues.meaning c.in_ok-ended.ended) c.args.closings.now)) c.in-Some.is c.in_ok-ends.ensures.ends)

pub is_walked-requires-clause-walked : goal.is_walked-requires-clause-walked
is_walked-requires-clause-walked g c =
    walked-zeros (wan_in g.V.GroupValues.meaning c.in_ok-front.front) (closings_in c.in_ok-front.front) c.args.closings.now _ c.in_ok-front.ensures.closings
    (c.deref_mut.ensures.value ∙ c.in_ok-froms.ensures.items_if_clones_equal (λ y h. h) ∙ ap (λ n. replicate n 0) c.links.ensures)

pub returns-clause-looks : goal.returns-clause-looks
returns-clause-looks g c =
    omega (
      arith,
      c.is_walked.ensures.ticks,
      c.in_ok-ends.ensures.ticks,
      ahead-few (wan_in g.V.GroupValues.meaning c.in_ok-front.front) [],
      ap (λ (wan : Wan). length wan.capacities) c.in_ok-ended.ensures.wan,
      ap (λ (wan : Wan). links_over_all (length wan.capacities) wan.groups) c.in_ok-front.ensures.wan,
    )

pub returns-in_err-is_walked-clause-looks : goal.returns-in_err-is_walked-clause-looks
returns-in_err-is_walked-clause-looks g c =
    omega (
      arith,
      c.is_walked.ensures.ticks,
      c.in_ok-ends.ensures.ticks,
      ahead-few (wan_in g.V.GroupValues.meaning c.in_ok-front.front) [],
      ap (λ (wan : Wan). length wan.capacities) c.in_ok-ended.ensures.wan,
      ap (λ (wan : Wan). links_over_all (length wan.capacities) wan.groups) c.in_ok-front.ensures.wan,
    )
