use Rattle.std.proofs.Common.{◌≡◌, ◌<◌, ◌∙◌, List, ℕ, sym, ap, arith, length}
use Rattle.std.proofs.lemmas.Grind.{get_or_default_zero}
use Rattle.link_sums.specs.Sums.{IsLowestOver}
use Rattle.link_sums.proofs.Over.{lowest_link_over, over-lowest, over-none, over-summed}
use Rattle.link_sums.proofs.sums.LinkSums.first_over.Goals as goal

-- the link is over, and those before fit
pub returns-then-index-capacity-clause-of_plan : goal.returns-then-index-capacity-clause-of_plan
returns-then-index-capacity-clause-of_plan c = λ groups summed.
    let capacities : List ℕ = c.args.topology.now.capacities in
    let loads : List ℕ = c.self.inside.loads.items in
    let same : loads ≡ c.args.self.now.loads = ap (λ sums. sums.loads) c.self.view_is in
    let in_range : c.loop-link.link < length capacities = omega (arith, c.loop-link-test.true, c.links-link-end.ensures.count) in
    let read = get_or_default_zero loads c.loop-link.link c.index.result.now (omega (arith, in_range, ap length same, c.requires.same_links)) in
    let is : IsLowestOver capacities loads c.loop-link.link = record {
      in_range = in_range;
      over = omega (arith, c.if-index-capacity.true, c.capacity.ensures, c.index.ensures, read);
      lower_fit = c.loop-link.invariant;
    } in
    sym (over-lowest capacities loads c.loop-link.link is) ∙ ap (lowest_link_over capacities) same
    ∙ over-summed groups capacities c.args.self.now c.requires.same_links summed

-- every link fits
pub returns-clause-of_plan : goal.returns-clause-of_plan
returns-clause-of_plan c = λ groups summed.
    let capacities : List ℕ = c.args.topology.now.capacities in
    let same : c.self.inside.loads.items ≡ c.args.self.now.loads = ap (λ sums. sums.loads) c.self.view_is in
    sym (over-none capacities c.self.inside.loads.items (λ link lt. c.loop-link.invariant link (omega (arith, lt, c.loop-link-test.false, c.links-link-end.ensures.count))))
    ∙ ap (lowest_link_over capacities) same
    ∙ over-summed groups capacities c.args.self.now c.requires.same_links summed
