use Rattle.std.proofs.Common.{◌≡◌, ℕ, ◌<◌, true, List, [], Some, sym, ◌∙◌, subst, slice_index_or, arith}
use Rattle.bwe_specs.specs.declared.network.Closing.{Closing}
use Rattle.bwe_specs.specs.Filling.{Wan, closed_links, current_path_group_of}
use Rattle.bwe_specs.specs.Paths.{path_group_at, path_group_count, uses}
use Rattle.bwe_specs.proofs.Loads.{current-open}
use Rattle.link_front.specs.Front.{wan_in, closings_in}
use Rattle.closing_walk.proofs.ends.clear_group.Goals as goal

pub clear_parts-requires-clause-place : goal.clear_parts-requires-clause-place
clear_parts-requires-clause-place g c =
    let wan : Wan = wan_in g.V.GroupValues.meaning c.args.front.now in
    let closings : List Closing = closings_in c.args.front.now in
    let place : ℕ = c.in-Some.place in
    let grows : current_path_group_of wan closings c.args.group ≡ Some place = c.in-Some.ensures.0 in
    subst (λ groups. place < path_group_count groups c.args.group) (sym (c.plan.ensures ∙ c.requires.front.listed)) (current-open (slice_index_or wan.groups c.args.group []) (closed_links closings) place grows).0

pub clear_parts-requires-clause-links : goal.clear_parts-requires-clause-links
clear_parts-requires-clause-links g c = λ link used.
    let wan : Wan = wan_in g.V.GroupValues.meaning c.args.front.now in
    let place : ℕ = c.in-Some.place in
    let growth = c.requires.front.growth in
    let there : uses (path_group_at wan.groups c.args.group place) link ≡ true = subst (λ groups. uses (path_group_at groups c.args.group place) link ≡ true) (c.plan.ensures ∙ c.requires.front.listed) used in
    omega (arith, growth.summed.links c.args.group place link there, growth.links, c.requires.each)
