use Rattle.std.proofs.Common.{◌≡◌, ℕ, ◌+◌, ◌<◌, ◌≤◌, true, List, [], Some, sym, ◌∙◌, subst, slice_index, slice_index_or, arith}
use Rattle.bwe_specs.specs.declared.network.Closing.{Closing}
use Rattle.bwe_specs.specs.Filling.{Wan, closed_links, current_path_group_of}
use Rattle.bwe_specs.specs.Paths.{path_group_at, path_group_count, uses, load_on}
use Rattle.bwe_specs.proofs.Loads.{current-open}
use Rattle.mpfa_fill.proofs.MomentLemmas.{never_falls}
use Rattle.link_front.specs.Front.{wan_in, closings_in}
use Rattle.link_front.proofs.GroupMoves.{keeps-path_group}
use Rattle.closing_walk.specs.Walk.{closing_at}
use Rattle.closing_walk.proofs.EndLoads.{within-kept, within-moved}
use Rattle.closing_walk.proofs.ends.add_group.Goals as goal

pub returns-in_default-clause-within : goal.returns-in_default-clause-within
returns-in_default-clause-within g c =
    let wan : Wan = wan_in g.V.GroupValues.meaning c.args.front.now in
    let closings : List Closing = closings_in c.args.front.now in
    let list : List Closing = c.args.closings.now in
    let r = c.requires in
    within-kept wan (never_falls _ _ _ r.front.growth.known) closings list c.args.at r.order r.closings r.rise r.below r.later c.args.extra.now c.args.group
    (keeps-path_group wan closings (closing_at list c.args.at) c.args.group c.in_default.ensures) r.within

pub add_parts-requires-clause-place : goal.add_parts-requires-clause-place
add_parts-requires-clause-place g c =
    let wan : Wan = wan_in g.V.GroupValues.meaning c.args.front.now in
    let closings : List Closing = closings_in c.args.front.now in
    let place : ℕ = c.in-Some.place in
    let grows : current_path_group_of wan closings c.args.group ≡ Some place = c.in-Some.ensures.0 in
    subst (λ groups. place < path_group_count groups c.args.group) (sym (c.plan.ensures ∙ c.requires.front.listed)) (current-open (slice_index_or wan.groups c.args.group []) (closed_links closings) place grows).0

pub add_parts-requires-clause-links : goal.add_parts-requires-clause-links
add_parts-requires-clause-links g c = λ link used.
    let wan : Wan = wan_in g.V.GroupValues.meaning c.args.front.now in
    let place : ℕ = c.in-Some.place in
    let growth = c.requires.front.growth in
    let there : uses (path_group_at wan.groups c.args.group place) link ≡ true = subst (λ groups. uses (path_group_at groups c.args.group place) link ≡ true) (c.plan.ensures ∙ c.requires.front.listed) used in
    omega (arith, growth.summed.links c.args.group place link there, growth.links, c.requires.each)

pub returns-clause-within : goal.returns-clause-within
returns-clause-within g c =
    let wan : Wan = wan_in g.V.GroupValues.meaning c.args.front.now in
    let closings : List Closing = closings_in c.args.front.now in
    let list : List Closing = c.args.closings.now in
    let r = c.requires in
    let place : ℕ = c.in-Some.place in
    let more : ℕ = c.rise_of-more.result in
    let grows : current_path_group_of wan closings c.args.group ≡ Some place = c.in-Some.ensures.0 in
    within-moved wan (never_falls _ _ _ r.front.growth.known) closings list c.args.at r.order r.closings r.rise r.below r.later c.args.extra.now c.add_parts.new.extra c.args.group place more grows c.rise_of-more.ensures.rise c.add_parts.ensures.grown
    (subst (λ groups. (link : ℕ) → uses (path_group_at groups c.args.group place) link ≡ true → slice_index c.add_parts.new.extra link < 18446744073709551615
    → slice_index c.args.extra.now link + load_on (path_group_at groups c.args.group place) link more ≤ slice_index c.add_parts.new.extra link)
    (c.plan.ensures ∙ r.front.listed) c.add_parts.ensures.added)
    r.within
