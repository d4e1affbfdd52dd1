use Rattle.std.proofs.Common.{◌≡◌, ℕ, ◌<◌, true, List, ◌∷◌, [], Some, None, refl, sym, ◌∙◌, arith, subst, slice_index_or}
use Rattle.bwe_specs.specs.declared.network.Closing.{Closing}
use Rattle.bwe_specs.specs.Filling.{Wan, closed_links, current_path_group_of}
use Rattle.bwe_specs.specs.Paths.{path_group_at, uses}
use Rattle.bwe_specs.proofs.Loads.{current-open}
use Rattle.link_front.specs.Front.{wan_in, closings_in}
use Rattle.closing_walk.specs.Walk.{closing_at, Settles, from_at}
use Rattle.link_front.proofs.GroupMoves.{keeps-path_group, moves-same, moves-leave, moves-on, moves-off}
use Rattle.closing_walk.proofs.Staying.{stays-off, stays-same}
use Rattle.closing_walk.proofs.Settling.{settles-then}
use Rattle.closing_walk.proofs.walk.settles_group.Goals as goal

pub returns-in_default-clause-off : goal.returns-in_default-clause-off
returns-in_default-clause-off g c = λ _ link le.
    let wan : Wan = wan_in g.V.GroupValues.meaning c.args.front.now in
    let earlier : List Closing = closings_in c.args.front.now in
    let closing : Closing = closing_at c.args.closings.now c.args.at in
    let group : ℕ = c.args.group in
    stays-same wan earlier c.args.closings.now c.args.at group link _ (keeps-path_group wan earlier closing group c.in_default.ensures)

pub returns-in_default-clause-ticks : goal.returns-in_default-clause-ticks
returns-in_default-clause-ticks g c =
    let wan : Wan = wan_in g.V.GroupValues.meaning c.args.front.now in
    let earlier : List Closing = closings_in c.args.front.now in
    let closing : Closing = closing_at c.args.closings.now c.args.at in
    let group : ℕ = c.args.group in
    omega (arith, moves-same wan earlier closing group (keeps-path_group wan earlier closing group c.in_default.ensures))

pub settles_links-requires-clause-place : goal.settles_links-requires-clause-place
settles_links-requires-clause-place g c =
    let wan : Wan = wan_in g.V.GroupValues.meaning c.args.front.now in
    let earlier : List Closing = closings_in c.args.front.now in
    let closing : Closing = closing_at c.args.closings.now c.args.at in
    let group : ℕ = c.args.group in
    let place : ℕ = c.in-Some.place in
    let grows : current_path_group_of wan earlier group ≡ Some place = c.in-Some.ensures.0 in
    let used : uses (path_group_at wan.groups group place) closing.link ≡ true = c.in-Some.ensures.1 in
    (current-open (slice_index_or wan.groups group []) (closed_links earlier) place grows).0

pub returns-in_err-settles_links-clause-ticks : goal.returns-in_err-settles_links-clause-ticks
returns-in_err-settles_links-clause-ticks g c =
    let wan : Wan = wan_in g.V.GroupValues.meaning c.args.front.now in
    let earlier : List Closing = closings_in c.args.front.now in
    let closing : Closing = closing_at c.args.closings.now c.args.at in
    let group : ℕ = c.args.group in
    let place : ℕ = c.in-Some.place in
    let grows : current_path_group_of wan earlier group ≡ Some place = c.in-Some.ensures.0 in
    let used : uses (path_group_at wan.groups group place) closing.link ≡ true = c.in-Some.ensures.1 in
    omega (arith, c.settles_links.ensures.ticks, moves-leave wan earlier closing group place grows used)

pub returns-then-not-branch-clause-ticks : goal.returns-then-not-branch-clause-ticks
returns-then-not-branch-clause-ticks g c =
    let wan : Wan = wan_in g.V.GroupValues.meaning c.args.front.now in
    let earlier : List Closing = closings_in c.args.front.now in
    let closing : Closing = closing_at c.args.closings.now c.args.at in
    let group : ℕ = c.args.group in
    let place : ℕ = c.in-Some.place in
    let grows : current_path_group_of wan earlier group ≡ Some place = c.in-Some.ensures.0 in
    let used : uses (path_group_at wan.groups group place) closing.link ≡ true = c.in-Some.ensures.1 in
    omega (arith, c.settles_links.ensures.ticks, moves-leave wan earlier closing group place grows used)

pub settles_links-requires-in-Some-next_place-clause-place :
    goal.settles_links-requires-in-Some-next_place-clause-place
settles_links-requires-in-Some-next_place-clause-place g c =
    let wan : Wan = wan_in g.V.GroupValues.meaning c.args.front.now in
    let earlier : List Closing = closings_in c.args.front.now in
    let closing : Closing = closing_at c.args.closings.now c.args.at in
    let group : ℕ = c.args.group in
    let place : ℕ = c.in-Some.place in
    let grows : current_path_group_of wan earlier group ≡ Some place = c.in-Some.ensures.0 in
    let used : uses (path_group_at wan.groups group place) closing.link ≡ true = c.in-Some.ensures.1 in
    let next_is : c.next_place.result ≡ current_path_group_of wan (closing ∷ earlier) group =
    c.next_place.ensures in
    let next : ℕ = c.in-Some-next_place.next in
    let comes : current_path_group_of wan (closing ∷ earlier) group ≡ Some next = sym next_is ∙ c.in-Some-next_place.is in
    (current-open (slice_index_or wan.groups group []) (closed_links (closing ∷ earlier)) next comes).0

pub settles_links-requires-in-Some-next_place-clause-owing :
    goal.settles_links-requires-in-Some-next_place-clause-owing
settles_links-requires-in-Some-next_place-clause-owing g c =
    let wan : Wan = wan_in g.V.GroupValues.meaning c.args.front.now in
    let earlier : List Closing = closings_in c.args.front.now in
    let closing : Closing = closing_at c.args.closings.now c.args.at in
    let group : ℕ = c.args.group in
    let place : ℕ = c.in-Some.place in
    let grows : current_path_group_of wan earlier group ≡ Some place = c.in-Some.ensures.0 in
    let used : uses (path_group_at wan.groups group place) closing.link ≡ true = c.in-Some.ensures.1 in
    let first : Settles wan earlier c.args.closings.now c.args.at c.args.froms.now c.settles_links.new.froms = c.in_ok-settles_links.ensures.settles c.if-not-branch.false in
    let left : (link : ℕ) → uses (path_group_at wan.groups group place) link ≡ true → c.args.at < from_at c.settles_links.new.froms link = c.in_ok-settles_links.ensures.settled c.if-not-branch.false refl in
    first.owing

pub returns-in_err-settles_links-in-Some-next_place-clause-ticks :
    goal.returns-in_err-settles_links-in-Some-next_place-clause-ticks
returns-in_err-settles_links-in-Some-next_place-clause-ticks g c =
    let wan : Wan = wan_in g.V.GroupValues.meaning c.args.front.now in
    let earlier : List Closing = closings_in c.args.front.now in
    let closing : Closing = closing_at c.args.closings.now c.args.at in
    let group : ℕ = c.args.group in
    let place : ℕ = c.in-Some.place in
    let grows : current_path_group_of wan earlier group ≡ Some place = c.in-Some.ensures.0 in
    let used : uses (path_group_at wan.groups group place) closing.link ≡ true = c.in-Some.ensures.1 in
    let next_is : c.next_place.result ≡ current_path_group_of wan (closing ∷ earlier) group =
    c.next_place.ensures in
    let next : ℕ = c.in-Some-next_place.next in
    let comes : current_path_group_of wan (closing ∷ earlier) group ≡ Some next = sym next_is ∙ c.in-Some-next_place.is in
    omega (arith, c.settles_links.ensures.ticks, c.settles_links-in-Some-next_place.ensures.ticks, moves-on wan earlier closing group place next grows used comes)

pub returns-in_ok-settles_links-in-Some-next_place-clause-settles :
    goal.returns-in_ok-settles_links-in-Some-next_place-clause-settles
returns-in_ok-settles_links-in-Some-next_place-clause-settles g c = λ fit.
    let wan : Wan = wan_in g.V.GroupValues.meaning c.args.front.now in
    let earlier : List Closing = closings_in c.args.front.now in
    let closing : Closing = closing_at c.args.closings.now c.args.at in
    let group : ℕ = c.args.group in
    let place : ℕ = c.in-Some.place in
    let grows : current_path_group_of wan earlier group ≡ Some place = c.in-Some.ensures.0 in
    let used : uses (path_group_at wan.groups group place) closing.link ≡ true = c.in-Some.ensures.1 in
    let first : Settles wan earlier c.args.closings.now c.args.at c.args.froms.now c.settles_links.new.froms = c.in_ok-settles_links.ensures.settles c.if-not-branch.false in
    let left : (link : ℕ) → uses (path_group_at wan.groups group place) link ≡ true → c.args.at < from_at c.settles_links.new.froms link = c.in_ok-settles_links.ensures.settled c.if-not-branch.false refl in
    settles-then wan earlier c.args.closings.now c.args.at c.args.froms.now c.settles_links.new.froms c.settles_links-in-Some-next_place.new.froms first (c.in_ok-settles_links-in-Some-next_place.ensures.settles fit)

pub returns-in_ok-settles_links-in-Some-next_place-clause-off :
    goal.returns-in_ok-settles_links-in-Some-next_place-clause-off
returns-in_ok-settles_links-in-Some-next_place-clause-off g c = λ fit link le.
    let wan : Wan = wan_in g.V.GroupValues.meaning c.args.front.now in
    let earlier : List Closing = closings_in c.args.front.now in
    let closing : Closing = closing_at c.args.closings.now c.args.at in
    let group : ℕ = c.args.group in
    let place : ℕ = c.in-Some.place in
    let grows : current_path_group_of wan earlier group ≡ Some place = c.in-Some.ensures.0 in
    let used : uses (path_group_at wan.groups group place) closing.link ≡ true = c.in-Some.ensures.1 in
    let next_is : c.next_place.result ≡ current_path_group_of wan (closing ∷ earlier) group =
    c.next_place.ensures in
    let next : ℕ = c.in-Some-next_place.next in
    let comes : current_path_group_of wan (closing ∷ earlier) group ≡ Some next = sym next_is ∙ c.in-Some-next_place.is in
    let first : Settles wan earlier c.args.closings.now c.args.at c.args.froms.now c.settles_links.new.froms = c.in_ok-settles_links.ensures.settles c.if-not-branch.false in
    let left : (link : ℕ) → uses (path_group_at wan.groups group place) link ≡ true → c.args.at < from_at c.settles_links.new.froms link = c.in_ok-settles_links.ensures.settled c.if-not-branch.false refl in
    let second : Settles wan earlier c.args.closings.now c.args.at c.settles_links.new.froms c.settles_links-in-Some-next_place.new.froms = c.in_ok-settles_links-in-Some-next_place.ensures.settles fit in
    let low = c.in_ok-settles_links-in-Some-next_place.ensures.low fit in
    stays-off wan earlier c.args.closings.now c.args.at group link _
    (λ p at_p used_p. let some : Some p ≡ Some place = sym at_p ∙ grows in
    let same : p ≡ place = cc in
    absurd (omega (arith, le, second.keeps link (left link (subst (λ k. uses (path_group_at wan.groups group k) link ≡ true) same used_p)))))
    (λ high p at_p used_p. let some : Some p ≡ Some next = sym at_p ∙ comes in
    let same : p ≡ next = cc in
    low link (subst (λ k. uses (path_group_at wan.groups group k) link ≡ true) same used_p) le high)

pub returns-in_ok-settles_links-in-Some-next_place-clause-ticks :
    goal.returns-in_ok-settles_links-in-Some-next_place-clause-ticks
returns-in_ok-settles_links-in-Some-next_place-clause-ticks g c =
    let wan : Wan = wan_in g.V.GroupValues.meaning c.args.front.now in
    let earlier : List Closing = closings_in c.args.front.now in
    let closing : Closing = closing_at c.args.closings.now c.args.at in
    let group : ℕ = c.args.group in
    let place : ℕ = c.in-Some.place in
    let grows : current_path_group_of wan earlier group ≡ Some place = c.in-Some.ensures.0 in
    let used : uses (path_group_at wan.groups group place) closing.link ≡ true = c.in-Some.ensures.1 in
    let next_is : c.next_place.result ≡ current_path_group_of wan (closing ∷ earlier) group =
    c.next_place.ensures in
    let next : ℕ = c.in-Some-next_place.next in
    let comes : current_path_group_of wan (closing ∷ earlier) group ≡ Some next = sym next_is ∙ c.in-Some-next_place.is in
    omega (arith, c.settles_links.ensures.ticks, c.settles_links-in-Some-next_place.ensures.ticks, moves-on wan earlier closing group place next grows used comes)

pub returns-in-None-clause-settles : goal.returns-in-None-clause-settles
returns-in-None-clause-settles g c = λ _.
    let wan : Wan = wan_in g.V.GroupValues.meaning c.args.front.now in
    let earlier : List Closing = closings_in c.args.front.now in
    let closing : Closing = closing_at c.args.closings.now c.args.at in
    let group : ℕ = c.args.group in
    let place : ℕ = c.in-Some.place in
    let grows : current_path_group_of wan earlier group ≡ Some place = c.in-Some.ensures.0 in
    let used : uses (path_group_at wan.groups group place) closing.link ≡ true = c.in-Some.ensures.1 in
    let first : Settles wan earlier c.args.closings.now c.args.at c.args.froms.now c.settles_links.new.froms = c.in_ok-settles_links.ensures.settles c.if-not-branch.false in
    let left : (link : ℕ) → uses (path_group_at wan.groups group place) link ≡ true → c.args.at < from_at c.settles_links.new.froms link = c.in_ok-settles_links.ensures.settled c.if-not-branch.false refl in
    first

pub returns-in-None-clause-off : goal.returns-in-None-clause-off
returns-in-None-clause-off g c = λ _ link le.
    let wan : Wan = wan_in g.V.GroupValues.meaning c.args.front.now in
    let earlier : List Closing = closings_in c.args.front.now in
    let closing : Closing = closing_at c.args.closings.now c.args.at in
    let group : ℕ = c.args.group in
    let place : ℕ = c.in-Some.place in
    let grows : current_path_group_of wan earlier group ≡ Some place = c.in-Some.ensures.0 in
    let used : uses (path_group_at wan.groups group place) closing.link ≡ true = c.in-Some.ensures.1 in
    let next_is : c.next_place.result ≡ current_path_group_of wan (closing ∷ earlier) group =
    c.next_place.ensures in
    let first : Settles wan earlier c.args.closings.now c.args.at c.args.froms.now c.settles_links.new.froms = c.in_ok-settles_links.ensures.settles c.if-not-branch.false in
    let left : (link : ℕ) → uses (path_group_at wan.groups group place) link ≡ true → c.args.at < from_at c.settles_links.new.froms link = c.in_ok-settles_links.ensures.settled c.if-not-branch.false refl in
    let none : current_path_group_of wan (closing ∷ earlier) group ≡ None = sym next_is ∙ c.in-None.is in
    stays-off wan earlier c.args.closings.now c.args.at group link _
    (λ p at_p used_p. let some : Some p ≡ Some place = sym at_p ∙ grows in
    let same : p ≡ place = cc in
    absurd (omega (arith, le, left link (subst (λ k. uses (path_group_at wan.groups group k) link ≡ true) same used_p))))
    (λ high p at_p used_p. let no : Some p ≡ None = sym at_p ∙ none in absurd (cc))

pub returns-in-None-clause-ticks : goal.returns-in-None-clause-ticks
returns-in-None-clause-ticks g c =
    let wan : Wan = wan_in g.V.GroupValues.meaning c.args.front.now in
    let earlier : List Closing = closings_in c.args.front.now in
    let closing : Closing = closing_at c.args.closings.now c.args.at in
    let group : ℕ = c.args.group in
    let place : ℕ = c.in-Some.place in
    let grows : current_path_group_of wan earlier group ≡ Some place = c.in-Some.ensures.0 in
    let used : uses (path_group_at wan.groups group place) closing.link ≡ true = c.in-Some.ensures.1 in
    let next_is : c.next_place.result ≡ current_path_group_of wan (closing ∷ earlier) group =
    c.next_place.ensures in
    let none : current_path_group_of wan (closing ∷ earlier) group ≡ None = sym next_is ∙ c.in-None.is in
    omega (arith, c.settles_links.ensures.ticks, moves-off wan earlier closing group place grows none)
