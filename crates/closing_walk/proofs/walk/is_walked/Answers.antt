use Rattle.std.proofs.Common.{◌≡◌, ℕ, ◌+◌, ◌<◌, false, List, ◌∷◌, length, reverse, take, sym, ◌∙◌, ap, arith, subst, refl, add-one}
use Rattle.std.proofs.lemmas.List.{take_all, take_more}
use Rattle.bwe_specs.specs.declared.network.Closing.{Closing}
use Rattle.bwe_specs.specs.Filling.{Wan}
use Rattle.bwe_specs.specs.RightClosings.{AreRight, AreRightToTop}
use Rattle.mpfa_fill.specs.LastFit.{is_over_at}
use Rattle.mpfa_fill.proofs.MomentLemmas.{never_falls, reverse_push}
use Rattle.mpfa_fill.proofs.Order.{order-le}
use Rattle.link_front.specs.Front.{wan_in, closings_in}
use Rattle.closing_walk.specs.Ends.{AreEndLoads}
use Rattle.closing_walk.specs.Known.{AreKnownTwice}
use Rattle.closing_walk.specs.Walk.{closing_at, IsWalked}
use Rattle.link_front.specs.Moves.{moves_ahead}
use Rattle.closing_walk.proofs.Kept.{walked-right}
use Rattle.closing_walk.proofs.Rights.{right-taken}
use Rattle.closing_walk.proofs.walk.is_walked.Goals as goal

pub loop-at-init : goal.loop-at-init
loop-at-init g c =
    record {
      front = c.requires.front;
      wan = refl;
      known = c.requires.known;
      ends = c.requires.ends;
      closings = c.requires.none;
      walked = c.requires.walked;
      ticks = omega (arith, ap (moves_ahead (wan_in g.V.GroupValues.meaning c.args.front.now)) c.requires.none);
    }

pub passes-requires-clause-top : goal.passes-requires-clause-top
passes-requires-clause-top g c = c.requires.top ∙ ap (λ (wan : Wan). wan.top) (sym c.loop-at.invariant.wan)

pub passes-requires-clause-known : goal.passes-requires-clause-known
passes-requires-clause-known g c = subst (λ wan. AreKnownTwice wan c.loop-at.known) (sym c.loop-at.invariant.wan) c.loop-at.invariant.known

pub loop-at-preserved : goal.loop-at-preserved
loop-at-preserved g c =
    let i = c.loop-at.invariant in
    let e = c.in_ok-passes.ensures in
    let seen = c.if-not-branch.false in
    let at : ℕ = c.loop-at.at in
    let list : List Closing = c.args.closings.now in
    let closing : Closing = closing_at list at in
    let closings : closings_in c.passes.new.front ≡ closing ∷ closings_in c.loop-at.front = e.closings seen in
    record {
      front = e.front;
      wan = e.wan ∙ i.wan;
      known = subst (λ wan. AreKnownTwice wan c.passes.new.known) i.wan e.known;
      ends = subst (λ wan. AreEndLoads wan list c.passes.new.ends) i.wan (e.ends seen);
      closings = closings ∙ ap (λ cs. closing ∷ cs) i.closings ∙ sym (reverse_push (take at list) closing) ∙ ap reverse (sym (take_more list at (record { link = 0; share = 0 }) c.loop-at-test.true));
      walked = subst (λ wan. IsWalked wan (closings_in c.passes.new.front) list (at + 1) c.passes.new.froms) (sym e.wan)
          (subst (λ cs. IsWalked (wan_in g.V.GroupValues.meaning c.loop-at.front) cs list (at + 1) c.passes.new.froms) (sym closings)
          (subst (λ n. IsWalked (wan_in g.V.GroupValues.meaning c.loop-at.front) (closing ∷ closings_in c.loop-at.front) list n c.passes.new.froms) (sym (add-one at)) (e.walked seen)));
      ticks = omega (
        arith,
        i.ticks,
        e.ticks_seen seen,
        ap (λ (wan : Wan). moves_ahead wan (closings_in c.passes.new.front)) e.wan,
        ap (moves_ahead (wan_in g.V.GroupValues.meaning c.loop-at.front)) closings,
      );
    }

pub passes-requires-clause-ends : goal.passes-requires-clause-ends
passes-requires-clause-ends g c = subst (λ wan. AreEndLoads wan c.args.closings.now c.loop-at.ends) (sym c.loop-at.invariant.wan) c.loop-at.invariant.ends

pub returns-clause-right : goal.returns-clause-right
returns-clause-right g c = λ _.
    let i = c.loop-at.invariant in
    let wan : Wan = wan_in g.V.GroupValues.meaning c.loop-at.front in
    let closings : List Closing = closings_in c.loop-at.front in
    let list : List Closing = c.args.closings.now in
    let all : closings ≡ reverse list = i.closings ∙ ap reverse (take_all c.loop-at.at list c.loop-at-test.false) in
    let ends : AreEndLoads wan list c.loop-at.ends = subst (λ wan. AreEndLoads wan list c.loop-at.ends) (sym i.wan) i.ends in
    let right : AreRightToTop wan closings =
    walked-right wan (never_falls _ _ _ i.front.growth.known) closings list c.loop-at.at c.loop-at.froms i.walked (order-le wan closings i.front.growth.order)
    (subst (λ cs. (link : ℕ) → link < length wan.capacities → is_over_at wan cs wan.top link ≡ false) (sym all) ends.fit) in
    subst (λ wan. AreRightToTop wan (reverse list)) i.wan (subst (AreRightToTop wan) all right)

pub returns-then-not-branch-clause-wrong : goal.returns-then-not-branch-clause-wrong
returns-then-not-branch-clause-wrong g c = λ _ right.
    let i = c.loop-at.invariant in
    let at : ℕ = c.loop-at.at in
    let list : List Closing = c.args.closings.now in
    let closing : Closing = closing_at list at in
    let next : reverse (take (at + 1) list) ≡ closing ∷ closings_in c.loop-at.front =
    ap reverse (take_more list at (record { link = 0; share = 0 }) c.loop-at-test.true) ∙ reverse_push (take at list) closing ∙ ap (λ cs. closing ∷ cs) (sym i.closings) in
    c.in_ok-passes.ensures.wrong c.if-not-branch.true
    (subst (λ wan. AreRight wan (closing ∷ closings_in c.loop-at.front)) (sym i.wan)
    (subst (AreRight (wan_in g.V.GroupValues.meaning c.args.front.now)) next
    (right-taken (wan_in g.V.GroupValues.meaning c.args.front.now) list (at + 1) right.0)))
