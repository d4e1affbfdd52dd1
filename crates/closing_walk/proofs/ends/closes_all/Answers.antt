use Rattle.std.proofs.Common.{◌≡◌, ℕ, ◌+◌, ◌<◌, ◌≤◌, List, ◌∷◌, reverse, take, refl, sym, ◌∙◌, ap, arith, subst, inl, inr}
use Rattle.std.proofs.lemmas.Bool.{cases_eq}
use Rattle.std.proofs.lemmas.List.{take_all, take_more}
use Rattle.bwe_specs.specs.declared.network.Closing.{Closing}
use Rattle.bwe_specs.specs.Filling.{Wan}
use Rattle.bwe_specs.specs.RightClosings.{last_share, AreRight, IsRightAfter}
use Rattle.mpfa_fill.proofs.MomentLemmas.{reverse_push}
use Rattle.link_front.specs.Front.{wan_in, closings_in}
use Rattle.closing_walk.specs.Walk.{closing_at, AreRising}
use Rattle.closing_walk.proofs.EndLoads.{rising-next}
use Rattle.closing_walk.proofs.Rights.{right-taken}
use Rattle.closing_walk.proofs.ends.closes_all.Goals as goal

pub loop-at-init : goal.loop-at-init
loop-at-init g c = record {
  front = c.requires.front;
  wan = refl;
  closings = c.requires.none;
  order = record {
    rise = λ place later le lt. absurd (omega (arith, lt));
    below = λ place lt. absurd (omega (arith, lt));
  };
  last = λ place lt. absurd (omega (arith, lt));
}

pub is_in_order-requires : goal.is_in_order-requires
is_in_order-requires g c = record { top = c.requires.top ∙ ap (λ (wan : Wan). wan.top) (sym c.loop-at.invariant.wan) }

pub loop-at-preserved : goal.loop-at-preserved
loop-at-preserved g c =
    let i = c.loop-at.invariant in
    let e = c.in_ok-close.ensures in
    let at : ℕ = c.loop-at.at in
    let list : List Closing = c.args.closings.now in
    let closing : Closing = closing_at list at in
    let order = c.is_in_order.ensures in
    let passed = c.if-not-is_in_order.false in
    let keeps : last_share (closings_in c.loop-at.front) ≤ closing.share = order.keeps passed in
    let rise : AreRising list (at + 1) = rising-next list at (last_share (closings_in c.loop-at.front)) i.order.rise i.last keeps in
    record {
      front = e.front;
      wan = e.wan ∙ i.wan;
      closings = e.closings ∙ ap (λ cs. closing ∷ cs) i.closings ∙ sym (reverse_push (take at list) closing) ∙ ap reverse (sym (take_more list at (record { link = 0; share = 0 }) c.loop-at-test.true));
      order = record {
        rise = rise;
        below = λ place lt. elim (cases_eq place at) [
          | inl same ↦ subst (λ k. (closing_at list k).share < (wan_in g.V.GroupValues.meaning c.args.front.now).top) (sym same) (subst (λ (wan : Wan). closing.share < wan.top) i.wan (order.below passed))
          | inr other ↦ i.order.below place (omega (arith, lt, other))
        ];
      };
      last = λ place lt. subst (λ cs. (closing_at list place).share ≤ last_share cs) (sym e.closings) (rise place at (omega (arith, lt)) (omega arith));
    }

pub returns-clause-closings : goal.returns-clause-closings
returns-clause-closings g c = λ _. c.loop-at.invariant.closings ∙ ap reverse (take_all c.loop-at.at c.args.closings.now c.loop-at-test.false)

pub returns-clause-order : goal.returns-clause-order
returns-clause-order g c = λ _.
    let order = c.loop-at.invariant.order in
    record {
      rise = λ place later le lt. order.rise place later le (omega (arith, lt, c.loop-at-test.false));
      below = λ place lt. order.below place (omega (arith, lt, c.loop-at-test.false));
    }

pub returns-then-not-is_in_order-clause-wrong : goal.returns-then-not-is_in_order-clause-wrong
returns-then-not-is_in_order-clause-wrong g c = λ _ right.
    let i = c.loop-at.invariant in
    let at : ℕ = c.loop-at.at in
    let list : List Closing = c.args.closings.now in
    let closing : Closing = closing_at list at in
    let next : reverse (take (at + 1) list) ≡ closing ∷ closings_in c.loop-at.front =
    ap reverse (take_more list at (record { link = 0; share = 0 }) c.loop-at-test.true) ∙ reverse_push (take at list) closing ∙ ap (λ cs. closing ∷ cs) (sym i.closings) in
    let taken : AreRight (wan_in g.V.GroupValues.meaning c.args.front.now) (closing ∷ closings_in c.loop-at.front) =
    subst (AreRight (wan_in g.V.GroupValues.meaning c.args.front.now)) next (right-taken (wan_in g.V.GroupValues.meaning c.args.front.now) list (at + 1) right.0) in
    c.is_in_order.ensures.wrong c.if-not-is_in_order.true
    (subst (λ wan. IsRightAfter wan (closings_in c.loop-at.front) closing) (sym i.wan) taken.1)
