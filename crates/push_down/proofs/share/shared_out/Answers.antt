use Rattle.std.proofs.Common.{◌≡◌, ℕ, ◌+◌, ◌-◌, ◌<◌, ◌≤◌, ◌++◌, ◌∷◌, [], min, List, length, get_or, drop, ap, sym, ◌∙◌, arith}
use Rattle.std.proofs.lemmas.List.{drop_all, append-nil}
use Rattle.std.proofs.lemmas.List.Elements.{All-same, All-push}
use Rattle.bwe_specs.specs.declared.limits.TheConstants.{MAX_TOTAL}
use Rattle.bwe_specs.specs.Distribution.{children_sum, handed_out}
use Rattle.push_down.proofs.Agreement.{handed-more, handed-end, distribution-by_share}
use Rattle.push_down.proofs.share.shared_out.Goals as goal

pub loop-place-preserved : goal.loop-place-preserved
loop-place-preserved g c =
    let values = g.F.Children.values c.args.children.now in
    let share = c.share_for-share.result in
    let place = c.loop-place.place in
    let rest = c.loop-place.rest in
    let value = c.value-value.result in
    let more = c.more_for-more.result in
    let items = c.loop-place.amounts.items in
    let kept = c.loop-place.invariant in
    let lt : place < length values = omega (arith, c.loop-place-test.true, c.count-place-end.ensures) in
    let is_more : more ≡ min rest (get_or values place (λ s. 0) (share + 1) - value) = c.more_for-more.ensures in
    let bound : value + more ≤ c.args.amount + MAX_TOTAL = omega (arith, c.value-value.ensures.bound, is_more, kept.rest) in
    record {
      handed =
          ap (λ (list : List ℕ). list ++ handed_out (drop (place + 1) values) share (rest - more)) c.in_ok-push.ensures.items
          ∙ handed-more values place share rest value more items lt c.value-value.ensures.value is_more
          ∙ kept.handed;
      rest = omega (arith, kept.rest);
      bound = All-same (λ (given : ℕ). given ≤ c.args.amount + MAX_TOTAL) c.push.new.self.items (items ++ (value + more) ∷ []) c.in_ok-push.ensures.items
          (All-push (λ (given : ℕ). given ≤ c.args.amount + MAX_TOTAL) items (value + more) kept.bound bound);
    }

pub returns-clause-amounts : goal.returns-clause-amounts
returns-clause-amounts g c =
    let values = g.F.Children.values c.args.children.now in
    let share = c.share_for-share.result in
    let none : drop c.loop-place.place values ≡ [] = drop_all c.loop-place.place values (omega (arith, c.loop-place-test.false, c.count-place-end.ensures)) in
    sym (append-nil c.loop-place.amounts.items)
    ∙ ap (λ (rest : List ℕ). c.loop-place.amounts.items ++ rest) (sym (ap (λ (list : List (ℕ → ℕ)). handed_out list share c.loop-place.rest) none ∙ handed-end share c.loop-place.rest))
    ∙ c.loop-place.invariant.handed
    ∙ ap (λ (s : ℕ). handed_out values s (c.args.amount - children_sum values s)) c.share_for-share.ensures.share
    ∙ sym (distribution-by_share c.args.top values c.args.amount)
