use Rattle.std.proofs.Common.{◌≡◌, ℕ, ◌+◌, ◌-◌, ◌<◌, ◌≤◌, ◌≢◌, ◌++◌, ◌∷◌, ◌∙◌, List, [], length, true, false, nat_eq, Option, Some, None, Bor, sym, ap, ap₂, arith, subst, slice_index, eqb-true, eq-eqb}
use Rattle.std.specs.Prelude.{MatchOption, HoldsAt}
use Rattle.std.specs.Option.{option_eq}
use Rattle.link_front.specs.ByLink.{IsListedTo}
use Rattle.link_front.proofs.Listing.{listed-again, listed-first}
use Rattle.link_front.proofs.by_link.list_once.Goals as goal

-- the group is the last of the list, as the code compares them
last-same : (items : List ℕ) (found : Option (Bor ℕ)) (group : Bor ℕ) → MatchOption found (length items ≤ 0) (λ last. (0 < length items) × HoldsAt (λ item. last.now ≡ item) items (length items - 1))
    → option_eq (λ one other. nat_eq one.now other.now) found (Some group) ≡ true → (0 < length items) × (slice_index items (length items - 1) ≡ group.now)
last-same items None group last same = absurd (cc)
last-same items (Some one) group last same = (last.0, sym (last.1 0) ∙ eqb-true one.now group.now same)

-- it is not
last-apart : (items : List ℕ) (found : Option (Bor ℕ)) (group : Bor ℕ) → MatchOption found (length items ≤ 0) (λ last. (0 < length items) × HoldsAt (λ item. last.now ≡ item) items (length items - 1))
    → option_eq (λ one other. nat_eq one.now other.now) found (Some group) ≡ false → (i : ℕ) → i + 1 ≡ length items → slice_index items i ≢ group.now
last-apart items None group last apart i end = absurd (omega (arith, last, end))
last-apart items (Some one) group last apart i end = λ is.
    let at : i ≡ length items - 1 = omega (arith, end) in
    let same : nat_eq one.now group.now ≡ true = eq-eqb one.now group.now (last.1 0 ∙ ap (slice_index items) (sym at) ∙ is) in
    absurd (cc)

pub returns-in-Some : goal.returns-in-Some
returns-in-Some c = λ groups link of before.
    let items : c.deref.result.now ≡ c.args.list.now.groups.items = c.deref.ensures.value in
    let last = last-same c.deref.result.now c.last.result _ c.last.ensures.item.3 (sym c.eq.ensures ∙ c.if-eq.true) in
    let end : ℕ = c.args.list.now.uses.len - 1 in
    let is_end : end + 1 ≡ length c.args.list.now.groups.items = omega (arith, last.0, ap length items, before.each_group, c.args.list.now.uses.ok.0) in
    let at : length c.deref.result.now - 1 ≡ end = omega (arith, ap length items, is_end) in
    listed-again groups link c.args.group c.args.place _ before end c.in-Some.last.now is_end
    (ap₂ slice_index (sym items) (sym at) ∙ last.1) c.in-Some.ensures.value

pub returns : goal.returns
returns c = λ groups link of before.
    let items : c.deref.result.now ≡ c.args.list.now.groups.items = c.deref.ensures.value in
    let last : (i : ℕ) → i + 1 ≡ length c.args.list.now.groups.items → slice_index c.args.list.now.groups.items i ≢ c.args.group =
    subst (λ list. (i : ℕ) → i + 1 ≡ length list → slice_index list i ≢ c.args.group) items
    (last-apart c.deref.result.now c.last.result _ c.last.ensures.item.3 (sym c.eq.ensures ∙ c.if-eq.false)) in
    let pushed : c.push.new.self.items ≡ c.args.list.now.groups.items ++ c.args.group ∷ [] = c.in_ok-push.ensures.items in
    let used : c.push-2.new.self.items ≡ c.args.list.now.uses.items ++ record { place = c.args.place; part = c.args.part; is_only = true } ∷ [] = c.in_ok-push-2.ensures.items in
    subst (λ list. IsListedTo groups link c.args.group (c.args.place + 1) (record { groups = list; uses = c.push-2.new.self.items })) (sym pushed)
    (subst (λ list. IsListedTo groups link c.args.group (c.args.place + 1) (record { groups = c.args.list.now.groups.items ++ c.args.group ∷ []; uses = list })) (sym used)
    (listed-first groups link c.args.group c.args.place _ before c.args.part last of))
