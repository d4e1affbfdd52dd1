-- The tournament between dues: who stands at its root, and what stays of it where one due or one node changes.
use Rattle.std.proofs.Common.{◌≡◌, ℕ, zero, suc, ◌+◌, ◌*◌, ◌-◌, ◌/◌, ◌<◌, ◌≤◌, ◌^◌, ◌⊎◌, ◌&&◌, ◌||◌, Bool, true, false, List, length, set, nat_lt, nat_eq, if◌then◌else◌, refl, sym, ◌∙◌, ap, ap₂, arith, inl, inr, subst, slice_index}
use Rattle.std.proofs.Math.Nat.{pow-suc, pow-zero}
use Rattle.std.proofs.lemmas.Bool.{cases_eq, cases_lt, lt-ltb, le-ltb}
use Rattle.std.proofs.lemmas.Bool.Decides.{nat_tests}
use Rattle.std.proofs.lemmas.List.{get_or-set_same, get_or-set_other, length-set}
use Rattle.link_solver.specs.declared.due.Due.{Due}
use Rattle.link_solver.specs.Dues.{no_due, due_at, NoneBelow, IsLeastDue}
use Rattle.link_solver.specs.Tournament.{beats, winner_of, winner_at, IsWonAt, AreWinners, IsTournament, climbs, IsAbove, IsClimbed}

-- a link is before another: its due is lesser, or as low and its number no higher
pub record IsBefore (dues : List Due) (link other : ℕ) : Type 0 where
  pub share : (due_at dues link).share ≤ (due_at dues other).share
  pub number : (due_at dues other).share ≤ (due_at dues link).share → link ≤ other

before-same : (dues : List Due) (a b : ℕ) → a ≡ b → IsBefore dues a b
before-same dues a b e = subst (IsBefore dues a) e (record { share = omega arith; number = λ le. omega arith })

before-trans : (dues : List Due) (a b c : ℕ) → IsBefore dues a b → IsBefore dues b c → IsBefore dues a c
before-trans dues a b c x y = record {
  share = omega (arith, x.share, y.share);
  number = λ le. omega (arith, x.number (omega (arith, le, y.share)), y.number (omega (arith, le, x.share)));
}

-- what the test of two links says
test-true : (r l right left : ℕ) → (nat_lt r l || (nat_eq r l && nat_lt right left)) ≡ true → (r ≤ l) × (l ≤ r → right ≤ left)
test-true r l right left e = (grind (arith, nat_tests), λ le. grind (arith, nat_tests))

test-false : (r l right left : ℕ) → (nat_lt r l || (nat_eq r l && nat_lt right left)) ≡ false → (l ≤ r) × (r ≤ l → left ≤ right)
test-false r l right left e = (grind (arith, nat_tests), λ le. grind (arith, nat_tests))

-- the winner of two is before both
winner-before : (dues : List Due) (left right : ℕ) → IsBefore dues (winner_of dues left right) left × IsBefore dues (winner_of dues left right) right
winner-before dues left right = go (beats dues right left) refl where
  go : (won : Bool) → beats dues right left ≡ won → IsBefore dues (if won then right else left) left × IsBefore dues (if won then right else left) right
  go true e =
      let t = test-true (due_at dues right).share (due_at dues left).share right left e in
      (record { share = t.0; number = t.1 }, before-same dues right right refl)
  go false e =
      let t = test-false (due_at dues right).share (due_at dues left).share right left e in
      (before-same dues left left refl, record { share = t.0; number = t.1 })

-- the winner of two is one of them
winner-one : (dues : List Due) (left right : ℕ) → (winner_of dues left right ≡ left) ⊎ (winner_of dues left right ≡ right)
winner-one dues left right = go (beats dues right left) where
  go : (won : Bool) → ((if won then right else left) ≡ left) ⊎ ((if won then right else left) ≡ right)
  go true = inr refl
  go false = inl refl

-- .. and it does not change with the dues of others
winner-same : (dues new : List Due) (left right : ℕ) → due_at new left ≡ due_at dues left → due_at new right ≡ due_at dues right → winner_of new left right ≡ winner_of dues left right
winner-same dues new left right l r =
    ap₂ (λ (x : Due) (y : Due). if nat_lt y.share x.share || (nat_eq y.share x.share && nat_lt right left) then right else left) l r

-- who stands at a node
at-inner : (best : List ℕ) (node : ℕ) → node < length best → winner_at best node ≡ slice_index best node
at-inner best node lt = let e : nat_lt node (length best) ≡ true = lt-ltb node (length best) lt in ap (λ t. if t then slice_index best node else node - length best) e

at-leaf : (best : List ℕ) (node : ℕ) → length best ≤ node → winner_at best node ≡ node - length best
at-leaf best node le = let e : nat_lt node (length best) ≡ false = le-ltb node (length best) le in ap (λ t. if t then slice_index best node else node - length best) e

-- .. is a link ..
pub winner-in : (dues : List Due) (best : List ℕ) → AreWinners dues best → (node : ℕ) → 0 < node → node < 2 * length dues → winner_at best node < length dues
winner-in dues best are node some lt = elim (cases_lt node (length best)) [
  | inl inner ↦ omega (arith, at-inner best node inner, are.in_range node some (omega (arith, inner, are.each_link)))
  | inr leaf ↦ omega (arith, at-leaf best node leaf, are.each_link, leaf, lt)
]

-- .. and the same as before a write at another node
at-other : (best : List ℕ) (at value node : ℕ) → (node ≡ at → ⊥) → winner_at (set best at value) node ≡ winner_at best node
at-other best at value node other =
    ap₂ (λ (n : ℕ) (s : ℕ). if nat_lt node n then s else node - n) (length-set best at value) (get_or-set_other best at node value 0 other)

-- at an inner node stands the winner of the two below
inner-won : (dues : List Due) (best : List ℕ) → IsTournament dues best → (node : ℕ) → 0 < node → node < length dues → winner_at best node ≡ winner_of dues (winner_at best (2 * node)) (winner_at best (2 * node + 1))
inner-won dues best is node some lt = at-inner best node (omega (arith, lt, is.winners.each_link)) ∙ is.won node some lt

-- who stands at the root is before all others
root-before : (dues : List Due) (best : List ℕ) → IsTournament dues best → (most node : ℕ) → node ≤ most → 0 < node → node < 2 * length dues → IsBefore dues (winner_at best 1) (winner_at best node)
root-before dues best is zero node le some lt = absurd (omega (arith, le, some))
root-before dues best is (suc most) node le some lt = elim (cases_eq node 1) [
  | inl e ↦ before-same dues (winner_at best 1) (winner_at best node) (sym (ap (winner_at best) e))
  | inr other ↦
      let half : ℕ = node / 2 in
      let first : 0 < half = omega (arith, some, other) in
      let within : half < length dues = omega (arith, lt) in
      let above : IsBefore dues (winner_at best 1) (winner_at best half) = root-before dues best is most half (omega (arith, le, some, other)) first (omega (arith, within)) in
      let e = inner-won dues best is half first within in
      let both = winner-before dues (winner_at best (2 * half)) (winner_at best (2 * half + 1)) in
      elim (cases_eq node (2 * half)) [
        | inl left ↦ before-trans dues (winner_at best 1) (winner_at best half) (winner_at best node) above
            (subst (λ k. IsBefore dues (winner_at best half) (winner_at best k)) (sym left) (subst (λ w. IsBefore dues w (winner_at best (2 * half))) (sym e) both.0))
        | inr not_left ↦
            let right : node ≡ 2 * half + 1 = omega (arith, not_left) in
            before-trans dues (winner_at best 1) (winner_at best half) (winner_at best node) above
            (subst (λ k. IsBefore dues (winner_at best half) (winner_at best k)) (sym right) (subst (λ w. IsBefore dues w (winner_at best (2 * half + 1))) (sym e) both.1))
      ]
]

pub root-least : (dues : List Due) (best : List ℕ) → IsTournament dues best → (link : ℕ) → link < length dues → IsBefore dues (winner_at best 1) link
root-least dues best is link lt =
    let e : winner_at best (length dues + link) ≡ link = at-leaf best (length dues + link) (omega (arith, is.winners.each_link)) ∙ omega (arith, is.winners.each_link) in
    subst (IsBefore dues (winner_at best 1)) e (root-before dues best is (length dues + link) (length dues + link) (omega arith) (omega (arith, lt)) (omega (arith, lt)))

-- the one at the root has the least due
pub root-due : (dues : List Due) (best : List ℕ) (top : ℕ) → IsTournament dues best → 0 < length dues → (due_at dues (winner_at best 1)).share < top → IsLeastDue dues top (winner_at best 1)
root-due dues best top is some below = record {
  in_range = winner-in dues best is.winners 1 (omega arith) (omega (arith, some));
  below = below;
  least_of = λ other lt. (root-least dues best is other lt).share;
  lowest = λ lower lt.
      let before : IsBefore dues (winner_at best 1) lower = root-least dues best is lower (omega (arith, lt, winner-in dues best is.winners 1 (omega arith) (omega (arith, some)))) in
      elim (cases_lt (due_at dues (winner_at best 1)).share (due_at dues lower).share) [
        | inl less ↦ less
        | inr le ↦ absurd (omega (arith, before.number le, lt))
      ];
}

-- .. and where it has the top, all have
pub root-top : (dues : List Due) (best : List ℕ) (top : ℕ) → IsTournament dues best → top ≤ (due_at dues (winner_at best 1)).share → NoneBelow dues top
root-top dues best top is above link lt = omega (arith, above, (root-least dues best is link lt).share)

-- the way to the root goes on at half of a node
climbs-shift : (levels node : ℕ) → climbs (suc levels) node ≡ climbs levels (node / 2)
unfolding climbs
climbs-shift zero node = refl
climbs-shift (suc levels) node = ap (λ n. n / 2) (climbs-shift levels node)

climbs-zero : (levels : ℕ) → climbs levels 0 ≡ 0
unfolding climbs
climbs-zero zero = refl
climbs-zero (suc levels) = let e = climbs-zero levels in omega (arith, e)

above-self : (above node : ℕ) → above ≡ node → IsAbove above node
unfolding climbs
above-self above node e = (zero, e)

above-half : (above half node : ℕ) → half ≡ above / 2 → IsAbove above node → IsAbove half node
unfolding climbs
above-half above half node e is = (suc is.0, e ∙ ap (λ n. n / 2) is.1)

above-next : (above node : ℕ) → (above ≡ node → ⊥) → IsAbove above node → IsAbove above (node / 2)
unfolding climbs
above-next above node other is = go is.0 is.1 where
  go : (levels : ℕ) → above ≡ climbs levels node → IsAbove above (node / 2)
  go zero e = absurd (other e)
  go (suc levels) e = (levels, e ∙ climbs-shift levels node)

-- above no node there is none
above-none : (above : ℕ) → 0 < above → IsAbove above 0 → ⊥
above-none above some is = absurd (omega (arith, some, is.1 ∙ climbs-zero is.0))

-- a link stands only on the way from its leaf to the root
stands-above : (dues : List Due) (best : List ℕ) → IsTournament dues best → (link most node : ℕ) → 2 * length dues ≤ node + most → 0 < node → node < 2 * length dues → winner_at best node ≡ link → IsAbove node (length dues + link)
stands-above dues best is link zero node le some lt e = absurd (omega (arith, le, lt))
stands-above dues best is link (suc most) node le some lt e = elim (cases_lt node (length dues)) [
  | inl inner ↦
      let won = inner-won dues best is node some inner in
      elim (winner-one dues (winner_at best (2 * node)) (winner_at best (2 * node + 1))) [
        | inl left ↦ above-half (2 * node) node (length dues + link) (omega arith)
            (stands-above dues best is link most (2 * node) (omega (arith, le, some)) (omega (arith, some)) (omega (arith, inner)) (sym left ∙ sym won ∙ e))
        | inr right ↦ above-half (2 * node + 1) node (length dues + link) (omega arith)
            (stands-above dues best is link most (2 * node + 1) (omega (arith, le, some)) (omega (arith, some)) (omega (arith, inner)) (sym right ∙ sym won ∙ e))
      ]
  | inr leaf ↦ above-self node (length dues + link) (omega (arith, at-leaf best node (omega (arith, leaf, is.winners.each_link)), e, leaf, is.winners.each_link))
]

-- where the due of a link changes, only the nodes above its leaf are to be played again
pub set-climbed : (dues : List Due) (best : List ℕ) (link : ℕ) (due : Due) → IsTournament dues best → link < length dues → IsClimbed (set dues link due) best ((length (set dues link due) + link) / 2)
set-climbed dues best link due is lt =
    let new : List Due = set dues link due in
    let same : length new ≡ length dues = length-set dues link due in
    record {
      winners = record {
        each_link = omega (arith, same, is.winners.each_link);
        few = omega (arith, same, is.winners.few);
        in_range = λ node some inner. omega (arith, same, is.winners.in_range node some (omega (arith, same, inner)));
      };
      won = λ node some inner_new.
          let inner : node < length dues = omega (arith, same, inner_new) in
          elim (cases_eq (winner_at best (2 * node)) link) [
            | inl e ↦ inl (above node (2 * node) inner (omega arith) (stands-above dues best is link (2 * length dues) (2 * node) (omega arith) (omega (arith, some)) (omega (arith, inner)) e))
            | inr left ↦ elim (cases_eq (winner_at best (2 * node + 1)) link) [
              | inl e ↦ inl (above node (2 * node + 1) inner (omega arith) (stands-above dues best is link (2 * length dues) (2 * node + 1) (omega arith) (omega (arith, some)) (omega (arith, inner)) e))
              | inr right ↦ inr (is.won node some inner ∙ sym (winner-same dues new (winner_at best (2 * node)) (winner_at best (2 * node + 1)) (kept (winner_at best (2 * node)) left) (kept (winner_at best (2 * node + 1)) right)))
            ]
          ];
    } where
      kept : (other : ℕ) → (other ≡ link → ⊥) → due_at (set dues link due) other ≡ due_at dues other
      kept other ne = get_or-set_other dues link other due (no_due) ne

      above : (node below : ℕ) → node < length dues → node ≡ below / 2 → IsAbove below (length dues + link) → IsAbove node ((length (set dues link due) + link) / 2)
      above node below inner half is_above =
          subst (λ n. IsAbove node ((n + link) / 2)) (sym (length-set dues link due))
          (above-next node (length dues + link) (λ e. absurd (omega (arith, e, inner))) (above-half below node (length dues + link) half is_above))

-- a link written at a node
written : (dues : List Due) (best : List ℕ) (from value : ℕ) → AreWinners dues best → value < length dues → from < length best → AreWinners dues (set best from value)
written dues best from value are inside lt = record {
  each_link = length-set best from value ∙ are.each_link;
  few = are.few;
  in_range = λ node first inner. elim (cases_eq node from) [
    | inl same ↦ subst (λ n. slice_index (set best from value) n < length dues) (sym same) (subst (λ w. w < length dues) (sym (get_or-set_same best from value 0 lt)) inside)
    | inr other ↦ subst (λ w. w < length dues) (sym (get_or-set_other best from node value 0 other)) (are.in_range node first inner)
  ];
}

pub played : (dues : List Due) (best : List ℕ) (from value : ℕ) → 0 < from → from < length best → value ≡ winner_of dues (winner_at best (2 * from)) (winner_at best (2 * from + 1)) → IsWonAt dues (set best from value) from
played dues best from value some lt e =
    get_or-set_same best from value 0 lt ∙ e
    ∙ ap₂ (winner_of dues) (sym (at-other best from value (2 * from) (λ f. absurd (omega (arith, f, some))))) (sym (at-other best from value (2 * from + 1) (λ f. absurd (omega (arith, f, some)))))

pub untouched : (dues : List Due) (best : List ℕ) (from value node : ℕ) → (node ≡ from → ⊥) → (2 * node ≡ from → ⊥) → (2 * node + 1 ≡ from → ⊥) → IsWonAt dues best node → IsWonAt dues (set best from value) node
untouched dues best from value node other left right won =
    get_or-set_other best from node value 0 other ∙ won
    ∙ ap₂ (winner_of dues) (sym (at-other best from value (2 * node) left)) (sym (at-other best from value (2 * node + 1) right))

-- once a node has been played, the next is half of it
pub climbed-next : (dues : List Due) (best : List ℕ) (from value : ℕ) → IsClimbed dues best from → 0 < from → from < length dues → value < length dues
    → value ≡ winner_of dues (winner_at best (2 * from)) (winner_at best (2 * from + 1)) → IsClimbed dues (set best from value) (from / 2)
climbed-next dues best from value is some lt inside e = record {
  winners = written dues best from value is.winners inside (omega (arith, lt, is.winners.each_link));
  won = λ node first inner. elim (cases_eq node from) [
    | inl same ↦ inr (subst (IsWonAt dues (set best from value)) (sym same) (played dues best from value some (omega (arith, lt, is.winners.each_link)) e))
    | inr other ↦ elim (is.won node first inner) [
      | inl above ↦ inl (above-next node from other above)
      | inr won ↦ elim (cases_eq (2 * node) from) [
        | inl left ↦ inl (above-self node (from / 2) (omega (arith, left)))
        | inr not_left ↦ elim (cases_eq (2 * node + 1) from) [
          | inl right ↦ inl (above-self node (from / 2) (omega (arith, right)))
          | inr not_right ↦ inr (untouched dues best from value node other not_left not_right won)
        ]
      ]
    ]
  ];
}

-- at the root all have been played
pub climbed-all : (dues : List Due) (best : List ℕ) → IsClimbed dues best 0 → IsTournament dues best
climbed-all dues best is = record {
  winners = is.winners;
  won = λ node some inner. elim (is.won node some inner) [
    | inl above ↦ absurd (above-none node some above)
    | inr won ↦ won
  ];
}

-- the nodes from a number on have been played
pub record ArePlayed (dues : List Due) (best : List ℕ) (from : ℕ) : Type 0 where
  pub winners : AreWinners dues best
  pub won : (node : ℕ) → 0 < node → from ≤ node → node < length dues → IsWonAt dues best node

pub played-more : (dues : List Due) (best : List ℕ) (from value : ℕ) → ArePlayed dues best (from + 1) → 0 < from → from < length dues → value < length dues
    → value ≡ winner_of dues (winner_at best (2 * from)) (winner_at best (2 * from + 1)) → ArePlayed dues (set best from value) from
played-more dues best from value is some lt inside e = record {
  winners = written dues best from value is.winners inside (omega (arith, lt, is.winners.each_link));
  won = λ node first on inner. elim (cases_eq node from) [
    | inl same ↦ subst (IsWonAt dues (set best from value)) (sym same) (played dues best from value some (omega (arith, lt, is.winners.each_link)) e)
    | inr other ↦ untouched dues best from value node other (λ f. absurd (omega (arith, f, on, first))) (λ f. absurd (omega (arith, f, on, first))) (is.won node first (omega (arith, on, other)) inner)
  ];
}

-- so many steps were made, and so many more at most go from a node to the root
pub record HasSteps (steps node most : ℕ) : Type 0 where
  pub left : ℕ
  pub below : node < 2 ^ left
  pub within : steps + left ≤ most

pub steps-next : (steps node most : ℕ) → HasSteps steps node most → 0 < node → HasSteps (steps + 1) (node / 2) most
steps-next steps node most has some = go has.left has.below has.within where
  go : (left : ℕ) → node < 2 ^ left → steps + left ≤ most → HasSteps (steps + 1) (node / 2) most
  go zero below within = absurd (omega (arith, below, some, pow-zero 2))
  go (suc left) below within = record { left = left; below = omega (arith, below, pow-suc 2 left); within = omega (arith, within) }
