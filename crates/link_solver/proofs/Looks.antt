-- How many looks are still to come, and what a look, a closing and a move make of it.
use Rattle.std.proofs.Common.{◌≡◌, ℕ, zero, suc, ◌+◌, ◌-◌, ◌*◌, ◌/◌, ◌^◌, ◌<◌, ◌≤◌, Bool, true, false, List, length, set, refl, sym, ap, arith, if◌then◌else◌, nat_lt, pow-suc, lt-ltb, le-ltb, ltb-true, ltb-false}
use Rattle.std.proofs.lemmas.List.{get_or-set_same, get_or-set_other, length-set}
use Rattle.bwe_specs.specs.Bounded.{sum_below}
use Rattle.bwe_specs.specs.Paths.{PathGroup, uses}
use Rattle.bwe_specs.proofs.Bounds.{sum_below-mono, sum_below-add, sum_below-one}
use Rattle.link_solver.specs.declared.due.Due.{Due}
use Rattle.link_solver.specs.Dues.{no_due, due_at, Moves}
use Rattle.link_front.specs.Moves.{links_of}
use Rattle.link_front.proofs.GroupMoves.{sum_below-times}
use Rattle.link_solver.specs.Looks.{halvings, looks_at, looks_in}

-- a width is halved at most so often
halvings-le : (most width : ℕ) → halvings most width ≤ most
unfolding halvings
halvings-le zero width = omega arith
halvings-le (suc most) width = go (nat_lt 1 width) (halvings-le most ((width + 1) / 2)) where
  go : (wide : Bool) → halvings most ((width + 1) / 2) ≤ most → (if wide then suc (halvings most ((width + 1) / 2)) else 0) ≤ suc most
  go true le = omega arith
  go false le = omega arith

-- a lesser one no more often
halvings-mono : (most low high : ℕ) → low ≤ high → halvings most low ≤ halvings most high
unfolding halvings
halvings-mono zero low high le = omega arith
halvings-mono (suc most) low high le = go (nat_lt 1 low) refl (nat_lt 1 high) refl (halvings-mono most ((low + 1) / 2) ((high + 1) / 2) (omega (arith, le))) where
  go : (is_low : Bool) → nat_lt 1 low ≡ is_low → (is_high : Bool) → nat_lt 1 high ≡ is_high → halvings most ((low + 1) / 2) ≤ halvings most ((high + 1) / 2)
      → (if is_low then suc (halvings most ((low + 1) / 2)) else 0) ≤ (if is_high then suc (halvings most ((high + 1) / 2)) else 0)
  go false e wide f less = omega arith
  go true e true f less = omega (arith, less)
  go true e false f less = absurd (omega (arith, ltb-true 1 low e, ltb-false 1 high f, le))

-- one that is 1 after so many halvings is not halved again
halvings-enough : (most width : ℕ) → width ≤ 2 ^ most → halvings (suc most) width ≤ halvings most width
unfolding halvings
halvings-enough zero width le = go (nat_lt 1 width) refl where
  go : (wide : Bool) → nat_lt 1 width ≡ wide → (if wide then suc (halvings zero ((width + 1) / 2)) else 0) ≤ 0
  go true e = absurd (omega (arith, ltb-true 1 width e, le))
  go false e = omega arith
halvings-enough (suc most) width le = go (nat_lt 1 width) (halvings-enough most ((width + 1) / 2) (omega (arith, le, pow-suc 2 most))) where
  go : (wide : Bool) → halvings (suc most) ((width + 1) / 2) ≤ halvings most ((width + 1) / 2)
      → (if wide then suc (halvings (suc most) ((width + 1) / 2)) else 0) ≤ (if wide then suc (halvings most ((width + 1) / 2)) else 0)
  go true less = omega (arith, less)
  go false less = omega arith

-- a look that halves the width
halvings-less : (most width half : ℕ) → width ≤ 2 ^ suc most → 1 < width → half ≤ (width + 1) / 2 → suc (halvings (suc most) half) ≤ halvings (suc most) width
unfolding halvings
halvings-less most width half le wide is_half = go (nat_lt 1 width) refl where
  go : (is_wide : Bool) → nat_lt 1 width ≡ is_wide → suc (halvings (suc most) half) ≤ (if is_wide then suc (halvings most ((width + 1) / 2)) else 0)
  go false e = absurd (omega (arith, ltb-false 1 width e, wide))
  go true e =
      omega (
        arith,
        halvings-mono (suc most) half ((width + 1) / 2) is_half,
        halvings-enough most ((width + 1) / 2) (omega (arith, le, pow-suc 2 most)),
      )

pub one-less : (width half : ℕ) → width ≤ 1_000_000_000 → 1 < width → half ≤ (width + 1) / 2 → suc (halvings 30 half) ≤ halvings 30 width
one-less width half le wide is_half = halvings-less 29 width half (omega (arith, le)) wide is_half

-- a link needs at most 31 looks
pub looks-few : (top : ℕ) (due : Due) → looks_at top due ≤ 31
looks-few top due = go (nat_lt due.share top) (nat_lt top due.over) where
  go : (below past : Bool) → (if below then if past then suc (halvings 30 (top - due.share)) else halvings 30 (due.over - due.share) else 0) ≤ 31
  go true true = omega (arith, halvings-le 30 (top - due.share))
  go true false = omega (arith, halvings-le 30 (due.over - due.share))
  go false past = omega arith

-- none where it fits at the top
pub looks-top : (top : ℕ) (due : Due) → top ≤ due.share → looks_at top due ≡ 0
looks-top top due le = rw (le-ltb due.share top le) refl

-- so many as its interval is halved, or one more where it is not known to be over
pub looks-known : (top : ℕ) (due : Due) → due.share < top → due.over ≤ top → looks_at top due ≡ halvings 30 (due.over - due.share)
looks-known top due below within = rw (lt-ltb due.share top below, le-ltb top due.over within) refl

pub looks-unknown : (top : ℕ) (due : Due) → due.share < top → top < due.over → looks_at top due ≡ suc (halvings 30 (top - due.share))
looks-unknown top due below past = rw (lt-ltb due.share top below, lt-ltb top due.over past) refl

-- dues that are known as well need as many
looks-same : (top : ℕ) (old new : Due) → new.share ≡ old.share → new.over ≡ old.over → looks_at top new ≡ looks_at top old
looks-same top old new e f = rw (e, f) refl

-- where one due changes, so do the looks of its link alone
pub looks-set : (top : ℕ) (dues : List Due) (link : ℕ) (new : Due) → link < length dues → looks_in top (set dues link new) + looks_at top (due_at dues link) ≡ looks_in top dues + looks_at top new
looks-set top dues link new lt =
    let none : Due = no_due in
    omega (
      arith,
      ap (λ n. sum_below n (λ k. looks_at top (due_at (set dues link new) k))) (length-set dues link new),
      ap (looks_at top) (get_or-set_same dues link new none lt),
      sum_below-one (length dues) link (λ k. looks_at top (due_at dues k)) (λ k. looks_at top (due_at (set dues link new) k)) lt
          (λ k kl other. ap (looks_at top) (sym (get_or-set_other dues link k new none other))),
    )

-- the links of the path group that a group left, and of the one to which it came, are looked at again
pub looks-moved : (top : ℕ) (left came : PathGroup) (had_left had_came : ℕ) (gain : ℕ → ℕ) (capacities : List ℕ) (share most : ℕ) (old new : List Due) → Moves left came had_left had_came gain capacities share most old new
    → looks_in top new ≤ looks_in top old + 31 * (links_of (length old) left + links_of (length old) came)
looks-moved top left came had_left had_came gain capacities share most old new moved =
    let one : PathGroup → ℕ → ℕ = λ path_group link. if uses path_group link then 1 else 0 in
    omega (
      arith,
      ap (λ n. sum_below n (λ link. looks_at top (due_at new link))) moved.each_link,
      sum_below-mono (length old) (λ link. looks_at top (due_at new link)) (λ link. looks_at top (due_at old link) + 31 * (one left link + one came link)) (λ link lt. each link),
      sum_below-add (length old) (λ link. looks_at top (due_at old link)) (λ link. 31 * (one left link + one came link)),
      sum_below-times (length old) 31 (λ link. one left link + one came link),
      sum_below-add (length old) (one left) (one came),
    ) where
      each : (link : ℕ) → looks_at top (due_at new link) ≤ looks_at top (due_at old link) + 31 * ((if uses left link then 1 else 0) + (if uses came link then 1 else 0))
      each link = go (uses left link) refl (uses came link) refl where
        go : (leaves : Bool) → uses left link ≡ leaves → (comes : Bool) → uses came link ≡ comes
            → looks_at top (due_at new link) ≤ looks_at top (due_at old link) + 31 * ((if leaves then 1 else 0) + (if comes then 1 else 0))
        go false e false f = omega (arith, looks-same top (due_at old link) (due_at new link) (moved.keeps_low link f).0 (moved.keeps_over link e).over)
        go true e comes f = omega (arith, looks-few top (due_at new link))
        go false e true f = omega (arith, looks-few top (due_at new link))

-- all links need at most 31 looks each
pub looks-all : (top : ℕ) (dues : List Due) (count : ℕ) → sum_below count (λ link. looks_at top (due_at dues link)) ≤ 31 * count
unfolding sum_below
looks-all top dues zero = omega arith
looks-all top dues (suc count) = omega (arith, looks-all top dues count, looks-few top (due_at dues count))
