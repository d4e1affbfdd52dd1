-- Group by group, the links that a closing changes are settled.
use Rattle.std.proofs.Common.{◌≡◌, ℕ, zero, suc, ◌+◌, ◌<◌, ◌≤◌, List, ◌∷◌, length, refl, sym, arith, subst, inl, inr}
use Rattle.std.proofs.lemmas.Bool.{cases_eq}
use Rattle.bwe_specs.specs.declared.network.Closing.{Closing}
use Rattle.bwe_specs.specs.Bounded.{sum_below}
use Rattle.bwe_specs.specs.Filling.{Wan}
use Rattle.bwe_specs.proofs.Bounds.{sum_below-more}
use Rattle.closing_walk.specs.Walk.{closing_at, from_at, StaysOff, StayOff}
use Rattle.link_front.specs.Moves.{moves_of, moves_ahead}
use Rattle.link_front.proofs.GroupMoves.{keeps-path_group, moves-same}
use Rattle.link_front.proofs.Walks.{UsesNot}
use Rattle.closing_walk.proofs.Staying.{stays-same}

-- the groups below a number are off the links that are not settled, and what was looked at comes out of their moves
pub record AreOff (wan : Wan) (earlier list : List Closing) (at : ℕ) (froms : List ℕ) (first steps count : ℕ) : Type 0 where
  pub off : StayOff wan earlier list at froms count
  pub ticks : steps + sum_below count (moves_of wan (closing_at list at ∷ earlier)) ≤ first + sum_below count (moves_of wan earlier)

-- a longer sum is no less
pub sum_below-longer : (n m : ℕ) (f : ℕ → ℕ) → n ≤ m → sum_below n f ≤ sum_below m f
unfolding sum_below
sum_below-longer n zero f le = let e : n ≡ 0 = omega (arith, le) in subst (λ k. sum_below k f ≤ 0) (sym e) (omega arith)
sum_below-longer n (suc m) f le = elim (cases_eq n (suc m)) [
  | inl e ↦ subst (λ k. sum_below k f ≤ sum_below m f + f m) (sym e) (omega arith)
  | inr other ↦ omega (arith, sum_below-longer n m f (omega (arith, le, other)))
]

module _ (wan : Wan) (earlier list : List Closing) (at : ℕ) where
  pub off-start : (froms : List ℕ) (steps : ℕ) → AreOff wan earlier list at froms steps steps 0
  unfolding sum_below
  off-start froms steps = record { off = λ group link lt. absurd (omega (arith, lt)); ticks = omega arith }

  -- one more group
  pub off-next : (old new : List ℕ) (first steps steps' group : ℕ) → ((link : ℕ) → at < from_at old link → at < from_at new link)
      → ((link : ℕ) → from_at new link ≤ at → from_at new link ≡ from_at old link)
      → ((link : ℕ) → from_at new link ≤ at → StaysOff wan earlier list at link (from_at new link) group)
      → steps' + moves_of wan (closing_at list at ∷ earlier) group ≤ steps + moves_of wan earlier group
      → AreOff wan earlier list at old first steps group → AreOff wan earlier list at new first steps' (group + 1)
  off-next old new first steps steps' group keeps same here looks are = record {
    off = λ k link lt le. elim (cases_eq k group) [
      | inl e ↦ subst (StaysOff wan earlier list at link (from_at new link)) (sym e) (here link le)
      | inr other ↦ subst (λ from. StaysOff wan earlier list at link from k) (sym (same link le)) (are.off k link (omega (arith, lt, other)) (omega (arith, le, same link le)))
    ];
    ticks = omega (arith, are.ticks, looks, sum_below-more group (moves_of wan (closing_at list at ∷ earlier)), sum_below-more group (moves_of wan earlier));
  }

  -- one that does not use the closed link stays where it is
  pub off-unused : (froms : List ℕ) (first steps group : ℕ) → UsesNot wan.groups (closing_at list at).link group → AreOff wan earlier list at froms first steps group → AreOff wan earlier list at froms first steps (group + 1)
  off-unused froms first steps group unused are =
      let same = keeps-path_group wan earlier (closing_at list at) group (λ place current. unused place) in
      off-next froms froms first steps steps group (λ link past. past) (λ link le. refl) (λ link le. stays-same wan earlier list at group link (from_at froms link) same) (omega (arith, moves-same wan earlier (closing_at list at) group same)) are

  -- where a group's look fails, those before it and its own are no more than all
  pub looks-within : (first steps steps' group : ℕ) → group < length wan.groups → steps' + moves_of wan (closing_at list at ∷ earlier) group ≤ steps + moves_of wan earlier group
      → steps + sum_below group (moves_of wan (closing_at list at ∷ earlier)) ≤ first + sum_below group (moves_of wan earlier) → steps' ≤ first + moves_ahead wan earlier
  looks-within first steps steps' group lt looks so =
      omega (arith, looks, so, sum_below-more group (moves_of wan earlier), sum_below-longer (group + 1) (length wan.groups) (moves_of wan earlier) (omega (arith, lt)))
