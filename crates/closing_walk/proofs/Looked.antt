-- How many links of a path group are still to be looked at.
use Rattle.std.proofs.Common.{◌≡◌, ℕ, ◌+◌, ◌-◌, ◌<◌, ◌≤◌, Bool, true, false, List, refl, ap, arith, if◌then◌else◌, nat_lt, lt-ltb, ltb-true}
use Rattle.bwe_specs.specs.Bounded.{sum_below}
use Rattle.bwe_specs.specs.Paths.{PathGroup, uses}
use Rattle.bwe_specs.proofs.Bounds.{sum_below-mono, sum_below-term}
use Rattle.bwe_specs.proofs.Sums.{sum_below-room}
use Rattle.closing_walk.specs.Walk.{from_at}
use Rattle.link_front.specs.Moves.{links_of}

-- one look, unless it was made
abbrev pub look_at : ℕ → List ℕ → ℕ → ℕ
look_at at froms link = if nat_lt at (from_at froms link) then 0 else 1

abbrev pub still_at : PathGroup → ℕ → List ℕ → ℕ → ℕ
still_at path_group at froms link = if uses path_group link then look_at at froms link else 0

abbrev pub unlooked : ℕ → PathGroup → ℕ → List ℕ → ℕ
unlooked links path_group at froms = sum_below links (still_at path_group at froms)

look-most : (at : ℕ) (froms : List ℕ) (link : ℕ) → look_at at froms link ≤ 1
look-most at froms link = go (nat_lt at (from_at froms link)) where
  go : (b : Bool) → (if b then 0 else 1) ≤ 1
  go true = omega arith
  go false = omega arith

pub unlooked-most : (links : ℕ) (path_group : PathGroup) (at : ℕ) (froms : List ℕ) → unlooked links path_group at froms ≤ links_of links path_group
unlooked-most links path_group at froms =
    sum_below-mono links (still_at path_group at froms) (λ link. if uses path_group link then 1 else 0) (λ link lt. go link (uses path_group link)) where
      go : (link : ℕ) (used : Bool) → (if used then look_at at froms link else 0) ≤ (if used then 1 else 0)
      go link true = look-most at froms link
      go link false = omega arith

still-used : (path_group : PathGroup) (at : ℕ) (froms : List ℕ) (link : ℕ) → uses path_group link ≡ true → still_at path_group at froms link ≡ look_at at froms link
still-used path_group at froms link used = ap (λ b. if b then look_at at froms link else 0) used

-- a look that was not made is one of those
pub unlooked-one : (links : ℕ) (path_group : PathGroup) (at : ℕ) (froms : List ℕ) (link : ℕ) → link < links → uses path_group link ≡ true → look_at at froms link ≤ unlooked links path_group at froms
unlooked-one links path_group at froms link lt used =
    omega (arith, still-used path_group at froms link used, sum_below-term links link (still_at path_group at froms) lt)

-- and once it was made there is one less
pub unlooked-less : (links : ℕ) (path_group : PathGroup) (at : ℕ) (old new : List ℕ) (link : ℕ) → link < links → uses path_group link ≡ true
    → ((other : ℕ) → at < from_at old other → at < from_at new other)
    → unlooked links path_group at new + (look_at at old link - look_at at new link) ≤ unlooked links path_group at old
unlooked-less links path_group at old new link lt used keeps =
    sum_below-room links link (look_at at old link - look_at at new link) (still_at path_group at new) (still_at path_group at old) lt
    (λ other inside. each other (uses path_group other))
    (omega (arith, still-used path_group at old link used, still-used path_group at new link used, less link (nat_lt at (from_at old link)) refl)) where
      looked : (b : Bool) → b ≡ true → (if b then 0 else 1) ≤ 0
      looked true e = omega arith
      looked false e = absurd (cc)

      less : (other : ℕ) (before : Bool) → nat_lt at (from_at old other) ≡ before → look_at at new other ≤ (if before then 0 else 1)
      less other true e = omega (arith, looked (nat_lt at (from_at new other)) (lt-ltb at (from_at new other) (keeps other (ltb-true at (from_at old other) e))))
      less other false e = look-most at new other

      each : (other : ℕ) (used_there : Bool) → (if used_there then look_at at new other else 0) ≤ (if used_there then look_at at old other else 0)
      each other true = less other (nat_lt at (from_at old other)) refl
      each other false = omega arith
