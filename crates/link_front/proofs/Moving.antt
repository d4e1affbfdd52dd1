-- The groups move on at a closing, one after the other.
use Rattle.std.proofs.Common.{◌≡◌, ℕ, ◌+◌, ◌<◌, ◌≤◌, false, List, ◌∷◌, length, reverse, refl, sym, ap, arith, subst, inl, inr, slice_index_or}
use Rattle.std.proofs.lemmas.Bool.{cases_eq}
use Rattle.bwe_specs.specs.declared.network.Closing.{Closing}
use Rattle.bwe_specs.specs.Paths.{PathGroups, path_group_at, uses}
use Rattle.bwe_specs.specs.Filling.{Wan, closed_links}
use Rattle.bwe_specs.specs.RightClosings.{last_share}
use Rattle.bwe_specs.specs.Values.{NeverFalls}
use Rattle.mpfa_fill.specs.declared.standing.Standing.{Standing}
use Rattle.mpfa_fill.specs.declared.standing.Standing.TheVariants.{Grows, Stopped}
use Rattle.mpfa_fill.specs.Standing.{standing_under}
use Rattle.mpfa_fill.specs.GroupValues.{Values}
use Rattle.mpfa_fill.specs.declared.growth.Growth.{Growth}
use Rattle.mpfa_fill.specs.Growth.{HasElsewhere, IsHeld, IsUpOver, IsGrowth, IsGrowthOf, KeepsParts as KeepsGrowth}
use Rattle.mpfa_fill.specs.Growth.{wan_in as growth_wan, closings_in as growth_closings}
use Rattle.mpfa_fill.proofs.Growths.{growth-along}
use Rattle.mpfa_fill.proofs.Closed.{held-after}
use Rattle.link_front.proofs.Walks.{UsesNot}

-- the groups below a number are held as they are after the closing; the later ones are as before it
pub record AreMoved (wan : Wan) (earlier : List Closing) (closing : Closing) (added : ℕ → ℕ → ℕ) (standings : List Standing) (count : ℕ) : Type 0 where
  pub gone : (group : ℕ) → group < count → IsHeld wan (closing ∷ earlier) added group (slice_index_or standings group (Stopped 0))
  pub left : (group : ℕ) → count ≤ group → group < length wan.groups → IsHeld wan earlier added group (slice_index_or standings group (Stopped 0))
  pub up : (group : ℕ) → count ≤ group → group < length wan.groups → IsUpOver wan closing.link closing.share group (slice_index_or standings group (Stopped 0))

-- a group that does not use a link need not come up for it
pub up-unused : (wan : Wan) (link share group : ℕ) (standing : Standing) → UsesNot wan.groups link group → IsUpOver wan link share group standing
up-unused wan link share group (Grows place base) unused = λ used. let not : uses (path_group_at wan.groups group place) link ≡ false = unused place in absurd (cc)
up-unused wan link share group (Stopped at) unused = tt

pub up-more : (wan : Wan) (link share : ℕ) (standing : ℕ → Standing) (group : ℕ) → UsesNot wan.groups link group → ((k : ℕ) → k < group → IsUpOver wan link share k (standing k)) → (k : ℕ) → k < group + 1 → IsUpOver wan link share k (standing k)
up-more wan link share standing group unused up k lt = elim (cases_eq k group) [
  | inl e ↦ subst (λ j. IsUpOver wan link share j (standing j)) (sym e) (up-unused wan link share group (standing group) unused)
  | inr other ↦ up k (omega (arith, lt, other))
]

-- a group that does not use the closed link stands as before
pub stays : (groups : List PathGroups) (group : ℕ) (closed : List ℕ) (closing : Closing) (standing : Standing) → UsesNot groups closing.link group → standing_under groups group closed closing standing ≡ standing
stays groups group closed closing (Grows place base) unused = rw (unused place) refl
stays groups group closed closing (Stopped at) unused = refl

module _ (wan : Wan) (never_falls : NeverFalls wan) (earlier : List Closing) (closing : Closing) (last : last_share earlier ≤ closing.share) (below : closing.share ≤ wan.top) (added : ℕ → ℕ → ℕ) (elsewhere : HasElsewhere wan earlier added) where
  pub moved-unused : (standings : List Standing) (group : ℕ) → group < length wan.groups → UsesNot wan.groups closing.link group
      → AreMoved wan earlier closing added standings group → AreMoved wan earlier closing added standings (group + 1)
  moved-unused standings group lt unused are =
      let standing : Standing = slice_index_or standings group (Stopped 0) in
      let same : standing_under wan.groups group (closed_links (closing ∷ earlier)) closing standing ≡ standing = stays wan.groups group (closed_links (closing ∷ earlier)) closing standing unused in
      let held : IsHeld wan earlier added group standing = are.left group (omega arith) lt in
      let after : IsHeld wan (closing ∷ earlier) added group standing =
      subst (IsHeld wan (closing ∷ earlier) added group) same (held-after wan never_falls earlier closing last below added elsewhere group standing held (are.up group (omega arith) lt)) in
      record {
        gone = λ k kl. elim (cases_eq k group) [
          | inl e ↦ subst (λ j. IsHeld wan (closing ∷ earlier) added j (slice_index_or standings j (Stopped 0))) (sym e) after
          | inr other ↦ are.gone k (omega (arith, kl, other))
        ];
        left = λ k from within. are.left k (omega (arith, from)) within;
        up = λ k from within. are.up k (omega (arith, from)) within;
      }

-- what a growth is after its groups came up and a closing was added, under the closings before
pub growth-after : {V : Type 0} (meaning : V → Values) (old up new : Growth V) → KeepsGrowth old up → new.standings ≡ up.standings → new.sums ≡ up.sums → IsGrowth meaning up
    → IsGrowthOf (meaning old.values.now) (growth_wan meaning old) (growth_closings old) new.standings.items new.sums
growth-after meaning old up new parts standings sums is =
    subst (λ s. IsGrowthOf (meaning old.values.now) (growth_wan meaning old) (growth_closings old) s.items new.sums) (sym standings)
    (growth-along _ _ _ _ _ _ _ _ _ _ _ (ap meaning (sym parts.network.values)) (sym parts.network.plan) (ap (λ n. n.capacities) (sym parts.network.topology)) (ap reverse (sym parts.closings)) sums is)
