-- The load of a link over which one group grows, where the group's value is told.
use Rattle.std.proofs.Common.{◌≡◌, ℕ, suc, ◌+◌, ◌<◌, ◌≤◌, List, [], ◌∷◌, arith, refl, ap, nat_le, le-leb, leb-true, leb-false}
use Rattle.bwe_specs.specs.declared.network.Closing.{Closing}
use Rattle.bwe_specs.specs.Bounded.{greatest_upto}
use Rattle.bwe_specs.specs.Paths.{path_group_at, load_on, link_load}
use Rattle.bwe_specs.specs.Filling.{Wan}
use Rattle.bwe_specs.specs.RightClosings.{last_share, amounts_at}
use Rattle.bwe_specs.proofs.Bounds.{greatest-passes, greatest-above}
use Rattle.bwe_specs.proofs.Loads.{load_on-mono}
use Rattle.mpfa_fill.specs.declared.growth.Term.{Term}
use Rattle.mpfa_fill.specs.Growth.{IsTermOf, AreTermsOn, terms_load}

-- the greatest share at which a value is at most so much
pub last-fits : (top : ℕ) (value : ℕ → ℕ) (amount : ℕ) → value 0 ≡ 0 → value (greatest_upto top (λ share. nat_le (value share) amount)) ≤ amount
last-fits top value amount starts =
    leb-true _ _ (greatest-passes top (λ share. nat_le (value share) amount) (le-leb _ _ (omega (arith, starts))))

pub last-next : (top : ℕ) (value : ℕ → ℕ) (amount : ℕ) → greatest_upto top (λ share. nat_le (value share) amount) < top → amount < value (suc (greatest_upto top (λ share. nat_le (value share) amount)))
last-next top value amount lt =
    leb-false _ _ (greatest-above top (λ share. nat_le (value share) amount) (suc (greatest_upto top (λ share. nat_le (value share) amount))) (omega arith) lt)

module _ (wan : Wan) (closings : List Closing) (added : ℕ → ℕ → ℕ) (link : ℕ) (term : Term) (terms : AreTermsOn wan closings added link (term ∷ [])) (is : IsTermOf wan closings added link term.group term) where
  -- the link's load is that of what was added, with what the group has in place of that
  one : (share : ℕ) → last_share closings ≤ share → share ≤ wan.top
      → link_load wan.groups (amounts_at wan closings share) link + term.held ≡ link_load wan.groups added link + load_on (path_group_at wan.groups term.group term.place) link (amounts_at wan closings share term.group term.place)
  one share after upto =
      let before : terms_load wan link added (term ∷ []) ≡ 0 + load_on (path_group_at wan.groups term.group term.place) link (added term.group term.place) = refl in
      let there : terms_load wan link (amounts_at wan closings share) (term ∷ []) ≡ 0 + load_on (path_group_at wan.groups term.group term.place) link (amounts_at wan closings share term.group term.place) = refl in
      omega (arith, terms.load share after upto, before, there, is.held, ap (load_on (path_group_at wan.groups term.group term.place) link) is.amount)

  -- it is within the load that the most puts there, where the group's value is within that
  pub load-within : (share most value : ℕ) → last_share closings ≤ share → share ≤ wan.top → value + term.amount ≡ most + term.value → wan.value term.group share ≤ value
      → link_load wan.groups (amounts_at wan closings share) link + term.held ≤ link_load wan.groups added link + load_on (path_group_at wan.groups term.group term.place) link most
  load-within share most value after upto same within =
      omega (
        arith,
        one share after upto,
        load_on-mono (path_group_at wan.groups term.group term.place) link (amounts_at wan closings share term.group term.place) most (omega (arith, is.has share after upto, is.amount, same, within)),
      )

  -- and above it, where the value is above that
  pub load-above : (share most value : ℕ) → last_share closings ≤ share → share ≤ wan.top → value + term.amount ≡ most + term.value → value < wan.value term.group share
      → link_load wan.groups added link + load_on (path_group_at wan.groups term.group term.place) link (most + 1) ≤ link_load wan.groups (amounts_at wan closings share) link + term.held
  load-above share most value after upto same above =
      omega (
        arith,
        one share after upto,
        load_on-mono (path_group_at wan.groups term.group term.place) link (most + 1) (amounts_at wan closings share term.group term.place) (omega (arith, is.has share after upto, is.amount, same, above)),
      )
