-- The fault of a link, case by case.
use Rattle.std.proofs.Common.{◌≡◌, ℕ, suc, ◌<◌, ◌≤◌, Bool, true, false, List, [], ◌∷◌, ◌++◌, length, refl, sym, ◌∙◌, inl, inr, Option, Some, None, lt-ltb, le-ltb}
use Rattle.std.proofs.lemmas.Bool.{cases_lt}
use Rattle.std.specs.List.{list_any}
use Rattle.std.specs.Str.{bytes_eq}
use Rattle.wan_topology.specs.declared.fault.TopologyFault.{TopologyFault}
use Rattle.wan_topology.specs.declared.fault.TopologyFault.TheVariants.{TooManyLinks, RepeatedLink, SelfLink, CapacityOverMax}
use Rattle.wan_topology.specs.Network.{Link}
use Rattle.wan_topology.specs.Faults.{link_fault, first_link_fault, topology_fault}

module _ (names : List (List ℕ)) (number : ℕ) (link : Link) where
  pub link_fault-repeated : list_any (bytes_eq link.name) names ≡ true → link_fault names number link ≡ Some (RepeatedLink number)
  unfolding link_fault
  link_fault-repeated repeated = rw repeated

  pub link_fault-same_site : list_any (bytes_eq link.name) names ≡ false → bytes_eq link.from link.to ≡ true → link_fault names number link ≡ Some (SelfLink number)
  unfolding link_fault
  link_fault-same_site new same = rw (new, same)

  pub link_fault-over : list_any (bytes_eq link.name) names ≡ false → bytes_eq link.from link.to ≡ false → 1_000_000_000_000 < link.capacity → link_fault names number link ≡ Some (CapacityOverMax number)
  unfolding link_fault
  link_fault-over new other over = let e = lt-ltb 1_000_000_000_000 link.capacity over in rw (new, other, e)

  pub link_fault-none : list_any (bytes_eq link.name) names ≡ false → bytes_eq link.from link.to ≡ false → link.capacity ≤ 1_000_000_000_000 → link_fault names number link ≡ None
  unfolding link_fault
  link_fault-none new other within = let e = le-ltb 1_000_000_000_000 link.capacity within in rw (new, other, e)

  -- a link without a fault has a name that is new, and a capacity in range
  pub none-new : link_fault names number link ≡ None → list_any (bytes_eq link.name) names ≡ false
  unfolding link_fault
  none-new none = go (list_any (bytes_eq link.name) names) refl where
    go : (repeated : Bool) → list_any (bytes_eq link.name) names ≡ repeated → list_any (bytes_eq link.name) names ≡ false
    go true e = absurd (let wrong : Some (RepeatedLink number) ≡ None = sym (link_fault-repeated e) ∙ none in cc)
    go false e = e

  pub none-in_range : link_fault names number link ≡ None → link.capacity ≤ 1_000_000_000_000
  none-in_range none =
      let new = none-new none in
      elim (cases_lt 1_000_000_000_000 link.capacity) [
        | inl over ↦ go over (bytes_eq link.from link.to) refl
        | inr within ↦ within
      ] where
        go : 1_000_000_000_000 < link.capacity → (same : Bool) → bytes_eq link.from link.to ≡ same → link.capacity ≤ 1_000_000_000_000
        go over true e = absurd (let wrong : Some (SelfLink number) ≡ None = sym (link_fault-same_site (none-new none) e) ∙ none in cc)
        go over false e = absurd (let wrong : Some (CapacityOverMax number) ≡ None = sym (link_fault-over (none-new none) e over) ∙ none in cc)

-- the first fault of links, the first of which has none, is that of the others
pub first_link_fault-none : (names : List (List ℕ)) (number : ℕ) (link : Link) (later : List Link) → link_fault names number link ≡ None
    → first_link_fault names number (link ∷ later) ≡ first_link_fault (names ++ link.name ∷ []) (suc number) later
unfolding first_link_fault
first_link_fault-none names number link later none = rw none

pub first_link_fault-some : (names : List (List ℕ)) (number : ℕ) (link : Link) (later : List Link) (fault : TopologyFault) → link_fault names number link ≡ Some fault
    → first_link_fault names number (link ∷ later) ≡ Some fault
unfolding first_link_fault
first_link_fault-some names number link later fault some = rw some

-- where no link has a fault, the first has none
pub none-first : (names : List (List ℕ)) (number : ℕ) (link : Link) (later : List Link) → first_link_fault names number (link ∷ later) ≡ None → link_fault names number link ≡ None
none-first names number link later none = go (link_fault names number link) refl where
  go : (fault : Option TopologyFault) → link_fault names number link ≡ fault → link_fault names number link ≡ None
  go None e = e
  go (Some fault) e = absurd (let wrong : Some fault ≡ None = sym (first_link_fault-some names number link later fault e) ∙ none in cc)

pub first_link_fault-end : (names : List (List ℕ)) (number : ℕ) → first_link_fault names number [] ≡ None
unfolding first_link_fault
first_link_fault-end names number = refl

pub topology_fault-many : (links : List Link) → 65_536 < length links → topology_fault links ≡ Some (TooManyLinks (length links))
unfolding topology_fault
topology_fault-many links many = let e = lt-ltb 65_536 (length links) many in rw e

pub topology_fault-few : (links : List Link) → length links ≤ 65_536 → topology_fault links ≡ first_link_fault [] 0 links
unfolding topology_fault
topology_fault-few links few = let e = le-ltb 65_536 (length links) few in rw e
