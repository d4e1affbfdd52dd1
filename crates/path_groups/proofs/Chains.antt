-- The links of a path, one by one.
use Rattle.std.proofs.Common.{◌≡◌, ℕ, ◌+◌, ◌<◌, ◌≤◌, true, false, ◌&&◌, ◌||◌, List, [], ◌∷◌, length, refl, ◌∙◌, ap, arith, get_or, drop, add-one, ◌==◌, eqb-true}
use Rattle.std.specs.List.{list_any}
use Rattle.std.specs.Str.{bytes_eq}
use Rattle.std.proofs.Math.Seq.{drop-cons}
use Rattle.std.proofs.lemmas.List.{drop_all}
use Rattle.wan_topology.specs.Network.{Network, sites_of}
use Rattle.path_groups.specs.Faults.{leads, is_chain, repeats}

module _ (network : Network) (to : List ℕ) (links : List ℕ) (n : ℕ) where
  leads-at : (site : List ℕ) → n < length links
      → leads network site to (drop n links) ≡ (bytes_eq (sites_of network (get_or links n 0)).from site && leads network (sites_of network (get_or links n 0)).to to (drop (n + 1) links))
  unfolding leads
  leads-at site lt = ap (leads network site to) (drop-cons links n 0 lt) ∙ rw add-one

  -- a link that starts elsewhere
  pub leads-elsewhere : (site from : List ℕ) → n < length links → from ≡ (sites_of network (get_or links n 0)).from → bytes_eq from site ≡ false → leads network site to (drop n links) ≡ false
  leads-elsewhere site from lt is other = leads-at site lt ∙ rw (← is, other)

  -- a link that starts there
  pub leads-on : (site from next : List ℕ) → n < length links → from ≡ (sites_of network (get_or links n 0)).from → next ≡ (sites_of network (get_or links n 0)).to → bytes_eq from site ≡ true
      → leads network site to (drop n links) ≡ leads network next to (drop (n + 1) links)
  leads-on site from next lt is goes there = leads-at site lt ∙ rw (← is, there, ← goes)

  -- after all links
  pub leads-end : (site : List ℕ) → length links ≤ n → leads network site to (drop n links) ≡ bytes_eq site to
  unfolding leads
  leads-end site end = ap (leads network site to) (drop_all n links end)

-- a path has a link
pub is_chain-some : (network : Network) (from to links : List ℕ) → (length links == 0) ≡ false → is_chain network from to links ≡ leads network from to links
is_chain-some network from to [] some = absurd (cc)
is_chain-some network from to (link ∷ later) some = refl

pub is_chain-none : (network : Network) (from to links : List ℕ) → (length links == 0) ≡ true → is_chain network from to links ≡ false
is_chain-none network from to [] none = refl
is_chain-none network from to (link ∷ later) none = let e = eqb-true (length (link ∷ later)) 0 none in absurd (omega arith)

module _ (links : List ℕ) (n : ℕ) where
  repeats-at : n < length links → repeats (drop n links) ≡ (list_any (λ other. other == get_or links n 0) (drop (n + 1) links) || repeats (drop (n + 1) links))
  unfolding repeats
  repeats-at lt = ap repeats (drop-cons links n 0 lt) ∙ rw add-one

  -- a link that stands again
  pub repeats-again : n < length links → list_any (λ other. other == get_or links n 0) (drop (n + 1) links) ≡ true → repeats (drop n links) ≡ true
  repeats-again lt again = repeats-at lt ∙ rw again

  pub repeats-on : n < length links → list_any (λ other. other == get_or links n 0) (drop (n + 1) links) ≡ false → repeats (drop n links) ≡ repeats (drop (n + 1) links)
  repeats-on lt once = repeats-at lt ∙ rw once

  pub repeats-end : length links ≤ n → repeats (drop n links) ≡ false
  unfolding repeats
  repeats-end end = ap repeats (drop_all n links end)
