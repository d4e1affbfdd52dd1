-- The limits below nodes that are handed amounts, one node after the other.
use Rattle.std.proofs.Common.{◌≡◌, ℕ, ◌+◌, ◌<◌, ◌≤◌, List, ◌++◌, length, get_or, take, map, flat_map, zip, ap, ap₂, sym, ◌∙◌, arith}
use Rattle.std.proofs.lemmas.List.{length-map, take_all}
use Rattle.std.proofs.lemmas.Slice.Zip.{get_or-zip, length-zip}
use Rattle.bwe_specs.specs.Distribution.{distribution}
use Rattle.policy_tree.proofs.Counting.{flat_map-more}
use Rattle.bwe_specs.proofs.HandedOut.{length-distribution}

-- each node is handed an amount
pub handed-size : {X : Type 0} (meaning : X → ℕ → ℕ) (top amount : ℕ) (nodes : List X) (amounts : List ℕ)
    → amounts ≡ distribution top (map meaning nodes) amount → length amounts ≡ length nodes
handed-size meaning top amount nodes amounts are =
    ap (λ (list : List ℕ). length list) are ∙ length-distribution top (map meaning nodes) amount ∙ length-map nodes meaning

module _ {X : Type 0} (limits : X → ℕ → List ℕ) (nodes : List X) (amounts : List ℕ) (same : length amounts ≡ length nodes) where
  abbrev pub below : X × ℕ → List ℕ
  below given = limits given.0 given.1

  -- the limits below the first nodes, and those below one more
  pub limits-more : (place : ℕ) (node : X) (amount : ℕ) (before here after : List ℕ) → place < length nodes
      → node ≡ get_or nodes place node → amount ≡ get_or amounts place amount
      → before ≡ flat_map below (take place (zip nodes amounts)) → here ≡ limits node amount → after ≡ before ++ here
      → after ≡ flat_map below (take (place + 1) (zip nodes amounts))
  limits-more place node amount before here after lt is_node is_amount first next all =
      let pair : X × ℕ = (node, amount) in
      let lt_amounts : place < length amounts = omega (arith, same, lt) in
      let read : pair ≡ get_or (zip nodes amounts) place pair =
      ap₂ (λ (n : X) (a : ℕ). (n, a)) is_node is_amount ∙ sym (get_or-zip nodes amounts place pair lt lt_amounts) in
      let within : place < length (zip nodes amounts) = omega (arith, length-zip nodes amounts, lt, lt_amounts) in
      all
      ∙ ap₂ (λ (one two : List ℕ). one ++ two) first next
      ∙ sym (flat_map-more below (zip nodes amounts) place pair within read)

  -- the limits below all nodes
  pub limits-all : (place : ℕ) (before : List ℕ) → length nodes ≤ place
      → before ≡ flat_map below (take place (zip nodes amounts)) → before ≡ flat_map below (zip nodes amounts)
  limits-all place before le first =
      let all : take place (zip nodes amounts) ≡ zip nodes amounts = take_all place (zip nodes amounts) (omega (arith, length-zip nodes amounts, le)) in
      first ∙ ap (λ (given : List (X × ℕ)). flat_map below given) all
