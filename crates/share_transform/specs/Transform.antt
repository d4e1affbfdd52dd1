-- What contracts see of a transformation: a configured function, and matched shares, each with an
-- inner share.
use Rattle.std.specs.Prelude.{ℕ, ◌*◌, ◌/◌, ◌≤◌, List, ◌++◌, map, All}
use Rattle.std.specs.List.{range_with_len}
use Rattle.std.specs.List.Sorted.{IsStrictlyIncreasing}
use Rattle.bw_function.specs.BwFunction.{Function, IsBwFunction}
use Rattle.share_transform.specs.Shares.{AreMerged}

-- the parent is the configured function; a pair is a matched share and an inner share
pub record Transformation : Type 0 where
  pub parent : Function
  pub pairs : List (ℕ × ℕ)

-- the shares at which a pair is kept
abbrev pub matched_shares : List (ℕ × ℕ) → List ℕ
matched_shares pairs = map (λ pair. pair.0) pairs

-- the sixteenths of the top, rounded down
abbrev pub sixteenths_of : ℕ → List ℕ
sixteenths_of top = map (λ sixteenths. sixteenths * top / 16) (range_with_len 0 17)

-- the parent's point shares, and the sixteenths of the top
abbrev pub wanted_shares : Function → List ℕ
wanted_shares parent = map (λ point. point.share) parent.points ++ sixteenths_of parent.top

-- pairs that a search can start from: matched shares rise strictly, inner shares are up to the top
pub record ArePairs (pairs : List (ℕ × ℕ)) (top : ℕ) : Type 0 where
  pub rise : IsStrictlyIncreasing (matched_shares pairs)
  pub inside : All (λ pair. pair.1 ≤ top) pairs

-- the parent is a function of a document, and the pairs are at the wanted shares
pub record IsTransformation (transformation : Transformation) : Type 0 where
  pub parent : IsBwFunction transformation.parent
  pub matched : AreMerged (wanted_shares transformation.parent)
      (matched_shares transformation.pairs)
  pub pairs : ArePairs transformation.pairs transformation.parent.top

-- a matched share whose inner share was not yet found
abbrev pub without_inner_share : ℕ → ℕ × ℕ
without_inner_share share = (share, 0)

-- each matched share with its inner share
abbrev pub rebuilt : (ℕ → ℕ) → List (ℕ × ℕ) → List (ℕ × ℕ)
rebuilt inner pairs = map (λ pair. (pair.0, inner pair.0)) pairs
