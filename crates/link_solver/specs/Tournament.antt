-- A tournament between the dues of links: the lesser due wins.
use Rattle.std.specs.Prelude.{◌≡◌, ℕ, zero, suc, ◌+◌, ◌*◌, ◌-◌, ◌/◌, ◌⊎◌, ◌<◌, ◌^◌, ◌&&◌, ◌||◌, List, length, Bool, if◌then◌else◌, nat_lt, nat_eq, slice_index}
use Rattle.link_solver.specs.declared.due.Due.{Due}
use Rattle.link_solver.specs.Dues.{due_at}

-- whether a link has a lesser due than another, or as low a one and a lower number
abbrev pub beats : List Due → ℕ → ℕ → Bool
beats dues link other =
    nat_lt (due_at dues link).share (due_at dues other).share
    || (nat_eq (due_at dues link).share (due_at dues other).share && nat_lt link other)

-- the one of two links that wins
abbrev pub winner_of : List Due → ℕ → ℕ → ℕ
winner_of dues left right = if beats dues right left then right else left

-- the link that stands at a node: below the number of links it is the one that won there, and from
-- there on the nodes are the leaves, a link at each
abbrev pub winner_at : List ℕ → ℕ → ℕ
winner_at best node = if nat_lt node (length best) then slice_index best node else node - length best

-- at the node the one of the two below it stands that wins
abbrev pub IsWonAt : List Due → List ℕ → ℕ → Type 0
IsWonAt dues best node =
    slice_index best node ≡ winner_of dues (winner_at best (2 * node)) (winner_at best (2 * node + 1))

-- a link stands at each inner node
pub record AreWinners (dues : List Due) (best : List ℕ) : Type 0 where
  pub each_link : length best ≡ length dues
  pub few : length dues < 2 ^ 32
  pub in_range : (node : ℕ) → 0 < node → node < length dues → slice_index best node < length dues

-- .. and it is the one of the two below that wins
pub record IsTournament (dues : List Due) (best : List ℕ) : Type 0 where
  pub winners : AreWinners dues best
  pub won : (node : ℕ) → 0 < node → node < length dues → IsWonAt dues best node

-- so many halvings of a node
unfoldable pub climbs : ℕ → ℕ → ℕ
climbs zero node = node
climbs (suc levels) node = climbs levels node / 2

-- one node is on the way from another to the root, or is that other
abbrev pub IsAbove : ℕ → ℕ → Type 0
IsAbove above node = (levels : ℕ) × (above ≡ climbs levels node)

-- all nodes have been played but those on the way from one node to the root
pub record IsClimbed (dues : List Due) (best : List ℕ) (from : ℕ) : Type 0 where
  pub winners : AreWinners dues best
  pub won : (node : ℕ) → 0 < node → node < length dues
      → IsAbove node from ⊎ IsWonAt dues best node
