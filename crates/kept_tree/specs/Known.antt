-- What is kept of the groups of a tree is right under its demands.
use Rattle.std.specs.Prelude.{◌≡◌, ℕ, ◌<◌, List, length, All, Option, IfSome, Vec, slice_index_or}
use Rattle.std.specs.Option.{ForSome}
use Rattle.std.proofs.Common.{Global}
use Rattle.bwe_specs.specs.Tree.{cluster_limits}
use Rattle.mpfa_fill.specs.GroupValues.{Values}
use Rattle.policy_tree.specs.Trees.{Tree, demand_in, value_in}
use Rattle.policy_tree.specs.Nodes.{cluster_in}
use Rattle.kept_tree.specs.declared.group.KnownValue.{KnownValue}
use Rattle.kept_tree.specs.declared.group.KnownLimits.{KnownLimits}
use Rattle.kept_tree.specs.declared.group.KnownGroup.{KnownGroup}

-- each group's value under the demands of the tree
abbrev pub values_of : Tree → Values
values_of tree = record { groups = length tree.clusters; top = tree.top; value = value_in tree }

-- the limits of a group's tasks where it has an amount
abbrev pub limits_in : Tree → ℕ → ℕ → List ℕ
limits_in tree group amount =
    cluster_limits tree.top (demand_in tree) (cluster_in tree group) amount

-- a value at its share, and limits under their amount
abbrev pub IsValueBy : (ℕ → ℕ) → KnownValue → Type 0
IsValueBy value_of known = known.value ≡ value_of known.share

abbrev pub AreLimitsBy : (ℕ → List ℕ) → KnownLimits → Type 0
AreLimitsBy limits_of known = known.limits.items ≡ limits_of known.amount

-- what is kept of a group with these values and limits
pub record IsKnownOf (value_of : ℕ → ℕ) (limits_of : ℕ → List ℕ) (known : KnownGroup) : Type 0 where
  pub values : All (IsValueBy value_of) known.values.items
  pub limits : ForSome known.limits (AreLimitsBy limits_of)

abbrev pub IsKnown : Tree → ℕ → KnownGroup → Type 0
IsKnown tree group known = IsKnownOf (value_in tree group) (limits_in tree group) known

-- of each group, by its number
pub record AreKnown (tree : Tree) (known : List KnownGroup) : Type 0 where
  pub count : length known ≡ length tree.clusters
  pub each : (group : ℕ) (d : KnownGroup) → group < length known
      → IsKnown tree group (slice_index_or known group d)

-- where something is kept
abbrev pub AreKept : Tree → Option (Vec KnownGroup Global) → Type 0
AreKept tree kept = IfSome kept (λ known. AreKnown tree known.items)
