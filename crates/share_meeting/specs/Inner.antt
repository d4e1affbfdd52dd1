-- The inner share of a share.
use Rattle.std.specs.Prelude.{ℕ}
use Rattle.bwe_specs.specs.Tree.{inner_share}
use Rattle.bw_function.specs.BwFunction.{Function}

-- the share at which the children have together what the parent gives at a share
abbrev pub inner_share_of : Function → (ℕ → ℕ) → ℕ → ℕ
inner_share_of parent sum share = inner_share parent.top parent.points sum share
