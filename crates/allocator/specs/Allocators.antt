-- An allocator, as contracts see it.
use Rattle.std.specs.Prelude.{ℕ, List, Option, option_map, Vec}
use Rattle.std.proofs.Common.{Global}
use Rattle.bwe_specs.specs.Paths.{PathGroups}
use Rattle.bwe_specs.specs.Allocation.{Plan}
use Rattle.plain_table.specs.Reported.{Reported}
use Rattle.plain_table.specs.Tables.{plan_by}

-- a tree and a network after reports, and the path groups of each group
pub record Allocating : Type 0 where
  pub reported : Reported
  pub groups : List PathGroups

abbrev pub plan_in : Allocating → Plan
plan_in allocating = plan_by allocating.reported allocating.groups

-- capacities that are kept, where they are
abbrev pub kept : Option (Vec ℕ Global) → Option (List ℕ)
kept given = option_map (λ capacities. capacities.items) given
