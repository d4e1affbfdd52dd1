-- The ranges of the numbers of a command.
use Rattle.std.specs.Prelude.{◌≤◌}
use Rattle.command_line.specs.declared.CommandLine.{CommandLine}
use Rattle.command_line.specs.declared.CommandLine.TheVariants.{Solve, Check, Run, Make, Bulk, Audit, Tiers, Enforce, Estimate, Levels}

-- the numbers of a command are in their ranges
abbrev pub IsInRange : CommandLine → Type 0
IsInRange Solve = Unit {0}
IsInRange Check = Unit {0}
IsInRange (Run readers reads) = (1 ≤ readers) × (readers ≤ 64) × (reads ≤ 1000)
IsInRange (Make seed groups tasks) = (1 ≤ groups) × (groups ≤ 1024) × (groups ≤ tasks)
    × (tasks ≤ 20000)
IsInRange (Bulk seed groups tasks) = (1 ≤ groups) × (groups ≤ 1024) × (groups ≤ tasks)
    × (tasks ≤ 20000)
IsInRange Audit = Unit {0}
IsInRange Tiers = Unit {0}
IsInRange Enforce = Unit {0}
IsInRange (Estimate window headroom) = (1 ≤ window) × (window ≤ 1000) × (100 ≤ headroom)
    × (headroom ≤ 1000)
IsInRange (Levels share) = share ≤ 1000000000
