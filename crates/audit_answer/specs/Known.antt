-- A table that is known beside what it was made of.
use Rattle.std.specs.Prelude.{◌≡◌, slice_index}
use Rattle.bwe_specs.specs.Allocation.{Plan, table_under}
use Rattle.audit_answer.specs.declared.known.Known.{Known}

-- the table is that of the plan under the demands and capacities that are kept
abbrev pub IsKnown : Plan → Known → Type 0
IsKnown plan known =
    known.table ≡ table_under plan known.table.prefix (λ task. slice_index known.demands.items task)
    known.capacities.items
