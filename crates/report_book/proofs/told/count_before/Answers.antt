use Rattle.std.proofs.Common.{ltb, rules}
use Rattle.std.proofs.lemmas.List.Sorted.{IsPartitionedBy-ltb, IsPartitionPoint-from_clause}
use Rattle.report_book.proofs.told.count_before.Goals as goal

pub returns-clause-before : goal.returns-clause-before
returns-clause-before c =
    IsPartitionPoint-from_clause (λ entry. ltb entry.place c.args.place) c.args.told.now c.partition_point.result
    c.partition_point.ensures.partitioned (IsPartitionedBy-ltb (λ entry. entry.place) c.args.told.now c.args.place c.requires.rising) (search rules)
