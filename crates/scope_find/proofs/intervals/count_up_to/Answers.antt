use Rattle.std.proofs.Common.{rules, leb}
use Rattle.std.proofs.lemmas.List.Sorted.{IsPartitionPoint-from_clause, IsPartitionedBy-leb}
use Rattle.scope_find.specs.declared.intervals.AddressInterval.{AddressInterval}
use Rattle.scope_find.proofs.IntervalsFound.{split_of}
use Rattle.scope_find.proofs.intervals.count_up_to.Goals as goal

pub returns : goal.returns
returns c =
    split_of c.args.intervals.now c.args.address c.partition_point.result c.partition_point.ensures.bound
    (IsPartitionPoint-from_clause (λ (p : AddressInterval). leb p.start c.args.address) c.args.intervals.now c.partition_point.result c.partition_point.ensures.partitioned
    (IsPartitionedBy-leb (λ (p : AddressInterval). p.start) c.args.intervals.now c.args.address c.requires) (λ a r q k. search rules))
