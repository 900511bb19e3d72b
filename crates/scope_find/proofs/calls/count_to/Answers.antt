use Rattle.std.proofs.Common.{rules}
use Rattle.std.proofs.lemmas.List.Sorted.{IsPartitionPoint-from_clause}
use Rattle.scope_find.specs.private.Calls.{is_up_to}
use Rattle.scope_find.proofs.CallsFound.{parted, split_at}
use Rattle.scope_find.proofs.calls.count_to.Goals as goal

pub returns : goal.returns
returns c =
    split_at c.args.calls.now c.args.item c.args.address c.partition_point.result c.partition_point.ensures.bound
    (IsPartitionPoint-from_clause (is_up_to c.args.item c.args.address) c.args.calls.now c.partition_point.result c.partition_point.ensures.partitioned
    (parted c.args.calls.now c.args.item c.args.address c.requires) (λ a r q k. search rules))
