use Rattle.std.proofs.Common.{rules, ℕ, leb}
use Rattle.std.proofs.lemmas.List.Sorted.{IsPartitionPoint-from_clause, IsPartitionedBy-leb}
use Rattle.dwarf_info.proofs.SetFlags.{split_of}
use Rattle.dwarf_info.proofs.offsets.count_up_to.Goals as goal

pub returns : goal.returns
returns c =
    split_of c.args.numbers.now c.args.most c.partition_point.result c.partition_point.ensures.bound
    (IsPartitionPoint-from_clause (λ (n : ℕ). leb n c.args.most) c.args.numbers.now c.partition_point.result c.partition_point.ensures.partitioned
    (IsPartitionedBy-leb (λ (n : ℕ). n) c.args.numbers.now c.args.most c.requires) (λ a r q k. search rules))
