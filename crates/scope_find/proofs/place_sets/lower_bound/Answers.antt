use Rattle.std.proofs.Common.{rules, ltb, ℕ}
use Rattle.std.proofs.lemmas.List.Sorted.{IsPartitionPoint-from_clause, IsPartitionedBy-ltb}
use Rattle.scope_find.proofs.HeldPlaces.{lower_bound_of}
use Rattle.scope_find.proofs.place_sets.lower_bound.Goals as goal

pub returns : goal.returns
returns c =
    lower_bound_of c.args.addresses.now c.args.address c.partition_point.result c.partition_point.ensures.bound
    (IsPartitionPoint-from_clause (λ (a : ℕ). ltb a c.args.address) c.args.addresses.now c.partition_point.result c.partition_point.ensures.partitioned
    (IsPartitionedBy-ltb (λ (a : ℕ). a) c.args.addresses.now c.args.address c.requires.rising) (λ a r q k. search rules))
