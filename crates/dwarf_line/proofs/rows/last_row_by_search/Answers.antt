use Rattle.std.proofs.Common.{arith, rules, leb}
use Rattle.std.proofs.lemmas.List.Sorted.{IsPartitionPoint-from_clause, IsPartitionedBy-leb}
use Rattle.dwarf_line.specs.declared.registers.LineRow.{LineRow}
use Rattle.dwarf_line.proofs.HalvedRows.{rises_by, none_in_force, last_in_force}
use Rattle.dwarf_line.proofs.rows.last_row_by_search.Goals as goal

pub returns-then-count-eq0 : goal.returns-then-count-eq0
returns-then-count-eq0 c =
    none_in_force c.args.address c.args.rows.now c.partition_point-count.result c.requires c.partition_point-count.ensures.bound
    (IsPartitionPoint-from_clause (λ (r : LineRow). leb r.address c.args.address) c.args.rows.now c.partition_point-count.result c.partition_point-count.ensures.partitioned
    (IsPartitionedBy-leb (λ (r : LineRow). r.address) c.args.rows.now c.args.address (rises_by c.args.rows.now c.requires)) (λ a r q k. search rules))
    (omega arith)

pub returns : goal.returns
returns c =
    last_in_force c.args.address c.args.rows.now c.partition_point-count.result c.requires c.partition_point-count.ensures.bound
    (IsPartitionPoint-from_clause (λ (r : LineRow). leb r.address c.args.address) c.args.rows.now c.partition_point-count.result c.partition_point-count.ensures.partitioned
    (IsPartitionedBy-leb (λ (r : LineRow). r.address) c.args.rows.now c.args.address (rises_by c.args.rows.now c.requires)) (λ a r q k. search rules))
    (omega arith)
