use Rattle.std.proofs.Common.{◌≡◌, ◌++◌, length}
use Rattle.view_tables.specs.private.Values.{path_of_node}
use Rattle.view_tables.specs.private.top.Rows.{number_before}
use Rattle.prof_stats.specs.private.Rows.{stats_rows_below}
use Rattle.prof_stats.proofs.table.put_stats_table.Given as goal

abbrev pub invariant-loop-number : goal.invariant-loop-number
invariant-loop-number l = record {
  depth : l.depth ≡ length (path_of_node l.content (number_before l.number));
  rows : l.out.items ≡ l.initial.out.items ++ stats_rows_below l.content l.kind l.number;
}
