use Rattle.std.proofs.Common.{◌≡◌, ◌++◌, length}
use Rattle.view_tables.specs.private.Values.{path_of_node}
use Rattle.view_tables.specs.private.top.Rows.{number_before, rows_below}
use Rattle.view_tables.proofs.top.table.put_top_down.Given as goal

abbrev pub invariant-loop-number : goal.invariant-loop-number
invariant-loop-number l = record {
  depth : l.depth ≡ length (path_of_node l.content (number_before l.number));
  rows : l.out.items ≡ l.initial.out.items ++ rows_below l.content l.number;
}
