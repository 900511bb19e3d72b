use Rattle.std.proofs.Common.{◌≡◌, ◌-◌, ◌≤◌, length}
use Rattle.view_tables.specs.private.Values.{path_of_node}
use Rattle.view_tables.specs.private.top.Rows.{capped, number_before, rows_below}
use Rattle.view_tables.proofs.top.length.rows_length.Given as goal

abbrev pub invariant-loop-number : goal.invariant-loop-number
invariant-loop-number l = record {
  depth : l.depth ≡ length (path_of_node l.content (number_before l.number));
  more : length (rows_below l.content l.from) ≤ length (rows_below l.content l.number);
  long : l.sum ≡ capped (length (rows_below l.content l.number) - length (rows_below l.content l.from));
}
