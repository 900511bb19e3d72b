use Rattle.std.proofs.Common.{◌≡◌, ◌*◌, ◌++◌}
use Rattle.tree_types.specs.TopDown.{spaces}
use Rattle.view_tables.proofs.cells.put_spaces.Given as goal

abbrev pub invariant-loop : goal.invariant-loop
invariant-loop l = l.out.items ≡ l.fn.out.items ++ spaces (2048 * l.counter)
