use Rattle.std.proofs.Common.{◌≡◌, ◌*◌, ◌++◌}
use Rattle.tree_types.specs.TopDown.{spaces}
use Rattle.struct_listing.proofs.inlines.put_indent.Given as goal

abbrev pub invariant-loop : goal.invariant-loop
invariant-loop l = l.out.items ≡ l.fn.out.items ++ spaces (2 * l.counter)
