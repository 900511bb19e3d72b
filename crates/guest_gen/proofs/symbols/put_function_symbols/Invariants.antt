use Rattle.std.proofs.Common.{◌≡◌, ◌≤◌, ◌++◌}
use Rattle.std.specs.List.{flat_map, range_with_len}
use Rattle.guest_gen.specs.private.Names.{short_symbol}
use Rattle.guest_gen.proofs.symbols.put_function_symbols.Given as goal

abbrev pub invariant-loop-number : goal.invariant-loop-number
invariant-loop-number l = record {
  bytes : l.out.items ≡ l.fn.out.items ++ flat_map short_symbol (range_with_len 0 l.number);
  few : l.number ≤ l.count;
}
