use Rattle.std.proofs.Common.{◌≡◌, ◌*◌, ◌≤◌, ◌++◌}
use Rattle.std.specs.List.{flat_map, range_with_len}
use Rattle.guest_gen.specs.Code.{function_bytes}
use Rattle.guest_gen.specs.Draws.{draw_state}
use Rattle.guest_gen.proofs.code.put_functions.Given as goal

abbrev pub invariant-loop-number : goal.invariant-loop-number
invariant-loop-number l = record {
  code : l.out.items ≡ l.fn.out.items ++ flat_map (function_bytes l.fn.draws.state) (range_with_len 0 l.number);
  state : l.draws.state ≡ draw_state (3 * l.number) l.fn.draws.state;
  few : l.number ≤ l.count;
}
