use Rattle.std.proofs.Common.{◌≡◌, ◌*◌, ◌≤◌, ◌++◌}
use Rattle.std.specs.List.{flat_map, range_with_len}
use Rattle.guest_gen.specs.Draws.{draw_state}
use Rattle.guest_gen.specs.Guest.{slice_line}
use Rattle.guest_gen.proofs.generate.put_slices.Given as goal

abbrev pub invariant-loop : goal.invariant-loop
invariant-loop l = record {
  lines : l.out.items ≡ l.fn.out.items ++ flat_map (slice_line l.fn.draws.state) (range_with_len 0 l.counter);
  state : l.draws.state ≡ draw_state (2 * l.counter) l.fn.draws.state;
  few : l.counter ≤ l.count;
}
