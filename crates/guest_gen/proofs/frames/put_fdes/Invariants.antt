use Rattle.std.proofs.Common.{◌≡◌, ◌≤◌, ◌++◌}
use Rattle.std.specs.List.{flat_map, range_with_len}
use Rattle.guest_gen.specs.Frames.{fde}
use Rattle.guest_gen.proofs.frames.put_fdes.Given as goal

abbrev pub invariant-loop-number : goal.invariant-loop-number
invariant-loop-number l = record {
  bytes : l.out.items ≡ l.fn.out.items ++ flat_map fde (range_with_len 0 l.number);
  few : l.number ≤ l.count;
}
