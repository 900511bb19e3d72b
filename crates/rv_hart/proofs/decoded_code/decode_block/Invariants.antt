use Rattle.std.proofs.Common.{◌≤◌, ◌-◌, length}
use Rattle.rv_hart.specs.private.Decoding.{IsCode}
use Rattle.rv_hart.proofs.decoded_code.decode_block.Given as goal

abbrev pub invariant-loop-at : goal.invariant-loop-at
invariant-loop-at l = record {
  within : l.count ≤ length l.items.items - 1;
  code : IsCode l.memory l.base l.items.items;
}
