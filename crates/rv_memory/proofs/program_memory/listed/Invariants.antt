use Rattle.std.proofs.Common.{◌≡◌, ◌++◌, map}
use Rattle.std.specs.List.{range_with_len}
use Rattle.rv_memory.specs.AddressSpace.{stack_of}
use Rattle.rv_memory.proofs.program_memory.listed.Given as goal

abbrev pub invariant-loop-hart : goal.invariant-loop-hart
invariant-loop-hart l = l.regions.items ≡ l.segments ++ map stack_of (range_with_len 0 l.hart)
