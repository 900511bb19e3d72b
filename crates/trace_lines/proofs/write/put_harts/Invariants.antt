use Rattle.std.proofs.Common.{◌≡◌, ◌++◌, take}
use Rattle.std.specs.List.{flat_map}
use Rattle.trace_lines.specs.Spelling.{hart_bytes}
use Rattle.trace_lines.proofs.write.put_harts.Given as goal

abbrev pub invariant-loop-hart : goal.invariant-loop-hart
invariant-loop-hart l = l.out.items ≡ l.fn.out.items ++ flat_map hart_bytes (take l.hart l.trace.harts)
