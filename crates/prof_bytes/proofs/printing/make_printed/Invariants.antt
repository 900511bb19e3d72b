use Rattle.std.proofs.Common.{◌≡◌, ◌++◌, drop, take}
use Rattle.prof_bytes.specs.Printing.{printed}
use Rattle.prof_bytes.proofs.printing.make_printed.Given as goal

abbrev pub invariant-loop-byte : goal.invariant-loop-byte
invariant-loop-byte l = l.name ≡ printed (take l.byte-index l.initial.name) ++ drop l.byte-index l.initial.name
