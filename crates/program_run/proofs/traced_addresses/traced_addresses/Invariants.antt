use Rattle.std.proofs.Common.{◌≡◌, take}
use Rattle.program_run.specs.private.TracedAddresses.{gathered_of}
use Rattle.program_run.proofs.traced_addresses.traced_addresses.Given as goal

abbrev pub invariant-loop-hart : goal.invariant-loop-hart
invariant-loop-hart l = l.addresses ≡ gathered_of l.most (take l.hart l.trace.harts)
