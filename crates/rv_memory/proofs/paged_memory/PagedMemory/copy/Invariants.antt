use Rattle.std.proofs.Common.{◌≡◌, ℕ, ◌+◌, ◌<◌, get_or}
use Rattle.rv_memory.specs.private.Paging.{paged_byte}
use Rattle.rv_memory.proofs.paged_memory.PagedMemory.copy.Given as goal

abbrev pub invariant-loop-offset : goal.invariant-loop-offset
invariant-loop-offset l = (i : ℕ) → i < l.offset → get_or l.out i 0 ≡ paged_byte l.self (l.at + i)
