use Rattle.std.proofs.Common.{◌≡◌, ℕ, ◌+◌, ◌*◌, ◌^◌, ◌<◌, length, get_or}
use Rattle.rv_memory.specs.private.Paging.{paged_byte}
use Rattle.rv_memory.proofs.paged_memory.PagedMemory.page_contents_bytewise.Given as goal

abbrev pub invariant-loop-offset : goal.invariant-loop-offset
invariant-loop-offset l =
    (length l.bytes.items ≡ l.offset) × ((i : ℕ) → i < l.offset → get_or l.bytes.items i 0 ≡ paged_byte l.self (l.number * 2 ^ 12 + i))
