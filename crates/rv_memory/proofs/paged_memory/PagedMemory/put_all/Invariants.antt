use Rattle.std.proofs.Common.{◌≡◌, ℕ, ◌+◌, ◌^◌, ◌<◌, ◌≤◌, length, take}
use Rattle.rv_memory.specs.private.Paging.{page_of, paged_byte, value_after, IsPaged}
use Rattle.rv_memory.proofs.paged_memory.PagedMemory.put_all.Given as goal

abbrev pub invariant-loop-offset : goal.invariant-loop-offset
invariant-loop-offset l = record {
  rest : l.self ≡ record l.initial.self { pages = l.self.pages };
  paged : IsPaged l.self;
  made : (i : ℕ) → i < length l.source → 2 ^ 12 ≤ length (page_of l.self (l.at + i)).bytes;
  values : (a : ℕ) → paged_byte l.self a ≡ value_after l.initial.self l.at (take l.offset l.source) a;
}
