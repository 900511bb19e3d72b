use Rattle.std.proofs.Common.{◌≡◌, ℕ, ◌+◌, ◌^◌, ◌<◌, ◌≤◌, length}
use Rattle.rv_memory.specs.private.Paging.{page_of, paged_byte, IsPaged}
use Rattle.rv_memory.proofs.paged_memory.PagedMemory.make_all.Given as goal

abbrev pub invariant-loop-offset : goal.invariant-loop-offset
invariant-loop-offset l = record {
  rest : l.self ≡ record l.initial.self { pages = l.self.pages };
  paged : IsPaged l.self;
  values : (a : ℕ) → paged_byte l.self a ≡ paged_byte l.initial.self a;
  made : (i : ℕ) → i < l.offset → 2 ^ 12 ≤ length (page_of l.self (l.at + i)).bytes;
}
