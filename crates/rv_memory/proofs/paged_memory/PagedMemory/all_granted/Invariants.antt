use Rattle.std.proofs.Common.{◌≡◌, ℕ, ◌-◌, ◌<◌, ◌≤◌, true}
use Rattle.rv_memory.specs.AddressSpace.{may}
use Rattle.rv_memory.specs.private.Paging.{bit_of}
use Rattle.rv_memory.proofs.paged_memory.PagedMemory.all_granted.Given as goal

abbrev pub invariant-loop-next : goal.invariant-loop-next
invariant-loop-next l = record {
  low : l.at ≤ l.next;
  granted : (a : ℕ) → l.at ≤ a → a < l.next → may (bit_of l.right) l.self.regions a ≡ true;
}

abbrev pub decreases-loop-next : goal.decreases-loop-next
decreases-loop-next l = l.end - l.next
